-- Bindings of the code, as data.
use Rattle.std.specs.Prelude.{List, map}
use Rattle.jam_journal.specs.Scopes.{Binding}
use Rattle.jam_values.specs.declared.bindings.Bound.{Bound}

abbrev pub binding_of : Bound → Binding
binding_of bound = (bound.name, bound.value)

abbrev pub bindings_of : List Bound → List Binding
bindings_of = map binding_of
