-- Frames that are opened.
use Rattle.std.specs.Prelude.{List, [], ◌∷◌}
use Rattle.jam_journal.specs.Tables.{Text}
use Rattle.jam_journal.specs.Scopes.{Value, Binding, enter, enter_call, bind, bind_each}
use Rattle.jam_scope.specs.Worlds.{World, Worlds}
use Rattle.jam_scope.specs.Changes.{rescoped, module_in, own_of}

-- what is bound where the target is the first of these texts
abbrev pub own_in : Value → World → List Binding
own_in [] w = []
own_in (target ∷ more) w = own_of target w

abbrev pub entered : Worlds → Worlds
entered ws = rescoped (enter (module_in ws.now)) ws

abbrev pub on_entered : Value → Worlds → Worlds
on_entered targets ws = rescoped (bind_each (own_in targets ws.now)) (entered ws)

abbrev pub loop_entered : Text → Worlds → Worlds
loop_entered name ws = rescoped (bind name []) (entered ws)

abbrev pub call_entered : Text → List Binding → Worlds → Worlds
call_entered home bindings ws = rescoped (bind_each bindings) (rescoped (enter_call home) ws)
