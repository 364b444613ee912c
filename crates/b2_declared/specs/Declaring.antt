-- What the declaring calls of a load make of it.
use Rattle.std.specs.Prelude.{List, Result, Ok}
use Rattle.b2_base.specs.Results.{and_then}
use Rattle.b2_declared.specs.declared.fault.DeclaringFault.{DeclaringFault}
use Rattle.b2_declared.specs.declared.visit.Visit.{Visit}
use Rattle.b2_declared.specs.declared.visit.Call.{Call}
use Rattle.b2_declared.specs.declared.whole.Declared.{Declared}
use Rattle.b2_declared.specs.Carrying.{Tables, tables_of}
use Rattle.b2_declared.specs.Gathering.{Gathered, gathered_by}

-- all of it
abbrev pub whole : Tables → Gathered → Declared
whole t g = record { places = g.places; targets = g.targets; tests = g.tests; ids = g.ids; registry = t.features; types = t.registered; indirect = g.indirect }

-- The calls are carried out in order, up to the first that is refused. Then their property texts are read in order, in the
-- table of all features, up to the first that is refused.
abbrev pub declared : List Visit → List Call → Result Declared DeclaringFault
declared visits calls = and_then (λ t. and_then (λ g. Ok (whole t g)) (gathered_by t.features visits calls)) (tables_of visits calls)
