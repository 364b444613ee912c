-- What the values that the calls fill stand for.
use Rattle.b2_declared.specs.declared.tables.Tables.{Tables as Inside}
use Rattle.b2_declared.specs.declared.gathered.DeclaredSoFar.{DeclaredSoFar}
use Rattle.b2_declared.specs.Carrying.{Tables}
use Rattle.b2_declared.specs.Gathering.{Gathered}

abbrev pub seen : Inside → Tables
seen t = record { features = t.registry; registered = t.types; has_gcc = t.has_gcc; begun = t.begun.items }

abbrev pub brought : DeclaredSoFar → Gathered
brought g = record { places = g.places.items; targets = g.targets; tests = g.tests; ids = g.ids; indirect = g.indirect }
