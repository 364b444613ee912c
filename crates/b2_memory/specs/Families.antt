use Rattle.std.specs.Prelude.{[], ◌∷◌, ◌++◌, Some}
use Rattle.b2_host.specs.ChildProcesses.{Given, Child, Family, one_more}
use Rattle.b2_host.specs.declared.children.ChildEvent.TheVariants as events

-- a child, by what it was given
abbrev pub child_with : Given → Child
child_with given = record { step = given.step; ins = given.ins; outs = given.outs; given = Some given }

-- one more child runs, with what it was given
abbrev pub admitted : Given → Family → Family
admitted given family = record {
  running = family.running ++ child_with given ∷ [];
  events = family.events ++ events.Start given.step ∷ [];
  given = one_more family.given (Some given);
}
