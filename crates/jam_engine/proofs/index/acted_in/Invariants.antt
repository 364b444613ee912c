use Rattle.std.proofs.Common.{List, take, ℕ, ◌≡◌}
use Rattle.std.specs.List.{list_any}
use Rattle.jam_engine.specs.Tables.{is_in}
use Rattle.jam_engine.specs.Targets.{has}
use Rattle.jam_engine.proofs.index.acted_in.Given as goal

abbrev pub invariant-loop-act : goal.invariant-loop-act
invariant-loop-act l = (t : List ℕ) → is_in l.set t ≡ list_any (λ act. has act.targets t) (take l.act-index l.acts)
