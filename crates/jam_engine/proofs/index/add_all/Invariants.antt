use Rattle.std.proofs.Common.{List, take, ℕ, ◌||◌, ◌≡◌}
use Rattle.jam_engine.specs.Tables.{is_in}
use Rattle.jam_engine.specs.Targets.{has}
use Rattle.jam_engine.proofs.index.add_all.Given as goal

abbrev pub invariant-loop-text : goal.invariant-loop-text
invariant-loop-text l = (t : List ℕ) → is_in l.set t ≡ (is_in l.initial.set t || has (take l.text-index l.texts) t)
