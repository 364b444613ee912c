use Rattle.std.proofs.Common.{◌≡◌, ℕ, ◌<◌, List, Some, get_or, slice_get}
use Rattle.b2_facts.specs.Facts.{path_at}
use Rattle.b2_verdicts.proofs.comparing.have_paths.Given as goal

-- the record has the paths so far
abbrev pub invariant-loop-place : goal.invariant-loop-place
invariant-loop-place l = (k : ℕ) (one : List ℕ × ℕ) → k < l.place → slice_get l.logged k ≡ Some one → path_at l.facts (get_or l.numbers k 0) ≡ Some one.0
