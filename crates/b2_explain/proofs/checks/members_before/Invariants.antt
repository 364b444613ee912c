use Rattle.std.proofs.Common.{◌≡◌, ℕ, ◌<◌, List, get_or, Some}
use Rattle.b2_base.specs.Bytes.{Before}
use Rattle.b2_facts.specs.Facts.{path_at}
use Rattle.b2_explain.proofs.checks.members_before.Given as goal

-- the members so far stand before the path
abbrev pub invariant-loop-number : goal.invariant-loop-number
invariant-loop-number l = record {
  count : l.count ≡ l.number-index;
  before : (place : ℕ) (other : List ℕ) → place < l.count → path_at l.facts (get_or l.ins place 0) ≡ Some other → Before other l.path;
}
