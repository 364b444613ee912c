use Rattle.std.proofs.Common.{◌≡◌, ℕ, ◌<◌, List, map, slice_get, Some}
use Rattle.b2_base.specs.Bytes.{Before}
use Rattle.b2_log.specs.Finding.{path_of}
use Rattle.b2_explain.proofs.checks.logged_before.Given as goal

-- the inputs so far stand before the path
abbrev pub invariant-loop-input : goal.invariant-loop-input
invariant-loop-input l = record {
  count : l.count ≡ l.input-index;
  before : (place : ℕ) (other : List ℕ) → place < l.count → slice_get (map path_of l.last.ins) place ≡ Some other → Before other l.path;
}
