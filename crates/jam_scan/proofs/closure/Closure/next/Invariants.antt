use Rattle.std.proofs.Common.{◌≤◌, ◌<◌, ◌-◌, ℕ, length}
use Rattle.jam_scan.specs.Gatherings.{IsOpen}
use Rattle.jam_scan.proofs.closure.Closure.next.Given as goal

-- no place so far is open
abbrev pub invariant-loop-at : goal.invariant-loop-at
invariant-loop-at l = record {
  low : l.from ≤ l.at;
  none_before : (k : ℕ) → l.from ≤ k → k < l.at → IsOpen l.self k → ⊥;
}

abbrev pub decreases-loop-at : goal.decreases-loop-at
decreases-loop-at l = length l.self.scanned - l.at
