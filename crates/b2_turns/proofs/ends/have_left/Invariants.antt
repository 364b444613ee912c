use Rattle.std.proofs.Common.{◌≡◌, ◌≢◌, ℕ, ◌<◌, List, get_or, None, IfSome}
use Rattle.b2_turns.proofs.ends.have_left.Given as goal

-- a file stands at each of the paths so far
abbrev pub invariant-loop-out : goal.invariant-loop-out
invariant-loop-out g l = record {
  outside : g.F.Files.outside l.files ≡ g.F.Files.outside l.fn.files;
  stand : IfSome (g.F.Files.outside l.fn.files).disk (λ before. (k : ℕ) (d : List ℕ) → k < l.out-index → before.now (get_or l.outs k d) ≢ None);
}
