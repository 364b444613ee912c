use Rattle.std.proofs.Common.{◌≡◌, ℕ, ◌+◌, length}
use Rattle.b2_drain.specs.Drains.{Drains, DrainTold}
use Rattle.b2_drain.proofs.WaitsAddUp.{IsAnswerOf}
use Rattle.b2_drain.proofs.drain.drain.Given as goal

-- as many were waited for as there were rounds, and whether each wait was answered is known
abbrev pub invariant-loop-child : goal.invariant-loop-child
invariant-loop-child g l = record {
  waited : (rest : ℕ) → length (g.H.Files.outside l.fn.host).children.running ≡ l._child + rest → Drains rest (g.H.Files.outside l.fn.host) (g.H.Files.outside l.host);
  answer : (rest : ℕ) → length (g.H.Files.outside l.fn.host).children.running ≡ l._child + rest → IsAnswerOf rest (g.H.Files.outside l.fn.host) (g.H.Files.outside l.host) l.all;
  told : DrainTold g.H.Children.made (g.H.Files.outside l.fn.host) (g.H.Files.outside l.host);
}
