use Rattle.std.proofs.Common.{◌≡◌, ℕ, ◌<◌, List, Some, Ok, get_or, slice_get}
use Rattle.std.specs.List.{Contains}
use Rattle.b2_verdicts.specs.Sights.{digest_at}
use Rattle.b2_verdicts.specs.VerdictCalls.{Asks}
use Rattle.b2_verdicts.specs.Digested.{TellEach}
use Rattle.b2_verdicts.proofs.digests.have_digests.Given as goal

-- the files so far have these digests
abbrev pub invariant-loop-place : goal.invariant-loop-place
invariant-loop-place g l = record {
  asks : Asks {T = Unit {0}} (Contains l.numbers) (TellEach l.logged l.digests) l.initial.facts l.facts (g.F.Files.outside l.initial.files) (g.F.Files.outside l.files) (Ok tt);
  each : (k : ℕ) (digest : List ℕ) → k < l.place → slice_get l.digests k ≡ Some digest → digest_at l.facts (get_or l.numbers k 0) ≡ Some digest;
}
