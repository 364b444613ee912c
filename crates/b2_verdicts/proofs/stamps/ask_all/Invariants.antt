use Rattle.std.proofs.Common.{◌≡◌, ℕ, ◌<◌, get_or}
use Rattle.std.specs.List.{Contains}
use Rattle.b2_verdicts.specs.Sights.{AreNumbers, IsAsked}
use Rattle.b2_verdicts.specs.VerdictCalls.{KnowsMore, Always}
use Rattle.b2_verdicts.proofs.stamps.ask_all.Given as goal

-- the files so far were asked for
abbrev pub invariant-loop-number : goal.invariant-loop-number
invariant-loop-number g l = record {
  numbers : AreNumbers l.facts l.numbers;
  outside : g.F.Files.outside l.files ≡ g.F.Files.outside l.initial.files;
  asked : (k : ℕ) → k < l.number-index → IsAsked l.facts (get_or l.numbers k 0);
  learns : KnowsMore (Contains l.numbers) (g.F.Files.outside l.initial.files).disk Always l.initial.facts l.facts;
}
