use Rattle.std.proofs.Common.{◌≡◌, drop}
use Rattle.jam_natives.specs.Sights.{ForMatching}
use Rattle.jam_natives.specs.Globs.{is_matched}
use Rattle.jam_natives.proofs.glob.is_matched.Given as goal

abbrev pub invariant-loop-pattern : goal.invariant-loop-pattern
invariant-loop-pattern l = ForMatching (λ matching. is_matched matching (drop l.pattern-index l.patterns) l.text ≡ is_matched matching l.patterns l.text)
