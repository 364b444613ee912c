use Rattle.std.proofs.Common.{◌≡◌, drop}
use Rattle.b2_top.specs.Modes.{mode_asked}
use Rattle.b2_top.proofs.mode.mode_asked.Given as goal

abbrev pub invariant-loop-word : goal.invariant-loop-word
invariant-loop-word l = mode_asked (drop l.word-index l.words) ≡ mode_asked l.words
