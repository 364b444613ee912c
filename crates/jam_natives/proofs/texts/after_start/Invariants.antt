use Rattle.std.proofs.Common.{◌≡◌, take}
use Rattle.jam_natives.specs.Texts.{after_start}
use Rattle.jam_natives.proofs.texts.after_start.Given as goal

abbrev pub invariant-loop-text : goal.invariant-loop-text
invariant-loop-text l = l.made ≡ after_start l.start (take l.text-index l.texts)
