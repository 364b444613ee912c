use Rattle.std.proofs.Common.{◌≡◌, [], fold, take}
use Rattle.jam_natives.specs.Texts.{add_new}
use Rattle.jam_natives.specs.SeenTexts.{HasSeen}
use Rattle.jam_natives.proofs.texts.without_repeats.Given as goal

abbrev pub invariant-loop-text : goal.invariant-loop-text
invariant-loop-text l = record { so_far : l.made ≡ fold add_new [] (take l.text-index l.texts); seen : HasSeen l.seen l.made }
