use Rattle.std.proofs.Common.{◌≡◌, take}
use Rattle.b2_base.proofs.text_list.copy_texts.Given as goal

-- the texts copied so far
abbrev pub invariant-loop-text : goal.invariant-loop-text
invariant-loop-text l = l.made.items ≡ take l.text-index l.texts
