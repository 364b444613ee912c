use Rattle.std.proofs.Common.{◌≡◌, take}
use Rattle.b2_base.specs.Segments.{texts}
use Rattle.b2_base.proofs.text_list.owned_texts.Given as goal

-- the texts so far
abbrev pub invariant-loop-word : goal.invariant-loop-word
invariant-loop-word l = l.made.items ≡ texts (take l.word-index l.words)
