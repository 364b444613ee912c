use Rattle.std.proofs.Common.{◌≡◌, map, take}
use Rattle.b2_references.specs.Requests.{word_of}
use Rattle.b2_references.proofs.requests.words_of.Given as goal

-- the words so far
abbrev pub invariant-loop-word : goal.invariant-loop-word
invariant-loop-word l = l.made ≡ map (word_of l.index) (take l.word-index l.words)
