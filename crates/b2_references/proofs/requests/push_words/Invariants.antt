use Rattle.std.proofs.Common.{◌≡◌, ◌++◌, take}
use Rattle.b2_references.specs.Requests.{asked_of}
use Rattle.b2_references.proofs.requests.push_words.Given as goal

-- what is asked for by the words so far
abbrev pub invariant-loop-word : goal.invariant-loop-word
invariant-loop-word l = l.made ≡ l.initial.made ++ asked_of l.index (take l.word-index l.words) l.set
