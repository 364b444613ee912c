use Rattle.std.proofs.Common.{◌≡◌, ◌++◌, drop}
use Rattle.jam_lexer.specs.Word.{text_of}
use Rattle.jam_lexer.proofs.UnquotingGoesByteByByte.{text_after}
use Rattle.jam_lexer.proofs.word.unquoted.Given as goal

abbrev pub invariant-loop-byte : goal.invariant-loop-byte
invariant-loop-byte l = l.text.items ++ text_after l.literal (drop l.byte-index l.word) ≡ text_of l.word
