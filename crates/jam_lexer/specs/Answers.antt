-- The answer to a text: its tokens, or the one fault that it has.
use Rattle.std.specs.Prelude.{◌≡◌, ◌≢◌, ℕ, ◌<◌, ◌⊎◌, List, [], ◌∷◌, ◌++◌, length, take, drop, encode_utf8, Result, Ok, Err}
use Rattle.std.specs.Char.{IsScalar}
use Rattle.std.specs.Global.{Vec}
use Rattle.b2_base.specs.declared.token.Token.{Token}
use Rattle.jam_lexer.specs.declared.fault.LexFault.{LexFault}
use Rattle.jam_lexer.specs.declared.fault.LexFault.TheVariants as faults
use Rattle.jam_lexer.specs.Signs.{line_of}
use Rattle.jam_lexer.specs.Gap.{BeginsWord}
use Rattle.jam_lexer.specs.Word.{IsOpenWord}
use Rattle.jam_lexer.specs.Body.{IsMatched}
use Rattle.jam_lexer.specs.Tokens.{NextWord, NextBody, next_after, place_after, Stand, IsText, AreTokens}

-- no character but zero begins the bytes
abbrev pub BeginsNoCharacter : List ℕ → Type 0
BeginsNoCharacter bytes = (c : ℕ) (more : List ℕ) → IsScalar c → c ≢ 0 → bytes ≢ encode_utf8 c ++ more

-- the place of the first byte that is zero or at which no whole character begins
pub record IsFirstBad (bytes : List ℕ) (at : ℕ) : Type 0 where
  pub within : at < length bytes
  pub good_before : IsText (take at bytes)
  pub bad : BeginsNoCharacter (drop at bytes)

-- next stands a word whose quotes are never closed; the line is that of its first character
pub record MeetsOpenQuote (bytes : List ℕ) (line : ℕ) (read : List Token) : Type 0 where
  pub start : ℕ
  pub outside : next_after read ≡ NextWord
  pub begins : BeginsWord bytes (place_after read) start
  pub unclosed : IsOpenWord bytes start
  pub on_line : line ≡ line_of bytes start

-- the line of the last token that has been read
abbrev pub line_of_last : List Token → ℕ
line_of_last [] = 1
line_of_last (last ∷ earlier) = last.line

-- next stands a body that never ends; the line is that of the `{` before it
pub record MeetsOpenActions (bytes : List ℕ) (line : ℕ) (read : List Token) : Type 0 where
  pub inside : next_after read ≡ NextBody
  pub unclosed : IsMatched bytes (place_after read) (length bytes)
  pub on_line : line ≡ line_of_last read

-- the first token that is not whole is a word in quotes
abbrev pub IsOpenQuote : List ℕ → ℕ → Type 0
IsOpenQuote bytes line = IsText bytes × ((tokens : List Token) × Stand bytes (MeetsOpenQuote bytes line) [] tokens)

-- the first token that is not whole is a body
abbrev pub IsOpenActions : List ℕ → ℕ → Type 0
IsOpenActions bytes line = IsText bytes × ((tokens : List Token) × Stand bytes (MeetsOpenActions bytes line) [] tokens)

-- the answer to the bytes; out of memory is never one
abbrev pub IsAnswer : List ℕ → Result (List Token) LexFault → Type 0
IsAnswer bytes (Ok tokens) = AreTokens bytes tokens
IsAnswer bytes (Err (faults.NotUtf8 at)) = IsFirstBad bytes at
IsAnswer bytes (Err (faults.OpenQuote line)) = IsOpenQuote bytes line
IsAnswer bytes (Err (faults.OpenActions line)) = IsOpenActions bytes line
IsAnswer bytes (Err faults.OutOfMemory) = ⊥

-- the call's result is the answer, unless memory ran out
abbrev pub IsGivenBy : Result (Vec Token) LexFault → Result (List Token) LexFault → Type 0
IsGivenBy (Ok tokens) answer = answer ≡ Ok tokens.items
IsGivenBy (Err fault) answer = (fault ≡ faults.OutOfMemory) ⊎ (answer ≡ Err fault)
