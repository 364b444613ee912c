-- How far a text has been read.
use Rattle.std.specs.Prelude.{◌≡◌, ℕ, ◌≤◌, List, [], length}
use Rattle.std.specs.Str.{IsCharBoundary}
use Rattle.b2_base.specs.declared.token.Token.{Token}
use Rattle.jam_lexer.specs.declared.reading.LexPlace.{LexPlace}
use Rattle.jam_lexer.specs.declared.fault.LexFault.{LexFault}
use Rattle.jam_lexer.specs.declared.fault.LexFault.TheVariants as faults
use Rattle.jam_lexer.specs.Signs.{line_of}
use Rattle.jam_lexer.specs.Tokens.{Next, NextBody, next_after, place_after, awaits_brace, Stand}
use Rattle.jam_lexer.specs.Answers.{line_of_last, MeetsOpenQuote, MeetsOpenActions}

-- these tokens have been read, up to this place, and this stands next
pub record HasRead (bytes : List ℕ) (next : Next) (tokens : List Token) (place : LexPlace) : Type 0 where
  pub read : List Token
  pub stand : Stand bytes (λ seen. seen ≡ read) [] tokens
  pub next_is : next_after read ≡ next
  pub place_is : place_after read ≡ place.at
  pub awaits_is : awaits_brace read ≡ place.awaits
  pub line_is : place.line ≡ line_of bytes place.at
  pub within : place.at ≤ length bytes
  pub boundary : IsCharBoundary bytes place.at

-- these tokens have been read, the last on this line, and a body stands next
pub record HasOpened (bytes : List ℕ) (tokens : List Token) (place : LexPlace) (line : ℕ) : Type 0 where
  pub has_read : HasRead bytes NextBody tokens place
  pub last_is : line ≡ line_of_last has_read.read

-- the fault that a text meets, where it is text
abbrev pub IsMet : List ℕ → LexFault → Type 0
IsMet bytes (faults.NotUtf8 at) = ⊥
IsMet bytes (faults.OpenQuote line) = (tokens : List Token) × Stand bytes (MeetsOpenQuote bytes line) [] tokens
IsMet bytes (faults.OpenActions line) = (tokens : List Token) × Stand bytes (MeetsOpenActions bytes line) [] tokens
IsMet bytes faults.OutOfMemory = Unit {0}
