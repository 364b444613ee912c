-- The tokens of a text.
use Rattle.std.specs.Prelude.{◌≡◌, ℕ, ◌+◌, Bool, true, false, not, ◌&&◌, ◌||◌, List, [], ◌∷◌, length, codes, slice_range, if◌then◌else◌}
use Rattle.std.specs.Str.{IsUtf8, bytes_eq}
use Rattle.b2_base.specs.Bytes.{HasNoZero}
use Rattle.b2_base.specs.declared.token.Token.{Token}
use Rattle.b2_base.specs.declared.token.TokenKind.{TokenKind}
use Rattle.b2_base.specs.declared.token.TokenKind.TheVariants.{Word, Key, Body}
use Rattle.jam_lexer.specs.Signs.{line_of}
use Rattle.jam_lexer.specs.Gap.{IsGap, BeginsWord}
use Rattle.jam_lexer.specs.Word.{IsWord, text_of, kind_of}
use Rattle.jam_lexer.specs.Body.{IsBody}

-- the kind of keys
abbrev pub is_key : TokenKind → Bool
is_key Key = true
is_key Word = false
is_key Body = false

-- the kind of bodies
abbrev pub is_body : TokenKind → Bool
is_body Body = true
is_body Word = false
is_body Key = false

-- the token is the Key of this text
abbrev pub is_the_key : List ℕ → Token → Bool
is_the_key text token = is_key token.kind && bytes_eq token.text text

-- A list of tokens that have been read has the last one first.

-- where the tokens that have been read end
abbrev pub place_after : List Token → ℕ
place_after [] = 0
place_after (last ∷ earlier) = last.end

-- the Key `actions` has been read, and no Key `{` since
abbrev pub awaits_brace : List Token → Bool
awaits_brace [] = false
awaits_brace (last ∷ earlier) = is_the_key (codes "actions") last || (not (is_the_key (codes "{") last) && awaits_brace earlier)

-- what can stand next: a word, the body of an action, or the brace that closes it
pub data Next : Type 0 where
  NextWord : Next
  NextBody : Next
  NextBrace : Next

-- after a body its brace; after the first Key `{` after the Key `actions` a body; else a word
abbrev pub next_after : List Token → Next
next_after [] = NextWord
next_after (last ∷ earlier) =
    if is_body last.kind then NextBrace
    else (if is_the_key (codes "{") last && awaits_brace earlier then NextBody
    else NextWord)

-- a word after a gap, with the text, kind and line that its span gives
pub record IsWordToken (bytes : List ℕ) (from : ℕ) (token : Token) : Type 0 where
  pub begins : BeginsWord bytes from token.start
  pub word : IsWord bytes token.start token.end
  pub has_text : token.text ≡ text_of (slice_range bytes token.start token.end)
  pub has_kind : token.kind ≡ kind_of (slice_range bytes token.start token.end)
  pub has_line : token.line ≡ line_of bytes token.start

-- a raw body from this place on
pub record IsBodyToken (bytes : List ℕ) (from : ℕ) (token : Token) : Type 0 where
  pub begins : token.start ≡ from
  pub body : IsBody bytes token.start token.end
  pub has_text : token.text ≡ slice_range bytes token.start token.end
  pub has_kind : token.kind ≡ Body
  pub has_line : token.line ≡ line_of bytes token.start

-- the `}` at this place
pub record IsBraceToken (bytes : List ℕ) (from : ℕ) (token : Token) : Type 0 where
  pub begins : token.start ≡ from
  pub one_byte : token.end ≡ token.start + 1
  pub has_text : token.text ≡ codes "}"
  pub has_kind : token.kind ≡ Key
  pub has_line : token.line ≡ line_of bytes token.start

-- the token is what can stand next, at this place
abbrev pub IsNextToken : Next → List ℕ → ℕ → Token → Type 0
IsNextToken NextWord = IsWordToken
IsNextToken NextBody = IsBodyToken
IsNextToken NextBrace = IsBraceToken

-- the token stands next after those that have been read
abbrev pub Follows : List ℕ → List Token → Token → Type 0
Follows bytes read token = IsNextToken (next_after read) bytes (place_after read) token

-- after those that have been read stand these tokens, one after the other, and then what Last says
abbrev pub Stand : List ℕ → (List Token → Type 0) → List Token → List Token → Type 0
Stand bytes Last read [] = Last read
Stand bytes Last read (token ∷ more) = Follows bytes read token × Stand bytes Last (token ∷ read) more

-- nothing but a gap is left
pub record IsEnd (bytes : List ℕ) (read : List Token) : Type 0 where
  pub outside : next_after read ≡ NextWord
  pub gap : IsGap bytes (place_after read) (length bytes)

-- text in UTF-8 with no zero byte
abbrev pub IsText : List ℕ → Type 0
IsText bytes = IsUtf8 bytes × HasNoZero bytes

-- the tokens of the text: each stands next after those before it, and after the last nothing but a gap is left
abbrev pub AreTokens : List ℕ → List Token → Type 0
AreTokens bytes tokens = IsText bytes × Stand bytes (IsEnd bytes) [] tokens
