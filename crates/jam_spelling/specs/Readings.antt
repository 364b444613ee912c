-- What the tokens of written bytes say.
use Rattle.std.specs.Prelude.{◌≡◌, ℕ, List, Result, All, map, IsOkAnd}
use Rattle.b2_base.specs.declared.token.Token.{Token}
use Rattle.jam_lexer.specs.declared.fault.LexFault.{LexFault}
use Rattle.jam_lexer.specs.Tokens.{IsText, AreTokens}
use Rattle.jam_spelling.specs.declared.lexeme.Lexeme.{Lexeme}

-- what a token says, without its place
abbrev pub lexeme_of : Token → Lexeme
lexeme_of token = record { kind = token.kind; text = token.text }

-- the bytes are a text, and its tokens say these lexemes in order
pub record ReadsAs (bytes : List ℕ) (lexemes : List Lexeme) : Type 0 where
  pub tokens : List Token
  pub are_tokens : AreTokens bytes tokens
  pub say : map lexeme_of tokens ≡ lexemes

-- the answer is tokens, and they say these lexemes in order
abbrev pub Say : List Lexeme → Result (List Token) LexFault → Type 0
Say lexemes answer = IsOkAnd answer (λ tokens. map lexeme_of tokens ≡ lexemes)

-- each lexeme says a text in UTF-8 with no zero byte
abbrev pub AreTexts : List Lexeme → Type 0
AreTexts = All (λ lexeme. IsText lexeme.text)
