-- What begins a part that may be left out.
use Rattle.std.specs.Prelude.{◌≡◌, ℕ, List, [], ◌∷◌, Bool, true, false}
use Rattle.b2_base.specs.declared.token.Token.{Token}
use Rattle.jam_grammar.specs.declared.mark.TokenMark.{TokenMark}
use Rattle.jam_grammar.specs.declared.mark.TokenMark.TheVariants.{Plain, Query, Star, Plus, Together, Existing, Quietly, SquareOpen, BraceOpen, Local, Include, Return, If, For, While, Switch, Module, Rule, Actions, On, Equals, PlusEquals, QueryEquals}
use Rattle.jam_grammar.specs.Marks.{mark_of_token, is_word, is_name, same_mark}

-- an argument
abbrev pub begins_arg : TokenMark → Bool
begins_arg Plain = true
begins_arg Query = true
begins_arg Star = true
begins_arg Plus = true
begins_arg Together = true
begins_arg Existing = true
begins_arg Quietly = true
begins_arg SquareOpen = true
begins_arg _ = false

abbrev pub starts_arg : List Token → Bool
starts_arg [] = false
starts_arg (token ∷ tokens) = begins_arg (mark_of_token token)

-- a word
abbrev pub starts_word : List Token → Bool
starts_word [] = false
starts_word (token ∷ tokens) = is_word (mark_of_token token)

-- a word that may name a parameter
abbrev pub starts_name : List Token → Bool
starts_name [] = false
starts_name (token ∷ tokens) = is_name (mark_of_token token)

-- a statement
abbrev pub begins_stmt : TokenMark → Bool
begins_stmt Plain = true
begins_stmt Query = true
begins_stmt Star = true
begins_stmt Plus = true
begins_stmt Together = true
begins_stmt Existing = true
begins_stmt Quietly = true
begins_stmt SquareOpen = true
begins_stmt BraceOpen = true
begins_stmt Local = true
begins_stmt Include = true
begins_stmt Return = true
begins_stmt If = true
begins_stmt For = true
begins_stmt While = true
begins_stmt Switch = true
begins_stmt Module = true
begins_stmt Rule = true
begins_stmt Actions = true
begins_stmt On = true
begins_stmt _ = false

abbrev pub starts_stmt : List Token → Bool
starts_stmt [] = false
starts_stmt (token ∷ tokens) = begins_stmt (mark_of_token token)

-- a sign of an assignment
abbrev pub is_sign : TokenMark → Bool
is_sign Equals = true
is_sign PlusEquals = true
is_sign QueryEquals = true
is_sign _ = false

abbrev pub starts_sign : List Token → Bool
starts_sign [] = false
starts_sign (token ∷ tokens) = is_sign (mark_of_token token)

-- the line of the first token; zero where there is none
abbrev pub line_first : List Token → ℕ
line_first [] = 0
line_first (token ∷ tokens) = token.line

-- whether the mark stands first
abbrev pub starts_with : TokenMark → List Token → Bool
starts_with want [] = false
starts_with want (token ∷ tokens) = same_mark want (mark_of_token token)

-- the mark stands first, and the others after it
pub record StandsAfter (want : TokenMark) (tokens after : List Token) : Type 0 where
  pub first : Token
  pub split : tokens ≡ first ∷ after
  pub is_it : mark_of_token first ≡ want
