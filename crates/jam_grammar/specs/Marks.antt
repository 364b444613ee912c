-- What the grammar sees of a token.
use Rattle.std.specs.Prelude.{ℕ, ◌==◌, List, [], ◌∷◌, Bool, true, false, if◌then◌else◌, codes}
use Rattle.std.specs.Str.{bytes_eq}
use Rattle.b2_base.specs.declared.token.TokenKind.{TokenKind}
use Rattle.b2_base.specs.declared.token.TokenKind.TheVariants as kinds
use Rattle.b2_base.specs.declared.token.Token.{Token}
use Rattle.jam_grammar.specs.declared.mark.TokenMark.{TokenMark}
use Rattle.jam_grammar.specs.declared.mark.TokenMark.TheVariants.{Plain, Query, Star, Plus, Together, Existing, Quietly, Body, Semicolon, Colon, BraceOpen, BraceClose, SquareOpen, SquareClose, ParenOpen, ParenClose, Equals, PlusEquals, QueryEquals, NotEquals, Not, And, Or, Actions, Case, Else, For, If, In, Include, Local, Module, On, Return, Rule, Switch, While, Unknown}

-- the keys of the language with their marks
abbrev pub key_marks : List (List ℕ × TokenMark)
key_marks =
    (codes ";", Semicolon) ∷ (codes ":", Colon) ∷ (codes "{", BraceOpen) ∷ (codes "}", BraceClose) ∷ (codes "[", SquareOpen) ∷
    (codes "]", SquareClose) ∷ (codes "(", ParenOpen) ∷ (codes ")", ParenClose) ∷ (codes "=", Equals) ∷ (codes "+=", PlusEquals) ∷
    (codes "?=", QueryEquals) ∷ (codes "!=", NotEquals) ∷ (codes "!", Not) ∷ (codes "&&", And) ∷ (codes "||", Or) ∷
    (codes "actions", Actions) ∷ (codes "case", Case) ∷ (codes "else", Else) ∷ (codes "for", For) ∷ (codes "if", If) ∷
    (codes "in", In) ∷ (codes "include", Include) ∷ (codes "local", Local) ∷ (codes "module", Module) ∷ (codes "on", On) ∷
    (codes "return", Return) ∷ (codes "rule", Rule) ∷ (codes "switch", Switch) ∷ (codes "while", While) ∷ []

-- the words that the grammar knows with their marks: three mark parameters, and three are modifiers of actions
abbrev pub word_marks : List (List ℕ × TokenMark)
word_marks =
    (codes "?", Query) ∷ (codes "*", Star) ∷ (codes "+", Plus) ∷ (codes "together", Together) ∷ (codes "existing", Existing) ∷
    (codes "quietly", Quietly) ∷ []

-- the mark of the first row with this text, and another where there is none
abbrev pub mark_in : List (List ℕ × TokenMark) → TokenMark → List ℕ → TokenMark
mark_in [] other text = other
mark_in (row ∷ rows) other text = if bytes_eq text row.0 then row.1 else mark_in rows other text

-- any other word is plain
unfoldable pub mark_of_word : List ℕ → TokenMark
mark_of_word text = mark_in word_marks Plain text

-- a key that the list does not have is unknown
unfoldable pub mark_of_key : List ℕ → TokenMark
mark_of_key text = mark_in key_marks Unknown text

-- the mark of a text of this kind
abbrev pub mark_by_kind : TokenKind → List ℕ → TokenMark
mark_by_kind kinds.Word text = mark_of_word text
mark_by_kind kinds.Key text = mark_of_key text
mark_by_kind kinds.Body text = Body

-- the mark of a token
unfoldable pub mark_of_token : Token → TokenMark
mark_of_token token = mark_by_kind token.kind token.text

-- the marks of words
abbrev pub is_word : TokenMark → Bool
is_word Plain = true
is_word Query = true
is_word Star = true
is_word Plus = true
is_word Together = true
is_word Existing = true
is_word Quietly = true
is_word _ = false

-- the marks of words that may name a parameter
abbrev pub is_name : TokenMark → Bool
is_name Plain = true
is_name Together = true
is_name Existing = true
is_name Quietly = true
is_name _ = false

-- the marks of words that after these modifiers can only name the actions: all but the modifiers that did not stand
abbrev pub only_names : Bool → Bool → Bool → TokenMark → Bool
only_names together existing quietly Together = together
only_names together existing quietly Existing = existing
only_names together existing quietly Quietly = quietly
only_names together existing quietly mark = is_word mark

-- the marks by number
abbrev pub number : TokenMark → ℕ
number Plain = 0
number Query = 1
number Star = 2
number Plus = 3
number Together = 4
number Existing = 5
number Quietly = 6
number Body = 7
number Semicolon = 8
number Colon = 9
number BraceOpen = 10
number BraceClose = 11
number SquareOpen = 12
number SquareClose = 13
number ParenOpen = 14
number ParenClose = 15
number Equals = 16
number PlusEquals = 17
number QueryEquals = 18
number NotEquals = 19
number Not = 20
number And = 21
number Or = 22
number Actions = 23
number Case = 24
number Else = 25
number For = 26
number If = 27
number In = 28
number Include = 29
number Local = 30
number Module = 31
number On = 32
number Return = 33
number Rule = 34
number Switch = 35
number While = 36
number Unknown = 37

-- whether two marks are the same
abbrev pub same_mark : TokenMark → TokenMark → Bool
same_mark a b = number a == number b
