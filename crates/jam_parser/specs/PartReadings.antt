-- What reading a part answers.
use Rattle.std.specs.Prelude.{◌≡◌, ℕ, ◌+◌, ◌≤◌, List, [], ◌∷◌, ◌++◌, length, Result, MatchResult}
use Rattle.b2_base.specs.declared.token.Token.{Token}
use Rattle.jam_grammar.specs.declared.mark.TokenMark.{TokenMark}
use Rattle.jam_grammar.specs.declared.mark.TokenMark.TheVariants as marks
use Rattle.jam_grammar.specs.Grammar.{Part, Key, Args, Params, OneWord, OneStmt, OneBlock, OneArg, OneInner, OneExpr, Both, Single, OrTail, AndTail}
use Rattle.jam_grammar.specs.Spelling.{Sym, Spells}
use Rattle.jam_grammar.specs.Spelling as spelling
use Rattle.jam_grammar.specs.Gives.{Leads, Ends}
use Rattle.jam_parser.specs.declared.reading.ReadingFault.{ReadingFault}
use Rattle.jam_parser.specs.declared.reading.ReadingFault.TheVariants as faults

-- reading the parts ends here, whatever has to come after them; nothing is said where memory runs out
abbrev pub EndsBy : List Part → List Token → ℕ → ReadingFault → Type 0
EndsBy parts tokens depth faults.Memory = Unit {0}
EndsBy parts tokens depth (faults.At rest) = Ends parts tokens depth rest.now

-- the parts that take a token at least
abbrev pub least_of : Part → ℕ
least_of (Key mark) = 1
least_of OneWord = 1
least_of OneStmt = 1
least_of OneBlock = 1
least_of OneArg = 1
least_of OneInner = 1
least_of OneExpr = 1
least_of Both = 1
least_of Single = 1
least_of _ = 0

abbrev pub least : List Part → ℕ
least [] = 0
least (part ∷ parts) = least_of part + least parts

-- The parts are read, the symbols are spelled by that, and the others are read from the tokens after.
pub record ComesTo (parts others : List Part) (tokens : List Token) (depth : ℕ) (syms : List Sym) (after : List Token) : Type 0 where
  pub moves : Leads parts tokens depth others after
  pub spells : Spells tokens syms after
  pub shorter : length after + least parts ≤ length tokens + least others

-- the parts are read and nothing is left of them
abbrev pub IsRead : List Part → List Token → ℕ → List Sym → List Token → Type 0
IsRead parts tokens depth syms after = ComesTo parts [] tokens depth syms after

-- The same, where what is spelled stands after what was read before.
pub record Continues (prefix : List Sym) (parts others : List Part) (tokens : List Token) (depth : ℕ) (all : List Sym) (after : List Token) : Type 0 where
  pub syms : List Sym
  pub whole : all ≡ prefix ++ syms
  pub comes : ComesTo parts others tokens depth syms after

-- and nothing is left of the parts
abbrev pub Completes : List Sym → List Part → List Token → ℕ → List Sym → List Token → Type 0
Completes prefix parts tokens depth all after = Continues prefix parts [] tokens depth all after

-- the answer has all of the parts, with these symbols, and the tokens after; or reading ends
abbrev pub Reads : {T : Type 0} → Result T ReadingFault → List Part → List Token → ℕ → (T → List Sym) → (T → List Token) → Type 0
Reads result parts tokens depth syms after =
    MatchResult result (λ r. IsRead parts tokens depth (syms r) (after r)) (λ e. EndsBy parts tokens depth e)

-- the answer completes what was read before, with these symbols, and the tokens after; or reading ends
abbrev pub ReadsOn : {T : Type 0} → Result T ReadingFault → List Sym → List Part → List Token → ℕ → (T → List Sym) → (T → List Token) → Type 0
ReadsOn result prefix parts tokens depth all after =
    MatchResult result (λ r. Completes prefix parts tokens depth (all r) (after r)) (λ e. EndsBy parts tokens depth e)

-- what is read after the bracket that opens the parameters of a rule
abbrev pub after_params : List Part
after_params = Params ∷ Key marks.ParenClose ∷ OneBlock ∷ []

-- a list up to the end of its statement
abbrev pub list_to_end : List Part
list_to_end = Args ∷ Key marks.Semicolon ∷ []

-- what is read after an opening bracket, and after the first `||` of a condition
abbrev pub in_brackets : List Part
in_brackets = OneInner ∷ Key marks.SquareClose ∷ []

abbrev pub after_or : List Part
after_or = Both ∷ OrTail ∷ []

-- what is read after the first `&&` of a condition, and after an opening parenthesis
abbrev pub after_and : List Part
after_and = Single ∷ AndTail ∷ []

abbrev pub in_parens : List Part
in_parens = OneExpr ∷ Key marks.ParenClose ∷ []

-- symbols with a sign after them
abbrev pub with_sign : List Sym → TokenMark → List Sym
with_sign syms mark = syms ++ spelling.Key mark ∷ []
