-- What stands between `actions` and the body.
use Rattle.std.specs.Prelude.{◌≡◌, ℕ, List, [], ◌∷◌, Bool, true, false, Option, Some, None}
use Rattle.b2_base.specs.declared.token.Token.{Token}
use Rattle.jam_grammar.specs.declared.mark.TokenMark.{TokenMark}
use Rattle.jam_grammar.specs.declared.mark.TokenMark.TheVariants as m
use Rattle.jam_grammar.specs.Marks.{mark_of_token}
use Rattle.jam_grammar.specs.Grammar.{Part, Heading}
use Rattle.jam_grammar.specs.Spelling.{Sym, Heads, Says}
use Rattle.jam_parser.specs.declared.heading.Modes.{Modes}
use Rattle.jam_parser.specs.Starts.{starts_word}

-- a heading after modifiers
abbrev pub heading_of : Modes → Part
heading_of stood = Heading stood.together stood.existing stood.quietly

-- modifiers from those that stood to others, and a name
abbrev pub head_syms : Modes → Modes → List ℕ → List Sym
head_syms stood more name = Heads stood.together stood.existing stood.quietly more.together more.existing more.quietly ∷ Says name ∷ []

-- modifiers and one more, if it has not stood
abbrev pub unless : Bool → Modes → Option Modes
unless true more = None
unless false more = Some more

abbrev pub switched : Bool → Bool → Bool → TokenMark → Option Modes
switched a b c m.Together = unless a record { together = true; existing = b; quietly = c }
switched a b c m.Existing = unless b record { together = a; existing = true; quietly = c }
switched a b c m.Quietly = unless c record { together = a; existing = b; quietly = true }
switched a b c _ = None

-- a modifier that has not stood is first, and a word stands behind it
pub record GoesOn (stood : Modes) (tokens : List Token) (more : Modes) (after : List Token) : Type 0 where
  pub first : Token
  pub split : tokens ≡ first ∷ after
  pub switches : switched stood.together stood.existing stood.quietly (mark_of_token first) ≡ Some more
  pub word : starts_word after ≡ true

-- no modifier that has not stood is first with a word behind it
abbrev pub NoModifier : Modes → List Token → Type 0
NoModifier stood [] = Unit {0}
NoModifier stood (token ∷ tokens) = (more : Modes) → switched stood.together stood.existing stood.quietly (mark_of_token token) ≡ Some more → starts_word tokens ≡ false
