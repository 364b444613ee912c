-- The modifiers and the name of actions are told by the brace behind them.
use Rattle.std.proofs.Common.{◌≡◌, List, [], ◌∷◌, Bool, true, false, Some, refl, sym, ap, ◌∙◌}
use Rattle.b2_base.specs.declared.token.Token.{Token}
use Rattle.jam_grammar.specs.declared.mark.TokenMark.TheVariants as m
use Rattle.jam_grammar.specs.Spelling.{Switches, none, together, existing, quietly}
use Rattle.jam_grammar.proofs.FirstSymbolTellsFirstToken.{first_mark, tail, word_at}

-- modifiers before a word begin with a word
word_first : {a b c t e q : Bool} {ts left : List Token} → Switches a b c t e q ts left → word_at (first_mark left) ≡ true → word_at (first_mark ts) ≡ true
word_first none h = h
word_first (together is s) h = ap (λ x. word_at (Some x)) is
word_first (existing is s) h = ap (λ x. word_at (Some x)) is
word_first (quietly is s) h = ap (λ x. word_at (Some x)) is

-- a word, and a brace behind it
abbrev pub IsNameAt : List Token → Type 0
IsNameAt left = (word_at (first_mark left) ≡ true) × (first_mark (tail left) ≡ Some m.BraceOpen)

-- where a brace stands, no name comes
no_name : {a b c t e q : Bool} {ts left : List Token} → Switches a b c t e q ts left → IsNameAt left → first_mark ts ≡ Some m.BraceOpen → ⊥
no_name s n h = let e : false ≡ true = ap word_at (sym h) ∙ word_first s n.0 in cc

abbrev pub Same : Bool → Bool → Bool → List Token → Bool → Bool → Bool → List Token → Type 0
Same t e q left x y z right = (t ≡ x) × (e ≡ y) × (q ≡ z) × (left ≡ right)

pub heading_one : {a b c t e q x y z : Bool} {ts left right : List Token} → Switches a b c t e q ts left → Switches a b c x y z ts right → IsNameAt left → IsNameAt right → Same t e q left x y z right
heading_one none none n k = (refl, refl, refl, refl)
heading_one none (together is r) n k = absurd (no_name r k n.1)
heading_one none (existing is r) n k = absurd (no_name r k n.1)
heading_one none (quietly is r) n k = absurd (no_name r k n.1)
heading_one (together is s) none n k = absurd (no_name s n k.1)
heading_one (existing is s) none n k = absurd (no_name s n k.1)
heading_one (quietly is s) none n k = absurd (no_name s n k.1)
heading_one (together is s) (together has r) n k = heading_one s r n k
heading_one (existing is s) (existing has r) n k = heading_one s r n k
heading_one (quietly is s) (quietly has r) n k = heading_one s r n k
heading_one (together is s) (existing has r) n k = let e : m.Together ≡ m.Existing = sym is ∙ has in cc
heading_one (together is s) (quietly has r) n k = let e : m.Together ≡ m.Quietly = sym is ∙ has in cc
heading_one (existing is s) (together has r) n k = let e : m.Existing ≡ m.Together = sym is ∙ has in cc
heading_one (existing is s) (quietly has r) n k = let e : m.Existing ≡ m.Quietly = sym is ∙ has in cc
heading_one (quietly is s) (together has r) n k = let e : m.Quietly ≡ m.Together = sym is ∙ has in cc
heading_one (quietly is s) (existing has r) n k = let e : m.Quietly ≡ m.Existing = sym is ∙ has in cc
