-- The first of the tokens that spell something, and the tokens after it.
use Rattle.std.proofs.Common.{◌≡◌, ℕ, List, [], ◌∷◌, Bool, true, false, Option, Some, None, refl, sym, ap, ◌∙◌}
use Rattle.b2_base.specs.declared.token.Token.{Token}
use Rattle.jam_grammar.specs.declared.mark.TokenMark.{TokenMark}
use Rattle.jam_grammar.specs.declared.mark.TokenMark.TheVariants as m
use Rattle.jam_grammar.specs.Marks.{mark_of_token, is_word, is_name}
use Rattle.jam_grammar.specs.Spelling.{Sym, Key, Says, Named, Raw, Never, Spells, StartsOn}
use Rattle.jam_grammar.proofs.EveryMarkIsTested.{at_each}

abbrev pub first_mark : List Token → Option TokenMark
first_mark [] = None
first_mark (token ∷ tokens) = Some (mark_of_token token)

abbrev pub tail : List Token → List Token
tail [] = []
tail (token ∷ tokens) = tokens

abbrev pub first_text : List Token → List ℕ
first_text [] = []
first_text (token ∷ tokens) = token.text

abbrev pub first_line : List Token → ℕ
first_line [] = 0
first_line (token ∷ tokens) = token.line

pub key_first : (mark : TokenMark) (syms : List Sym) (ts u : List Token) → Spells ts (Key mark ∷ syms) u → first_mark ts ≡ Some mark
key_first mark syms [] u s = absurd s
key_first mark syms (t ∷ ts) u s = ap Some s.0

pub key_tail : (mark : TokenMark) (syms : List Sym) (ts u : List Token) → Spells ts (Key mark ∷ syms) u → Spells (tail ts) syms u
key_tail mark syms [] u s = absurd s
key_tail mark syms (t ∷ ts) u s = s.1

-- whether a word stands there
abbrev pub word_at : Option TokenMark → Bool
word_at None = false
word_at (Some mark) = is_word mark

pub says_first : (text : List ℕ) (syms : List Sym) (ts u : List Token) → Spells ts (Says text ∷ syms) u → word_at (first_mark ts) ≡ true
says_first text syms [] u s = absurd s
says_first text syms (t ∷ ts) u s = s.0.0

pub says_text : (text : List ℕ) (syms : List Sym) (ts u : List Token) → Spells ts (Says text ∷ syms) u → first_text ts ≡ text
says_text text syms [] u s = absurd s
says_text text syms (t ∷ ts) u s = s.0.1

pub says_tail : (text : List ℕ) (syms : List Sym) (ts u : List Token) → Spells ts (Says text ∷ syms) u → Spells (tail ts) syms u
says_tail text syms [] u s = absurd s
says_tail text syms (t ∷ ts) u s = s.1

-- whether a word stands there that may name a parameter
abbrev pub name_at : Option TokenMark → Bool
name_at None = false
name_at (Some mark) = is_name mark

pub named_first : (text : List ℕ) (syms : List Sym) (ts u : List Token) → Spells ts (Named text ∷ syms) u → name_at (first_mark ts) ≡ true
named_first text syms [] u s = absurd s
named_first text syms (t ∷ ts) u s = s.0.0

pub named_text : (text : List ℕ) (syms : List Sym) (ts u : List Token) → Spells ts (Named text ∷ syms) u → first_text ts ≡ text
named_text text syms [] u s = absurd s
named_text text syms (t ∷ ts) u s = s.0.1

pub named_tail : (text : List ℕ) (syms : List Sym) (ts u : List Token) → Spells ts (Named text ∷ syms) u → Spells (tail ts) syms u
named_tail text syms [] u s = absurd s
named_tail text syms (t ∷ ts) u s = s.1

pub raw_text : (text : List ℕ) (syms : List Sym) (ts u : List Token) → Spells ts (Raw text ∷ syms) u → first_text ts ≡ text
raw_text text syms [] u s = absurd s
raw_text text syms (t ∷ ts) u s = s.0.1

pub raw_tail : (text : List ℕ) (syms : List Sym) (ts u : List Token) → Spells ts (Raw text ∷ syms) u → Spells (tail ts) syms u
raw_tail text syms [] u s = absurd s
raw_tail text syms (t ∷ ts) u s = s.1

pub line_is : (line : ℕ) (ts : List Token) → StartsOn line ts → first_line ts ≡ line
line_is line [] h = absurd h
line_is line (t ∷ ts) h = h

pub never_spelled : (syms : List Sym) (ts u : List Token) → Spells ts (Never ∷ syms) u → ⊥
never_spelled syms [] u s = s
never_spelled syms (t ∷ ts) u s = s

pub clash : (b : Bool) {A : Type 0} → b ≡ true → b ≡ false → A
clash b h k = let e : true ≡ false = sym h ∙ k in cc

pub same_first : (o : Option TokenMark) (a b : TokenMark) → o ≡ Some a → o ≡ Some b → a ≡ b
same_first o a b h k = let e : Some a ≡ Some b = sym h ∙ k in cc

-- whether an argument begins there, lists go on there, a condition goes on there after an argument, after `!` or a
-- comparison, and at its end
abbrev pub begins_arg : TokenMark → Bool
begins_arg m.Plain = true
begins_arg m.Query = true
begins_arg m.Star = true
begins_arg m.Plus = true
begins_arg m.Together = true
begins_arg m.Existing = true
begins_arg m.Quietly = true
begins_arg m.SquareOpen = true
begins_arg _ = false

abbrev pub begins_list : TokenMark → Bool
begins_list m.Colon = true
begins_list mark = begins_arg mark

abbrev pub begins_compared : TokenMark → Bool
begins_compared m.Equals = true
begins_compared m.NotEquals = true
begins_compared m.In = true
begins_compared mark = begins_arg mark

abbrev pub begins_and : TokenMark → Bool
begins_and m.And = true
begins_and mark = begins_compared mark

abbrev pub begins_or : TokenMark → Bool
begins_or m.Or = true
begins_or mark = begins_and mark

abbrev pub at_first : (TokenMark → Bool) → Option TokenMark → Bool
at_first f None = false
at_first f (Some mark) = f mark

-- what does not go on in one way does not in another
abbrev implies : Bool → Bool → Bool
implies true b = b
implies false b = true

use_implied : (a b : Bool) → implies a b ≡ true → b ≡ false → a ≡ false
use_implied true b h k = sym h ∙ k
use_implied false b h k = refl

first_implied : (f g : TokenMark → Bool) → ((mark : TokenMark) → implies (f mark) (g mark) ≡ true) → (o : Option TokenMark) → at_first g o ≡ false → at_first f o ≡ false
first_implied f g h None k = refl
first_implied f g h (Some mark) k = use_implied (f mark) (g mark) (h mark) k

pub no_list_no_arg : (o : Option TokenMark) → at_first begins_list o ≡ false → at_first begins_arg o ≡ false
no_list_no_arg o h = first_implied begins_arg begins_list (at_each (λ x. implies (begins_arg x) (begins_list x)) refl) o h

pub no_compared_no_arg : (o : Option TokenMark) → at_first begins_compared o ≡ false → at_first begins_arg o ≡ false
no_compared_no_arg o h = first_implied begins_arg begins_compared (at_each (λ x. implies (begins_arg x) (begins_compared x)) refl) o h

pub no_and_no_compared : (o : Option TokenMark) → at_first begins_and o ≡ false → at_first begins_compared o ≡ false
no_and_no_compared o h = first_implied begins_compared begins_and (at_each (λ x. implies (begins_compared x) (begins_and x)) refl) o h

pub no_or_no_and : (o : Option TokenMark) → at_first begins_or o ≡ false → at_first begins_and o ≡ false
no_or_no_and o h = first_implied begins_and begins_or (at_each (λ x. implies (begins_and x) (begins_or x)) refl) o h

pub and_is_or : (o : Option TokenMark) → at_first begins_and o ≡ true → at_first begins_or o ≡ true
and_is_or o h = by (at_first begins_or o) refl
  where
    by : (b : Bool) → at_first begins_or o ≡ b → at_first begins_or o ≡ true
    by true e = e
    by false e = clash (at_first begins_and o) h (no_or_no_and o e)

pub word_begins_arg : (o : Option TokenMark) → word_at o ≡ true → at_first begins_arg o ≡ true
word_begins_arg None h = h
word_begins_arg (Some mark) h = by (begins_arg mark) refl
  where
    by : (b : Bool) → begins_arg mark ≡ b → begins_arg mark ≡ true
    by true e = e
    by false e = clash (is_word mark) h (use_implied (is_word mark) (begins_arg mark) (at_each (λ x. implies (is_word x) (begins_arg x)) refl mark) e)

-- a function of two values
pub cong : {A B C : Type 0} (f : A → B → C) {a c : A} {b d : B} → a ≡ c → b ≡ d → f a b ≡ f c d
cong f {a} {c} {b} {d} e h = ap (λ x. f x b) e ∙ ap (λ y. f c y) h

pub cong3 : {A B C D : Type 0} (f : A → B → C → D) {a1 a2 : A} {b1 b2 : B} {c1 c2 : C} → a1 ≡ a2 → b1 ≡ b2 → c1 ≡ c2 → f a1 b1 c1 ≡ f a2 b2 c2
cong3 f {a1} {a2} {b1} {b2} {c1} {c2} e h k = ap (λ x. f x b1 c1) e ∙ ap (λ y. f a2 y c1) h ∙ ap (λ z. f a2 b2 z) k

pub cong4 : {A B C D E : Type 0} (f : A → B → C → D → E) {a1 a2 : A} {b1 b2 : B} {c1 c2 : C} {d1 d2 : D} → a1 ≡ a2 → b1 ≡ b2 → c1 ≡ c2 → d1 ≡ d2 → f a1 b1 c1 d1 ≡ f a2 b2 c2 d2
cong4 f {a1} {a2} {b1} {b2} {c1} {c2} {d1} {d2} e h k l = ap (λ x. f x b1 c1 d1) e ∙ ap (λ y. f a2 y c1 d1) h ∙ ap (λ z. f a2 b2 z d1) k ∙ ap (λ w. f a2 b2 c2 w) l
