-- A text that is not empty names the path that is its normal form: for the test whether texts name a target.
use Rattle.std.proofs.Common.{◌≡◌, ℕ, ◌&&◌, ◌||◌, Bool, true, false, not, eqb, List, [], ◌∷◌, ◌++◌, length, refl, sym, ap, ◌∙◌}
use Rattle.std.specs.List.{list_any}
use Rattle.std.specs.Str.{bytes_eq}
use Rattle.std.proofs.lemmas.Bool.{false≢true}
use Rattle.std.proofs.lemmas.List.Folds.{list_any-append}
use Rattle.b2_base.specs.Segments.{normal_of}
use Rattle.jam_natives.specs.Targets.{names_one}

pub any_joined : {X : Type 0} (p : X → Bool) (a b c : List X) → list_any p (a ++ (b ++ c)) ≡ (list_any p a || (list_any p b || list_any p c))
any_joined p a b c = list_any-append p a (b ++ c) ∙ ap (λ r. list_any p a || r) (list_any-append p b c)

not_empty : (text : List ℕ) → eqb (length text) 0 ≡ false → bytes_eq text [] ≡ false
not_empty [] e = absurd (false≢true (sym e))
not_empty (b ∷ bs) e = refl

-- a text that is not empty names what its normal form is
pub named_text : (text : List ℕ) (paths : List (List ℕ)) (r empty : Bool) (path : List ℕ) → empty ≡ eqb (length text) 0 → empty ≡ false → path ≡ normal_of text → r ≡ list_any (bytes_eq path) paths → r ≡ names_one paths text
named_text text paths r empty path test false_is named found =
    found ∙ ap (λ (p : List ℕ). list_any (bytes_eq p) paths) named
    ∙ sym (ap (λ b. not b && list_any (bytes_eq (normal_of text)) paths) (not_empty text (sym test ∙ false_is)))
