-- Texts are compared either way round, found among owned ones, and ruled out where no listed one passes; a tool box.
use Rattle.std.proofs.Common.{◌≡◌, ℕ, Bool, true, false, cond, ◌||◌, List, [], ◌∷◌, map, Some, None, refl, sym, ◌∙◌, ap, ap₂, string_bytes}
use Rattle.std.specs.Prelude.{String}
use Rattle.std.specs.Global.{Global}
use Rattle.std.specs.List.{find, list_any}
use Rattle.std.specs.Str.{bytes_eq}
use Rattle.std.specs.Cmp.Lexicographic.{nat_list_eq_equiv}
use Rattle.std.proofs.lemmas.Slice.Eq.{bytes_eq-Decides}

pub text_sym : (x y : List ℕ) → bytes_eq x y ≡ bytes_eq y x
text_sym x y = nat_list_eq_equiv.symm x y

-- a text among owned texts
pub among_strings : (q : List ℕ) (strings : List (String Global)) → list_any (λ s. bytes_eq q (string_bytes s)) strings ≡ list_any (λ listed. bytes_eq listed q) (map string_bytes strings)
among_strings q [] = refl
among_strings q (s ∷ strings) = ap₂ ◌||◌ (text_sym q (string_bytes s)) (among_strings q strings)

-- what no listed text has, a text that is listed does not have
pub none_passes : (p : List ℕ → Bool) (xs : List (List ℕ)) (q : List ℕ) → find p xs ≡ None → list_any (λ listed. bytes_eq listed q) xs ≡ true → p q ≡ false
none_passes p [] q none listed = cc
none_passes p (x ∷ xs) q none listed = go (none_passes p xs q) (p x) (bytes_eq x q) refl refl none listed
  where
    go : (find p xs ≡ None → list_any (λ listed. bytes_eq listed q) xs ≡ true → p q ≡ false) → (passes same : Bool) → p x ≡ passes → bytes_eq x q ≡ same → cond passes (Some x) (find p xs) ≡ None → (same || list_any (λ listed. bytes_eq listed q) xs) ≡ true → p q ≡ false
    go more true same e f n l = cc
    go more false true e f n l = ap p (sym ((bytes_eq-Decides x q).0 f)) ∙ e
    go more false false e f n l = more n l
