-- The steps of reading an include, as the code takes them.
use Rattle.std.proofs.Common.{◌≡◌, ℕ, cond, Bool, true, false, List, [], ◌∷◌, Option, Some, None, option_map, option_and_then, refl, sym, ap, ◌∙◌, codes}
use Rattle.std.specs.Borrow.{Bor}
use Rattle.b2_plan.specs.Sources.{Include}
use Rattle.jam_scan.specs.IncludeLines.{after_blanks, after_word, after_directive, before_sign, opening, closing, is_name, named, enclosed, include_at, include_of}

-- ---- `#` and `include`

pub no_hash : (line blanks : List ℕ) → blanks ≡ after_blanks line → None ≡ after_word (codes "#") blanks → after_directive line ≡ None
unfolding after_directive
no_hash line blanks same none = ap (λ b. option_and_then (λ rest. after_word (codes "include") (after_blanks rest)) (after_word (codes "#") b)) (sym same) ∙ ap (option_and_then (λ rest. after_word (codes "include") (after_blanks rest))) (sym none)

pub hash : (line blanks rest next : List ℕ) → blanks ≡ after_blanks line → Some rest ≡ after_word (codes "#") blanks → next ≡ after_blanks rest → after_word (codes "include") next ≡ after_directive line
unfolding after_directive
hash line blanks rest next same found over =
    ap (after_word (codes "include")) over ∙ ap (option_and_then (λ rest. after_word (codes "include") (after_blanks rest))) found
    ∙ ap (λ b. option_and_then (λ rest. after_word (codes "include") (after_blanks rest)) (after_word (codes "#") b)) same

-- ---- a name between its signs

pub not_opened : (quoted : Bool) (text : List ℕ) → None ≡ after_word (opening quoted ∷ []) text → enclosed quoted text ≡ None
unfolding enclosed
not_opened quoted text none = ap (λ o. option_and_then (named quoted) (option_and_then (before_sign (closing quoted)) o)) (sym none)

pub not_closed : (quoted : Bool) (text rest : List ℕ) → Some rest ≡ after_word (opening quoted ∷ []) text → None ≡ before_sign (closing quoted) rest → enclosed quoted text ≡ None
unfolding enclosed
not_closed quoted text rest opened none = ap (λ o. option_and_then (named quoted) (option_and_then (before_sign (closing quoted)) o)) (sym opened) ∙ ap (option_and_then (named quoted)) (sym none)

pub closed : (quoted : Bool) (text rest front : List ℕ) (r : Option (Bor (List ℕ))) → Some rest ≡ after_word (opening quoted ∷ []) text → Some front ≡ before_sign (closing quoted) rest
    → option_map (λ name. name.now) r ≡ cond (is_name front) (Some front) None → option_map (λ name. (name.now, quoted)) r ≡ enclosed quoted text
unfolding enclosed named
closed quoted text rest front r opened ends is =
    paired r ∙ ap (option_map {T = List ℕ} {U = Include} (λ name. (name, quoted))) is ∙ by_name (is_name front)
    ∙ ap (option_and_then (named quoted)) ends ∙ ap (λ o. option_and_then (named quoted) (option_and_then (before_sign (closing quoted)) o)) opened
  where
    paired : (r : Option (Bor (List ℕ))) → option_map {T = Bor (List ℕ)} {U = Include} (λ name. (name.now, quoted)) r ≡ option_map {T = List ℕ} {U = Include} (λ name. (name, quoted)) (option_map (λ name. name.now) r)
    paired None = refl
    paired (Some name) = refl

    by_name : (b : Bool) → option_map {T = List ℕ} {U = Include} (λ name. (name, quoted)) (cond b (Some front) None) ≡ cond b (Some (front, quoted)) None
    by_name true = refl
    by_name false = refl

-- ---- the include of a line

pub no_directive : (line : List ℕ) → None ≡ after_directive line → None ≡ include_of line
unfolding include_of
no_directive line none = ap (option_and_then (λ rest. include_at (after_blanks rest))) none

pub directive : (line rest : List ℕ) → Some rest ≡ after_directive line → include_at (after_blanks rest) ≡ include_of line
unfolding include_of
directive line rest found = ap (option_and_then (λ rest. include_at (after_blanks rest))) found
