-- A path lies below a directory exactly where the test says so.
use Rattle.std.proofs.Common.{◌≡◌, ◌↔◌, ℕ, Bool, true, false, not, ◌&&◌, List, [], ◌∷◌, ◌++◌, codes, IsTrue, refl, sym, ap, ◌∙◌, inl, inr}
use Rattle.std.specs.Bool.{Decides, beq}
use Rattle.std.specs.Cmp.{booleans_Decides}
use Rattle.std.specs.Str.{bytes_eq}
use Rattle.std.proofs.lemmas.Bool.{false≢true, cond-true, cond-false, cases_Bool, and_parts, not-true}
use Rattle.std.proofs.lemmas.Bool.Decides.{same_from_decides}
use Rattle.std.proofs.lemmas.Slice.Eq.{bytes_eq-Decides}
use Rattle.b2_base.specs.Segments.{is_rooted, is_up}
use Rattle.b2_base.specs.Normal.{parts, IsUnder}
use Rattle.b2_base.specs.Below.{after_parts, goes_below, is_below}

pub after_itself : (dir more : List (List ℕ)) → after_parts dir (dir ++ more) ≡ more
after_itself [] more = refl
after_itself (first ∷ dir) more = cond-true _ _ _ ((bytes_eq-Decides first first).1 refl) ∙ after_itself dir more

after_some : (dir path : List (List ℕ)) (next : List ℕ) (more : List (List ℕ)) → after_parts dir path ≡ next ∷ more → path ≡ dir ++ next ∷ more
after_some [] path next more e = e
after_some (first ∷ dir) [] next more e = cc
after_some (first ∷ dir) (segment ∷ path) next more e =
    elim (cases_Bool (bytes_eq first segment)) [
      | inl same ↦
          let head : first ≡ segment = (bytes_eq-Decides first segment).0 same in
          let tail = after_some dir path next more (sym (cond-true (bytes_eq first segment) (after_parts dir path) [] same) ∙ e) in
          ap (λ s. s ∷ path) (sym head) ∙ ap (λ p. first ∷ p) tail
      | inr other ↦ let clash = sym (cond-false (bytes_eq first segment) (after_parts dir path) [] other) ∙ e in cc
    ]

not_above : (at above : Bool) → (at ≡ true → above ≡ false) → not (at && above) ≡ true
not_above true above h = ap not (h refl)
not_above false above h = refl

below_from_under : (path dir : List ℕ) → IsUnder path dir → is_below path dir ≡ true
below_from_under path dir u =
    ap (λ b. b && goes_below (bytes_eq dir (codes ".")) (after_parts (parts dir) (parts path))) ((booleans_Decides (is_rooted path) (is_rooted dir)).1 u.rooted)
    ∙ ap (goes_below (bytes_eq dir (codes "."))) (ap (after_parts (parts dir)) u.goes_on ∙ after_itself (parts dir) (u.next ∷ u.more))
    ∙ not_above (bytes_eq dir (codes ".")) (is_up u.next) (λ at. u.not_above ((bytes_eq-Decides dir (codes ".")).0 at))

under_from_below : (path dir : List ℕ) → is_below path dir ≡ true → IsUnder path dir
under_from_below path dir h =
    let both = and_parts (beq (is_rooted path) (is_rooted dir)) (goes_below (bytes_eq dir (codes ".")) (after_parts (parts dir) (parts path))) h in
    go (after_parts (parts dir) (parts path)) refl both.1 ((booleans_Decides (is_rooted path) (is_rooted dir)).0 both.0)
  where
    go : (rest : List (List ℕ)) → after_parts (parts dir) (parts path) ≡ rest → goes_below (bytes_eq dir (codes ".")) rest ≡ true → is_rooted path ≡ is_rooted dir → IsUnder path dir
    go [] e below rooted = absurd (false≢true below)
    go (next ∷ more) e below rooted = record {
      next = next;
      more = more;
      rooted = rooted;
      goes_on = after_some (parts dir) (parts path) next more e;
      not_above = λ at. not-true (is_up next) (sym (ap (λ b. not (b && is_up next)) ((bytes_eq-Decides dir (codes ".")).1 at)) ∙ below);
    }

below_decides : (path dir : List ℕ) → Decides (is_below path dir) (IsUnder path dir)
below_decides path dir = (under_from_below path dir, below_from_under path dir)

pub below_is : (answer : Bool) (path dir : List ℕ) → (IsTrue answer ↔ IsUnder path dir) → answer ≡ is_below path dir
below_is answer path dir told = same_from_decides answer (is_below path dir) (told.0, told.1) (below_decides path dir)
