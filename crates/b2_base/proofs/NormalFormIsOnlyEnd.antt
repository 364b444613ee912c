-- Steps lead from a text's segments to those of its normal form, and no step leads on; for the laws of simplification.
use Rattle.std.proofs.Common.{◌≡◌, ◌↔◌, ℕ, Bool, true, false, cond, not, List, [], ◌∷◌, ◌++◌, replicate, reverse, fold, filter, refl, ap, sym, ◌∙◌, subst}
use Rattle.std.specs.List.{AllByRecursion}
use Rattle.std.proofs.lemmas.List.{reverse-append}
use Rattle.b2_base.specs.Segments.{segments, is_rooted, is_dropped, is_up, climb, step, kept, written, normal_of}
use Rattle.b2_base.specs.Normal.{IsName, IsNormal, parts}
use Rattle.b2_base.specs.Simpler.{Reaches, IsSimplest, IsSimplestText}
use Rattle.b2_base.proofs.NormalMakesNormalForms.{Shape, fold_shape, whole_parts, all_reverse, reverse_replicate, two_dots, is_normal_normal}
use Rattle.b2_base.proofs.NormalFormsStay.{normal_of_normal}
use Rattle.b2_base.proofs.BeginningTellsWhatIsUnder.{IsPart, all_are, parts_written, rooted_written, cut_is}
use Rattle.b2_base.proofs.StepsLeadToOneEnd.{kept_reached, kept_simplest, simplest_is_kept, end_is_kept}

-- ---- the parts of what `normal` makes

kept_parts : (root : Bool) (text : List ℕ) → AllByRecursion IsPart (kept root (segments text))
kept_parts root text =
    let shape : Shape root (fold (step root) [] (segments text)) = fold_shape root [] (segments text) (whole_parts text) (record { names = []; ups = 0; found_is = refl; at_root = λ _. refl; each = tt }) in
    subst (AllByRecursion IsPart)
    (sym (ap reverse shape.found_is ∙ reverse-append shape.names (replicate shape.ups two_dots) ∙ ap (λ r. r ++ reverse shape.names) (reverse_replicate shape.ups two_dots)))
    (all_are shape.ups (reverse shape.names) (all_reverse IsName shape.names shape.each))

normal_parts : (text : List ℕ) → parts (normal_of text) ≡ kept (is_rooted text) (segments text)
normal_parts text = parts_written (is_rooted text) (kept (is_rooted text) (segments text)) (kept_parts (is_rooted text) text)

pub normal_root : (text : List ℕ) → is_rooted (normal_of text) ≡ is_rooted text
normal_root text = rooted_written (is_rooted text) (kept (is_rooted text) (segments text)) (kept_parts (is_rooted text) text)

pub normal_reached : (text : List ℕ) → Reaches (is_rooted text) (segments text) (parts (normal_of text))
normal_reached text = subst (Reaches (is_rooted text) (segments text)) (sym (normal_parts text)) (kept_reached (is_rooted text) (segments text))

pub normal_simplest : (text : List ℕ) → IsSimplest (is_rooted text) (parts (normal_of text))
normal_simplest text = subst (IsSimplest (is_rooted text)) (sym (normal_parts text)) (kept_simplest (is_rooted text) (segments text))

pub normal_only : (text : List ℕ) (found : List (List ℕ)) → Reaches (is_rooted text) (segments text) found → IsSimplest (is_rooted text) found → found ≡ parts (normal_of text)
normal_only text found r h = end_is_kept (is_rooted text) (segments text) found r h ∙ sym (normal_parts text)

-- ---- what a normal form is

fold_shown : (rooted : Bool) (found cuts : List (List ℕ)) → fold (step rooted) found (filter (λ s. not (is_dropped s)) cuts) ≡ fold (step rooted) found cuts
fold_shown rooted found [] = refl
fold_shown rooted found (s ∷ cuts) = go (is_dropped s) refl (λ f. fold_shown rooted f cuts)
  where
    go : (d : Bool) → is_dropped s ≡ d → ((f : List (List ℕ)) → fold (step rooted) f (filter (λ t. not (is_dropped t)) cuts) ≡ fold (step rooted) f cuts) → fold (step rooted) found (cond (not d) (s ∷ filter (λ t. not (is_dropped t)) cuts) (filter (λ t. not (is_dropped t)) cuts)) ≡ fold (step rooted) (step rooted found s) cuts
    go true e more = more found ∙ sym (ap (λ d. fold (step rooted) (cond d found (cond (is_up s) (climb rooted found s) (s ∷ found))) cuts) e)
    go false e more = more (step rooted found s)

is_simplest_text : (text : List ℕ) → IsNormal text → IsSimplestText text
is_simplest_text text n = record {
  text_is = cut_is text n;
  simplest = subst (λ t. IsSimplest (is_rooted text) (parts t)) (normal_of_normal text n) (normal_simplest text);
}

is_normal : (text : List ℕ) → IsSimplestText text → IsNormal text
is_normal text s =
    let kept_is : kept (is_rooted text) (segments text) ≡ parts text = sym (simplest_is_kept (is_rooted text) (parts text) s.simplest ∙ ap reverse (fold_shown (is_rooted text) [] (segments text))) in
    let same : normal_of text ≡ text = ap (written (is_rooted text)) kept_is ∙ sym s.text_is in
    subst IsNormal same (is_normal_normal text)

pub normal_is_simplest : (text : List ℕ) → IsNormal text ↔ IsSimplestText text
normal_is_simplest text = (is_simplest_text text, is_normal text)
