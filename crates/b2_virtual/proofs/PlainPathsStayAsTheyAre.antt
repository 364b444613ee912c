-- A relative path in normal form with no `..` is its own tail; and what lies in the folder, or in `bin` below no elements.
use Rattle.std.proofs.Common.{◌≡◌, ℕ, true, false, List, [], ◌∷◌, ◌++◌, map, codes, refl, ap, ap₂, sym, ◌∙◌}
use Rattle.std.specs.List.{list_all, join_with_byte}
use Rattle.std.proofs.lemmas.Bool.{and_parts, not-true, cond-false}
use Rattle.std.proofs.lemmas.List.Splits.{join_with_byte-slice_split}
use Rattle.b2_base.specs.Segments.{normal_of, segments, is_rooted, is_up, written, kept, here}
use Rattle.b2_base.specs.Normal.{IsNormal}
use Rattle.b2_base.proofs.NormalFormsStay.{normal_of_normal}
use Rattle.b2_virtual.specs.Paths.{up_shown, source_tail, named_tail, output_path, is_down}

down_stays : (parts : List (List ℕ)) → list_all is_down parts ≡ true → map up_shown parts ≡ parts
down_stays [] e = refl
down_stays (part ∷ parts) e =
    let both = and_parts (is_down part) (list_all is_down parts) e in
    ap₂ ◌∷◌ (cond-false (is_up part) (codes "up") part (not-true (is_up part) both.0)) (down_stays parts both.1)

pub own_tail : (path : List ℕ) → IsNormal path → is_rooted path ≡ false → list_all is_down (segments path) ≡ true → source_tail path ≡ path
own_tail path n r e =
    ap₂ (λ (root rest : List ℕ). normal_of (root ++ rest)) (cond-false (is_rooted path) (codes "root") [] r)
    (ap (join_with_byte 47) (down_stays (segments path) e) ∙ join_with_byte-slice_split 47 path)
    ∙ normal_of_normal path n

pub tail_in_folder : (name : List ℕ) → is_rooted name ≡ false → named_tail here name ≡ normal_of name
tail_in_folder name r = sym (ap (λ b. written b (kept b (segments name))) r)

pub output_of_none : (tail : List ℕ) → output_path [] tail ≡ normal_of (codes "bin" ++ codes "/" ++ tail)
output_of_none tail = refl
