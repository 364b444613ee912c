-- A path from the folder is the path of the text alone.
use Rattle.std.proofs.Common.{◌≡◌, ℕ, Bool, true, false, List, ◌++◌, codes, refl, ap, sym, ◌∙◌}
use Rattle.std.proofs.lemmas.Bool.{cond-true, cond-false}
use Rattle.b2_base.specs.Segments.{normal_of, path_from, segments, is_rooted, written, kept, here}

pub from_folder : (text : List ℕ) → path_from here text ≡ normal_of text
from_folder text = by_root (is_rooted text) refl
  where
    by_root : (rooted : Bool) → is_rooted text ≡ rooted → path_from here text ≡ normal_of text
    by_root true e = ap normal_of (cond-true (is_rooted text) text (codes "./" ++ text) e)
    by_root false e =
        ap normal_of (cond-false (is_rooted text) text (codes "./" ++ text) e) ∙ sym (ap (λ b. written b (kept b (segments text))) e)
