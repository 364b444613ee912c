-- The name of a target or a source is one name, without a mark of a reference.
use Rattle.std.proofs.Common.{◌≡◌, ℕ, ◌<◌, ◌^◌, ◌||◌, false, eqb, List, [], ◌∷◌, codes, None, is_some, refl, ap, ◌∙◌, arith}
use Rattle.std.specs.Fmt.{decimal}
use Rattle.std.specs.List.{AllByRecursion, list_any}
use Rattle.std.specs.Str.{bytes_eq}
use Rattle.std.proofs.lemmas.List.Elements.{All-from_recursion}
use Rattle.std.proofs.lemmas.List.Splits.{slice_split_none}
use Rattle.b2_base.specs.Segments.{segments, normal_of, kept, written, is_up}
use Rattle.b2_declaring_calls.specs.Targets.{is_refused_name}
use Rattle.b2_drill_text.proofs.NamesNeedNoQuotes.{IsDigit, all_digits}
use Rattle.b2_property_texts.specs.Cuts.{cut_at}

-- a byte that is no slash
pub record IsNoSlash (byte : ℕ) : Type 0 where
  pub first : eqb byte 47 ≡ false
  pub second : eqb 47 byte ≡ false

digit_is_no_slash : (d : ℕ) → IsDigit d → IsNoSlash d
digit_is_no_slash d h = let low : 47 < d = h.low in record { first = grind (arith, low); second = grind (arith, low) }

no_slashes : (ds : List ℕ) → AllByRecursion IsDigit ds → AllByRecursion IsNoSlash ds
no_slashes [] h = tt
no_slashes (d ∷ ds) h = (digit_is_no_slash d h.0, no_slashes ds h.1)

-- no mark of a reference stands in it
pub not_cut : (text : List ℕ) → AllByRecursion IsNoSlash text → cut_at (codes "//") text ≡ None
not_cut [] h = refl
not_cut (b ∷ text) h = rw (h.0.second, not_cut text h.1) refl

firsts : (text : List ℕ) → AllByRecursion IsNoSlash text → AllByRecursion (λ b. eqb b 47 ≡ false) text
firsts [] h = tt
firsts (b ∷ text) h = (h.0.first, firsts text h.1)

-- it is one segment
one_segment : (text : List ℕ) → AllByRecursion IsNoSlash text → segments text ≡ text ∷ []
one_segment text h = slice_split_none (λ b. eqb b 47) text (All-from_recursion (λ b. eqb b 47 ≡ false) text (firsts text h))

pub target_has_no_slash : (n : ℕ) → n < 2 ^ 64 → AllByRecursion IsNoSlash (116 ∷ decimal n)
target_has_no_slash n small = (record { first = refl; second = refl }, no_slashes (decimal n) (all_digits n small))

pub source_has_no_slash : (n : ℕ) → n < 2 ^ 64 → AllByRecursion IsNoSlash (115 ∷ decimal n)
source_has_no_slash n small = (record { first = refl; second = refl }, no_slashes (decimal n) (all_digits n small))

target_segments : (ds : List ℕ) → AllByRecursion IsNoSlash (116 ∷ ds) → list_any is_up (segments (116 ∷ ds)) ≡ false
target_segments ds h = ap (list_any is_up) (one_segment (116 ∷ ds) h)

pub target_normal : (ds : List ℕ) → AllByRecursion IsNoSlash (116 ∷ ds) → normal_of (116 ∷ ds) ≡ 116 ∷ ds
target_normal ds h = ap (λ cuts. written false (kept false cuts)) (one_segment (116 ∷ ds) h)

good_name : (ds : List ℕ) → AllByRecursion IsNoSlash (116 ∷ ds) → is_refused_name (116 ∷ ds) ≡ false
good_name ds h =
    ap (λ cut. is_some cut || list_any is_up (segments (116 ∷ ds)) || bytes_eq (normal_of (116 ∷ ds)) (codes ".")) (not_cut (116 ∷ ds) h)
    ∙ ap (λ up. up || bytes_eq (normal_of (116 ∷ ds)) (codes ".")) (target_segments ds h)
    ∙ ap (λ name. bytes_eq name (codes ".")) (target_normal ds h)

pub target_is_good : (n : ℕ) → n < 2 ^ 64 → is_refused_name (116 ∷ decimal n) ≡ false
target_is_good n small = good_name (decimal n) (target_has_no_slash n small)
