-- The includes of a file are those of its first line, and then those of the rest.
use Rattle.std.proofs.Common.{◌≡◌, ℕ, ◌+◌, ◌-◌, ◌≤◌, eqb, List, [], ◌++◌, length, take, drop, Option, Some, None, refl, sym, ap, ◌∙◌, arith, append_assoc}
use Rattle.std.specs.List.{slice_split, position_or_len, filter_map, cons_option}
use Rattle.std.specs.Option.{option_to_list}
use Rattle.std.proofs.lemmas.Bool.{false_from_ne_true}
use Rattle.std.proofs.lemmas.List.{get_or_default, append-nil, take_all, drop-drop, length-drop}
use Rattle.std.proofs.lemmas.List.Splits.{slice_split_first, slice_split_none}
use Rattle.memchr.specs.Find.{Nowhere, NoneBefore, Passes, is_byte}
use Rattle.b2_base.specs.Bytes.{line_feed}
use Rattle.b2_plan.specs.Sources.{Include}
use Rattle.jam_scan.specs.IncludeLines.{include_of, includes_of}
use Rattle.jam_scan.proofs.PartsOfLinesAreRead.{sign_place}

cons_is_append : {X : Type 0} (o : Option X) (xs : List X) → cons_option o xs ≡ option_to_list o ++ xs
cons_is_append None xs = refl
cons_is_append (Some x) xs = refl

pub first_line : (bytes : List ℕ) (end : ℕ) → NoneBefore (Passes (is_byte line_feed) bytes) 0 (length bytes) end → Passes (is_byte line_feed) bytes end → includes_of bytes ≡ option_to_list (include_of (take end bytes)) ++ includes_of (drop (end + 1) bytes)
unfolding includes_of
first_line bytes end first here =
    let place : position_or_len (λ byte. eqb byte line_feed) bytes ≡ end = sign_place line_feed bytes end first here in
    ap (filter_map include_of) (slice_split_first (λ byte. eqb byte line_feed) bytes 0 (omega (arith, place, first.high)))
    ∙ ap (λ n. cons_option (include_of (take n bytes)) (filter_map include_of (slice_split (λ byte. eqb byte line_feed) (drop (n + 1) bytes)))) place
    ∙ cons_is_append (include_of (take end bytes)) (includes_of (drop (end + 1) bytes))

pub last_line : (bytes : List ℕ) → Nowhere (Passes (is_byte line_feed) bytes) 0 (length bytes) → includes_of bytes ≡ option_to_list (include_of bytes)
unfolding includes_of
last_line bytes none =
    ap (filter_map include_of) (slice_split_none (λ byte. eqb byte line_feed) bytes (λ k d l. ap (λ byte. eqb byte line_feed) (get_or_default bytes k d 0 l) ∙ false_from_ne_true _ (none k (omega arith) l)))
    ∙ cons_is_append (include_of bytes) [] ∙ append-nil (option_to_list (include_of bytes))

-- one more line was read
pub line_more : (whole found next : List Include) (bytes line after rest : List ℕ) (end : ℕ) → found ++ includes_of bytes ≡ whole → NoneBefore (Passes (is_byte line_feed) bytes) 0 (length bytes) end → Passes (is_byte line_feed) bytes end
    → line ≡ take end bytes → after ≡ drop end bytes → rest ≡ drop 1 after → next ≡ found ++ option_to_list (include_of line) → next ++ includes_of rest ≡ whole
line_more whole found next bytes line after rest end so_far first here line_is after_is left more =
    let tail : rest ≡ drop (end + 1) bytes = left ∙ ap (drop 1) after_is ∙ drop-drop 1 end bytes in
    ap (λ f. f ++ includes_of rest) more ∙ append_assoc found (option_to_list (include_of line)) (includes_of rest)
    ∙ ap (λ r. found ++ (option_to_list (include_of line) ++ includes_of r)) tail
    ∙ ap (λ l. found ++ (option_to_list (include_of l) ++ includes_of (drop (end + 1) bytes))) line_is
    ∙ sym (ap (λ i. found ++ i) (first_line bytes end first here)) ∙ so_far

-- the last line was read
pub line_last : (whole found next : List Include) (bytes : List ℕ) → found ++ includes_of bytes ≡ whole → Nowhere (Passes (is_byte line_feed) bytes) 0 (length bytes) → next ≡ found ++ option_to_list (include_of bytes) → next ≡ whole
line_last whole found next bytes so_far none more = more ∙ sym (ap (λ i. found ++ i) (last_line bytes none)) ∙ so_far

-- all that is left is what is left
pub take_rest : (n : ℕ) (bytes : List ℕ) → length bytes ≤ n → take (n - 1) (drop 1 bytes) ≡ drop 1 bytes
take_rest n bytes h = take_all (n - 1) (drop 1 bytes) (omega (arith, h, length-drop 1 bytes))
