-- Segments of a text without zero bytes have none, nor have these joined again; for the paths of directories.
use Rattle.std.proofs.Common.{ℕ, ◌<◌, Bool, true, false, cond, eqb, All, List, [], ◌∷◌, ◌++◌, take, arith}
use Rattle.std.specs.List.{AllByRecursion, slice_split, onto_first, join_with_byte}
use Rattle.std.proofs.lemmas.List.Elements.{All-from_recursion, recursion_from_All, All-take}
use Rattle.b2_base.specs.Bytes.{HasNoZero}
use Rattle.b2_base.specs.Segments.{segments}

abbrev IsPositive : ℕ → Type 0
IsPositive byte = 0 < byte

onto_clean : (byte : ℕ) (parts : List (List ℕ)) → IsPositive byte → AllByRecursion HasNoZero parts → AllByRecursion HasNoZero (onto_first byte parts)
onto_clean byte [] h clean = (All-from_recursion IsPositive (byte ∷ []) (h, tt), tt)
onto_clean byte (part ∷ parts) h clean = (All-from_recursion IsPositive (byte ∷ part) (h, recursion_from_All IsPositive part clean.0), clean.1)

parts_clean : (test : ℕ → Bool) (text : List ℕ) → AllByRecursion IsPositive text → AllByRecursion HasNoZero (slice_split test text)
parts_clean test [] clean = (All-from_recursion IsPositive [] tt, tt)
parts_clean test (byte ∷ text) clean =
    elim (test byte) as (λ b. AllByRecursion HasNoZero (cond b ([] ∷ slice_split test text) (onto_first byte (slice_split test text)))) [
      | true ↦ (All-from_recursion IsPositive [] tt, parts_clean test text clean.1)
      | false ↦ onto_clean byte (slice_split test text) clean.0 (parts_clean test text clean.1)
    ]

pub segments_clean : (text : List ℕ) → HasNoZero text → All HasNoZero (segments text)
segments_clean text clean = All-from_recursion HasNoZero (segments text) (parts_clean (λ b. eqb b 47) text (recursion_from_All IsPositive text clean))

append_clean : (first rest : List ℕ) → AllByRecursion IsPositive first → AllByRecursion IsPositive rest → AllByRecursion IsPositive (first ++ rest)
append_clean [] rest one two = two
append_clean (byte ∷ first) rest one two = (one.0, append_clean first rest one.1 two)

join_clean : (cuts : List (List ℕ)) → AllByRecursion HasNoZero cuts → AllByRecursion IsPositive (join_with_byte 47 cuts)
join_clean [] clean = tt
join_clean (cut ∷ []) clean = recursion_from_All IsPositive cut clean.0
join_clean (cut ∷ next ∷ cuts) clean =
    append_clean cut (47 ∷ join_with_byte 47 (next ∷ cuts)) (recursion_from_All IsPositive cut clean.0) (omega arith, join_clean (next ∷ cuts) clean.1)

-- the first of some segments, joined
pub beginning_clean : (count : ℕ) (cuts : List (List ℕ)) → All HasNoZero cuts → HasNoZero (join_with_byte 47 (take count cuts))
beginning_clean count cuts clean =
    All-from_recursion IsPositive (join_with_byte 47 (take count cuts)) (join_clean (take count cuts) (recursion_from_All HasNoZero (take count cuts) (All-take HasNoZero count cuts clean)))
