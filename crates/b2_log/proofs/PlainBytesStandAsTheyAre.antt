-- Plain bytes are written as they are: a field that begins with them goes on with what follows.
use Rattle.std.proofs.Common.{◌≡◌, ◌≢◌, ℕ, zero, suc, ◌+◌, ◌<◌, List, [], ◌∷◌, ◌++◌, length, get_or, take, add-one, refl, sym, ap, subst, ◌∙◌, append_assoc, arith}
use Rattle.std.specs.List.{All, flat_map}
use Rattle.std.proofs.Math.Seq.{take-suc}
use Rattle.std.proofs.lemmas.List.Elements.{All-append}
use Rattle.std.proofs.lemmas.List.Concat.{flat_map-append}
use Rattle.b2_log.specs.Lines.{escaped, field}
use Rattle.b2_log.specs.Good.{IsText}
use Rattle.b2_log.specs.Readings.{IsPlain, Begins, BeginsNone}

all_one : (P : ℕ → Type 0) (x : ℕ) → P x → All P (x ∷ [])
all_one P x p zero d lt = p
all_one P x p (suc k) d lt = absurd (omega arith)

-- one more plain byte
pub plain_more : (bytes : List ℕ) (k : ℕ) → k < length bytes → All IsPlain (take k bytes) → IsPlain (get_or bytes k 0) → All IsPlain (take (k + 1) bytes)
plain_more bytes k lt plain next = rw (add-one, take-suc bytes k 0 lt) (All-append IsPlain (take k bytes) (get_or bytes k 0 ∷ []) plain (all_one IsPlain (get_or bytes k 0) next))

pub plain_escaped : (bytes : List ℕ) → All IsPlain bytes → flat_map escaped bytes ≡ bytes
plain_escaped [] plain = refl
plain_escaped (b ∷ rest) plain = ap (λ (w : List ℕ). w ++ flat_map escaped rest) (plain 0 0 (omega arith)).1 ∙ ap (λ (w : List ℕ). b ∷ w) (plain_escaped rest (λ k d lt. plain (suc k) d (omega arith)))

-- plain bytes up to a tab are a field
pub plain_field : (bytes plain rest after : List ℕ) → All IsPlain plain → bytes ≡ plain ++ rest → rest ≡ 9 ∷ after → bytes ≡ field plain ++ after
unfolding field
plain_field bytes plain rest after each split tab_is = split ∙ ap (λ (w : List ℕ). plain ++ w) tab_is ∙ ap (λ (w : List ℕ). w ++ 9 ∷ after) (sym (plain_escaped plain each)) ∙ sym (append_assoc (flat_map escaped plain) (9 ∷ []) after)

pub plain_begins : (bytes plain rest after text : List ℕ) → All IsPlain plain → bytes ≡ plain ++ rest → rest ≡ 9 ∷ after → text ≡ plain → IsText plain → Begins field IsText bytes text after
plain_begins bytes plain rest after text each split tab_is same is_text =
    subst (λ (t : List ℕ). Begins field IsText bytes t after) (sym same) (record { so = is_text; split = plain_field bytes plain rest after each split tab_is })

-- bytes that no field begins
pub field_untold : (bytes whole : List ℕ) → bytes ≡ whole → ((text after : List ℕ) → whole ≢ field text ++ after) → BeginsNone field IsText bytes
field_untold bytes whole split none text after b = none text after (sym split ∙ b.split)

-- ---- a field that is read by pieces

-- what was read stands escaped before what is left
pub record IsReadSo (whole text rest : List ℕ) : Type 0 where
  pub split : whole ≡ flat_map escaped text ++ rest

pub read_none : (plain rest : List ℕ) → All IsPlain plain → IsReadSo (plain ++ rest) plain rest
read_none plain rest each = record { split = ap (λ (w : List ℕ). w ++ rest) (sym (plain_escaped plain each)) }

pub read_next : (whole text rest : List ℕ) (byte : ℕ) (after piece left one_more more : List ℕ) → IsReadSo whole text rest → rest ≡ escaped byte ++ after → after ≡ piece ++ left → All IsPlain piece → one_more ≡ text ++ byte ∷ [] → more ≡ one_more ++ piece → IsReadSo whole more left
read_next whole text rest byte after piece left one_more more so next split each pushed extended = record {
  split = so.split ∙ ap (λ (w : List ℕ). flat_map escaped text ++ w) (next ∙ ap (λ (w : List ℕ). escaped byte ++ w) (split ∙ ap (λ (w : List ℕ). w ++ left) (sym (plain_escaped piece each))))
      ∙ sym spelled;
}
  where
    spelled : flat_map escaped more ++ left ≡ flat_map escaped text ++ (escaped byte ++ (flat_map escaped piece ++ left))
    spelled = rw (extended, pushed) (simp (flat_map-append, append_assoc))
