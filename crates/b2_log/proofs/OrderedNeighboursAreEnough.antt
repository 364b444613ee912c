-- Where each path is before the next, each is before all later ones; and what a failed test refutes: for the test.
use Rattle.std.proofs.Common.{◌≡◌, ℕ, zero, suc, add-one, ◌+◌, ◌<◌, true, false, List, length, sym, subst, inl, inr, arith}
use Rattle.std.specs.Prelude.{IsTrue, Bool}
use Rattle.std.specs.List.{slice_index_or}
use Rattle.std.proofs.lemmas.Cmp.{nat_list_cmp_total}
use Rattle.std.proofs.lemmas.Bool.{cases_lt}
use Rattle.b2_log.specs.Good.{IsRising, RisesAt}
use Rattle.b2_base.specs.Bytes.{Before}

-- where each stands before the next one, each stands before all later ones
pub rising_from : (files : List (List ℕ × ℕ)) → ((k : ℕ) → k + 1 < length files → RisesAt files k) → IsRising files
rising_from files next i j d below within = up j below within
  where
    up : (j : ℕ) → i < j → j < length files → Before (slice_index_or files i d).0 (slice_index_or files j d).0
    up zero below within = absurd (omega arith)
    up (suc j) below within =
        let step = next j (omega arith) d in
        elim (cases_lt i j) [
          | inl early ↦ nat_list_cmp_total.trans (slice_index_or files i d).0 (slice_index_or files j d).0 (slice_index_or files (suc j) d).0 (up j early (omega arith)) (rw add-one at step)
          | inr late ↦ let same : i ≡ j = omega arith in subst (λ (k : ℕ). Before (slice_index_or files k d).0 (slice_index_or files (suc j) d).0) (sym same) (rw add-one at step)
        ]

-- a test that failed, of what holds only where it does not
pub failed : {P : Type 0} (b : Bool) → b ≡ false → (P → IsTrue b) → P → ⊥
failed b e told p = let wrong : b ≡ true = told p in cc
