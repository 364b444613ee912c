-- The first element of a product, and sums that are taken before it is made.
use Rattle.std.specs.Prelude.{◌≡◌, ◌⊎◌, ℕ, List, [], ◌∷◌, ◌++◌, Result, Ok, Err}
use Rattle.b2_base.specs.Lists.{first_of}
use Rattle.b2_base.specs.declared.expand_fault.ExpandFault.{ExpandFault}
use Rattle.b2_base.specs.declared.expand_fault.ExpandFault.TheVariants as faults
use Rattle.jam_expand.specs.Limits.{within, IsWithin}

-- the first texts of the lists as one
abbrev pub heads : List (List (List ℕ)) → List ℕ
heads [] = []
heads (texts ∷ lists) = first_of texts ++ heads lists

-- the sum of a list that is not too large, or the fault of one that is
abbrev pub IsSumOf : Result ℕ ExpandFault → List (List ℕ) → Type 0
IsSumOf (Ok sum) texts = IsWithin texts sum
IsSumOf (Err fault) texts = (fault ≡ faults.OutOfMemory) ⊎ (within texts ≡ Err fault)
