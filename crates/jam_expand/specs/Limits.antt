-- How large a list of texts may be, and what an answer is.
use Rattle.std.specs.Prelude.{◌≡◌, ◌⊎◌, ℕ, ◌+◌, nat_lt, List, [], ◌∷◌, length, Option, Some, None, Result, Ok, Err, if◌then◌else◌}
use Rattle.b2_base.specs.declared.expand_fault.ExpandFault.{ExpandFault}
use Rattle.b2_base.specs.declared.expand_fault.ExpandFault.TheVariants as faults

-- the texts that a word stands for, or the fault that keeps it from having any
abbrev pub Answer : Type 0
Answer = Result (List (List ℕ)) ExpandFault

-- the most that the bytes and the elements of a list may be together
abbrev pub limit : ℕ
limit = 16777216

-- the elements' lengths plus one each are added in order; the first sum that is above the limit
abbrev pub first_above : ℕ → List (List ℕ) → Option ℕ
first_above sum [] = None
first_above sum (text ∷ texts) =
    if nat_lt limit (sum + (length text + 1)) then Some (sum + (length text + 1)) else first_above (sum + (length text + 1)) texts

abbrev pub unless_above : List (List ℕ) → Option ℕ → Answer
unless_above texts None = Ok texts
unless_above texts (Some bytes) = Err (faults.TooLarge bytes)

-- the list, unless a sum is above the limit
abbrev pub within : List (List ℕ) → Answer
within texts = unless_above texts (first_above 0 texts)

-- the sum of the lengths plus one each
abbrev pub total : ℕ → List (List ℕ) → ℕ
total sum [] = sum
total sum (text ∷ texts) = total (sum + (length text + 1)) texts

-- the list is not too large, and this is its sum
pub record IsWithin (texts : List (List ℕ)) (sum : ℕ) : Type 0 where
  pub small : first_above 0 texts ≡ None
  pub sum_is : total 0 texts ≡ sum

-- a call's result is the answer, unless memory ran out
abbrev pub IsGivenBy : {A : Type 0} → Result A ExpandFault → Result A ExpandFault → Type 0
IsGivenBy (Ok value) answer = answer ≡ Ok value
IsGivenBy (Err fault) answer = (fault ≡ faults.OutOfMemory) ⊎ (answer ≡ Err fault)

-- a call leaves the answer's value, or gives its fault, unless memory ran out
abbrev pub IsLeftBy : {U A : Type 0} → Result U ExpandFault → A → Result A ExpandFault → Type 0
IsLeftBy (Ok done) value answer = answer ≡ Ok value
IsLeftBy (Err fault) value answer = (fault ≡ faults.OutOfMemory) ⊎ (answer ≡ Err fault)
