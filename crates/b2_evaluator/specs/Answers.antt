-- What a loaded project's own text answers.
use Rattle.std.specs.Prelude.{◌≡◌, ℕ, Bool, false, List, Option, None, Some, Result, Ok, Err}
use Rattle.jam_journal.specs.Tables.{Text}
use Rattle.jam_meaning.specs.Rolled.{Job, StepAnswer}

-- What a rule of the project at a place returns for the texts of properties, where it was named at this line of the project's
-- file; and the text of a step, with what its rule noted. `E` is why there is no such answer.
pub record Answers (E : Type 0) : Type 0 where
  pub returned : (project : ℕ) (rule : Text) (line : ℕ) (properties : List Text) → Result (List Text) E
  pub step_text : Job → Result StepAnswer E

-- whether a fault is neither one of the host nor out of memory
pub record IsTellable {E : Type 0} (is_host_fault is_out_of_memory : E → Bool) (fault : E) : Type 0 where
  pub no_host_fault : is_host_fault fault ≡ false
  pub no_memory_fault : is_out_of_memory fault ≡ false

-- where answers are told, an answer is the one that is told, seen as data, unless it is a fault of the host or out of memory
abbrev pub Agrees : {A B E : Type 0} → (E → Bool) → (E → Bool) → (A → B) → Result B E → Result A E → Type 0
Agrees is_host_fault is_out_of_memory seen told (Ok answer) = told ≡ Ok (seen answer)
Agrees is_host_fault is_out_of_memory seen told (Err fault) = IsTellable is_host_fault is_out_of_memory fault → told ≡ Err fault

abbrev pub IsTold : {A B E : Type 0} → (E → Bool) → (E → Bool) → (A → B) → (Answers E → Result B E) → Option (Answers E) → Result A E → Type 0
IsTold is_host_fault is_out_of_memory seen asked None result = Unit {0}
IsTold is_host_fault is_out_of_memory seen asked (Some told) result = Agrees is_host_fault is_out_of_memory seen (asked told) result
