-- The rules of indirect requirements, asked for a main target.
use Rattle.std.specs.Prelude.{◌≡◌, ◌⊎◌, ℕ, Bool, true, false, List, Option, option_map, Result, Ok, Err, IfErr}
use Rattle.b2_props.specs.Sets.{Pair}
use Rattle.b2_declared.specs.declared.whole.Declared.{Declared}
use Rattle.b2_references.specs.Names.{Name}
use Rattle.b2_features.specs.Table.{DeclaredFeature}
use Rattle.b2_props.specs.declared.requirement.Requirement.{Requirement}
use Rattle.b2_refine.specs.Answers.{Answer}
use Rattle.b2_refine.specs.Conditions.{IsUnstable, IsAsked}
use Rattle.b2_evaluator.specs.Answers.{Answers}
use Rattle.b2_base.specs.Counts.{IsCounted}
use Rattle.b2_alternatives.specs.Choosing.{answer}
use Rattle.b2_alternatives.specs.declared.fault.ChoiceFault.{ChoiceFault}
use Rattle.b2_alternatives.specs.declared.fault.ChoiceFault.TheVariants.{NoAlternative, AmbiguousAlternative, Unstable, BadAnswer, Eval, OutOfMemory}

-- whether a fault is one of the evaluation of this kind
abbrev pub is_eval : {E : Type 0} → (E → Bool) → ChoiceFault E → Bool
is_eval test (NoAlternative target set) = false
is_eval test (AmbiguousAlternative target set i k) = false
is_eval test (Unstable target first second) = false
is_eval test (BadAnswer target rule word) = false
is_eval test (Eval fault) = test fault
is_eval test OutOfMemory = false

-- whether a fault is out of memory, where this tells which ones of the evaluation are
abbrev pub is_memory : {E : Type 0} → (E → Bool) → ChoiceFault E → Bool
is_memory test (NoAlternative target set) = false
is_memory test (AmbiguousAlternative target set i k) = false
is_memory test (Unstable target first second) = false
is_memory test (BadAnswer target rule word) = false
is_memory test (Eval fault) = test fault
is_memory test OutOfMemory = true

-- what is known of each fault of the evaluation is known of the one of an answer
abbrev pub IsKnown : {E : Type 0} → (E → Type 0) → ChoiceFault E → Type 0
IsKnown Known (NoAlternative target set) = Unit {0}
IsKnown Known (AmbiguousAlternative target set i k) = Unit {0}
IsKnown Known (Unstable target first second) = Unit {0}
IsKnown Known (BadAnswer target rule word) = Unit {0}
IsKnown Known (Eval fault) = Known fault
IsKnown Known OutOfMemory = Unit {0}

-- how rules answer for a main target, where the evaluation tells what they return
abbrev pub told_answer : {E : Type 0} → Declared → Name → Option (Answers E) → Option (Answer (ChoiceFault E))
told_answer d name answers = option_map (λ a. answer d a.returned name) answers

-- What stays when rules are asked: the project, the main target, and what the evaluation tells and keeps.
pub record Setting (E K : Type 0) : Type 0 where
  pub project : Declared
  pub name : Name
  pub answers : Option (Answers E)
  pub kept : K

-- an answer is the one of the definition, or out of memory
abbrev pub IsAnswer : {E : Type 0} → Result (List Pair) (ChoiceFault E) → Result (List Pair) (ChoiceFault E) → Type 0
IsAnswer told (Ok pairs) = told ≡ Ok pairs
IsAnswer told (Err OutOfMemory) = Unit {0}
IsAnswer told (Err (NoAlternative target set)) = ⊥
IsAnswer told (Err (AmbiguousAlternative target set i k)) = ⊥
IsAnswer told (Err (Unstable target first second)) = ⊥
IsAnswer told (Err (BadAnswer target rule word)) = told ≡ Err (BadAnswer target rule word)
IsAnswer told (Err (Eval fault)) = ⊥

-- ---- what is promised of the evaluation

-- A call leaves what the evaluation tells and keeps, counts a fault of the host where it answers with one, and promises of a fault
-- what the evaluation promises.
pub record Leaves {S E K T : Type 0} (answers : S → Option (Answers E)) (kept : S → K) (faults : S → ℕ) (is_host is_out : E → Bool) (CanFault : K → E → Type 0) (old new : S) (result : Result T (ChoiceFault E)) : Type 0 where
  pub same_answers : answers new ≡ answers old
  pub same_kept : kept new ≡ kept old
  pub counted : IsCounted (is_eval is_host) (is_memory is_out) (faults old) (faults new) result
  pub known : IfErr result (IsKnown (CanFault (kept old)))

-- a fault tells why requirements have no set: a rule is asked and answers with it, or no round leaves its set as it is
abbrev pub IsRefusal : {E : Type 0} → Answer (ChoiceFault E) → List DeclaredFeature → List ℕ → List Pair → List Requirement → ChoiceFault E → Type 0
IsRefusal answer table target full required fault =
    IsAsked answer table full required fault
    ⊎ ((first : List Pair) × ((second : List Pair) × (fault ≡ Unstable target first second) × IsUnstable answer table full required first second))

-- this holds of a fault, unless it is one of the host or out of memory
abbrev pub HoldsOf : {E : Type 0} → (E → Bool) → (E → Bool) → (ChoiceFault E → Type 0) → ChoiceFault E → Type 0
HoldsOf is_host is_out Holds fault = is_eval is_host fault ≡ false → is_memory is_out fault ≡ false → Holds fault
