-- What the functions promise that ask rules of indirect requirements.
use Rattle.std.specs.Prelude.{◌≡◌, ℕ, Bool, true, List, Option, Some, Result, Ok, Err, IfOk, IfErr}
use Rattle.b2_props.specs.Sets.{Pair, IsSet}
use Rattle.b2_props.specs.declared.requirement.Requirement.{Requirement}
use Rattle.b2_refine.specs.Conditions.{IsSettled}
use Rattle.b2_declared.specs.declared.place.Target.{Target}
use Rattle.b2_declared.specs.declared.whole.Declared.{Declared}
use Rattle.b2_references.specs.Names.{Name, features, is_target, target_text}
use Rattle.b2_evaluator.specs.Answers.{Answers}
use Rattle.b2_evaluator.specs.declared.evaluate.Evaluate.{Ghosts as Evaluate}
use Rattle.b2_alternatives.specs.Choosing.{answer, requirements, Chooses}
use Rattle.b2_alternatives.specs.IndirectRules.{HoldsOf, IsRefusal, Leaves}
use Rattle.b2_alternatives.specs.Picking.{seen}
use Rattle.b2_alternatives.specs.declared.asker.Asker.{Asker}
use Rattle.b2_alternatives.specs.declared.fault.ChoiceFault.{ChoiceFault}
use Rattle.b2_alternatives.specs.declared.choosing.ChosenAlternative.{ChosenAlternative}

-- what is chosen for a main target: its set is one of the table, and there is such a main target
pub record IsGood (d : Declared) (name : Name) (c : ChosenAlternative) : Type 0 where
  pub is_set : IsSet (features d) c.set
  pub target : is_target d name ≡ true

module _ {S E K : Type 0} (answers : S → Option (Answers E)) (kept : S → K) (faults : S → ℕ) (is_host is_out : E → Bool) (CanFault : K → E → Type 0) where
  -- Where the evaluation tells its answers, this holds of what a call answers, and this of its fault, unless it is one of the
  -- host or out of memory; over every evaluation, what it answers is good, and the call leaves what is told and kept.
  pub record Tells {T : Type 0} (Holds : Answers E → T → Type 0) (Refuses : Answers E → ChoiceFault E → Type 0) (Good : T → Type 0) (d after : Declared) (old new : S) (result : Result T (ChoiceFault E)) : Type 0 where
    pub holds : (told : Answers E) → answers old ≡ Some told → IfOk result (Holds told)
    pub refuses : (told : Answers E) → answers old ≡ Some told → IfErr result (HoldsOf is_host is_out (Refuses told))
    pub good : IfOk result Good
    pub leaves : Leaves answers kept faults is_host is_out CanFault old new result
    pub project : after ≡ d

  -- what requirements make of a full set, for a main target
  abbrev pub IsSettling : Declared → Declared → S → S → Name → List Pair → List Requirement → Result (List Pair) (ChoiceFault E) → Type 0
  IsSettling d after old new name full required result =
      Tells (λ told set. IsSettled (answer d told.returned name) (features d) full required set)
      (λ told fault. IsRefusal (answer d told.returned name) (features d) (target_text d name) full required fault)
      (IsSet (features d)) d after old new result

  -- what is chosen for a main target and a set
  abbrev pub IsChoosing : Declared → Declared → S → S → Name → List Pair → Result ChosenAlternative (ChoiceFault E) → Type 0
  IsChoosing d after old new name set result =
      Tells (λ told c. Chooses d told.returned name set (Ok (seen name c))) (λ told fault. Chooses d told.returned name set (Err fault)) (IsGood d name) d after old new result

-- ---- the same of an asker before and after a call

module _ {S E : Type 0} (e : Evaluate S E) where
  -- what requirements make of a full set, for a main target
  abbrev pub Settles : Asker S → Asker S → Name → List Pair → List Requirement → Result (List Pair) (ChoiceFault E) → Type 0
  Settles old new name full required result =
      IsSettling e.answers e.kept e.faults e.is_host_fault e.is_out_of_memory e.CanFault old.index.now new.index.now old.evaluator new.evaluator name full required result

  -- what the requirements of an alternative make of it
  abbrev pub SettlesFor : Asker S → Asker S → Name → List Pair → Target → Result (List Pair) (ChoiceFault E) → Type 0
  SettlesFor old new name full target result = Settles old new name full (requirements old.index.now target) result

  -- what is chosen for a main target and a set
  abbrev pub ChoosesBy : Asker S → Asker S → Name → List Pair → Result ChosenAlternative (ChoiceFault E) → Type 0
  ChoosesBy old new name set result =
      IsChoosing e.answers e.kept e.faults e.is_host_fault e.is_out_of_memory e.CanFault old.index.now new.index.now old.evaluator new.evaluator name set result

  -- nothing is chosen, for the reason that is answered, unless that is the host or memory
  abbrev pub RefusesBy : {T : Type 0} → Asker S → Answers E → Name → List Pair → Result T (ChoiceFault E) → Type 0
  RefusesBy asker told name set result =
      IfErr result (HoldsOf e.is_host_fault e.is_out_of_memory (λ fault. Chooses asker.index.now told.returned name set (Err fault)))

-- what is answered is chosen
abbrev pub GivesBy : {S E F : Type 0} → Asker S → Answers E → Name → List Pair → Result ChosenAlternative F → Type 0
GivesBy asker told name set result = IfOk result (λ c. Chooses asker.index.now told.returned name set (Ok (seen name c)))
