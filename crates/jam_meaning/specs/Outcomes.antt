-- What evaluation gives, and how one follows another.
use Rattle.std.specs.Prelude.{ℕ, zero, suc, Bool, true, false, List, [], ◌∷◌, ◌++◌, Result, Ok, Err}
use Rattle.b2_base.specs.declared.expand_fault.ExpandFault.{ExpandFault}
use Rattle.jam_expand.specs.Limits.{within}
use Rattle.jam_journal.specs.Tables.{Text}
use Rattle.jam_journal.specs.Scopes.{Value, Binding, enter, bind_each}
use Rattle.jam_meaning.specs.Faults.{Spot, Cause, turns, expand, Fault}
use Rattle.jam_scope.specs.Changes.{module_in, own_of}
use Rattle.jam_meaning.specs.States.{State, with_scopes, after_frame}

-- a value, or a fault, each with the state that is left
pub data Outcome (R A : Type 0) : Type 0 where
  gives : A → State R → Outcome R A
  faults : Fault → State R → Outcome R A

-- how a statement ends: the next one follows, or the rule or file ends with a value
pub data Flow : Type 0 where
  goes_on : Flow
  returns : Value → Flow

module _ {R : Type 0} where
  abbrev pub then_do : {A B : Type 0} → Outcome R A → (A → State R → Outcome R B) → Outcome R B
  then_do (gives a s) next = next a s
  then_do (faults fault s) next = faults fault s

  -- what follows a statement, unless it ended the rule or file
  abbrev pub then_go : Outcome R Flow → (State R → Outcome R Flow) → Outcome R Flow
  then_go (gives goes_on s) next = next s
  then_go (gives (returns value) s) next = gives (returns value) s
  then_go (faults fault s) next = faults fault s

  abbrev pub fault_at : {A : Type 0} → Spot → Cause → State R → Outcome R A
  fault_at spot cause s = faults (record { spot = spot; cause = cause }) s

  -- one of two, by a condition
  abbrev pub either : {A : Type 0} → Bool → (State R → Outcome R A) → (State R → Outcome R A) → State R → Outcome R A
  either true first second s = first s
  either false first second s = second s

  -- a turn is taken, or there is none left
  abbrev pub by_turns : {A : Type 0} → ℕ → ℕ → Spot → State R → (State R → Outcome R A) → Outcome R A
  by_turns zero budget spot s next = fault_at spot (turns budget) s
  by_turns (suc left) budget spot s next = next (record s { left = left })

  abbrev pub take_turn : {A : Type 0} → ℕ → Spot → State R → (State R → Outcome R A) → Outcome R A
  take_turn budget spot s next = by_turns s.left budget spot s next

  -- an expansion's elements, or its fault
  abbrev pub expanded : Result Value ExpandFault → Spot → State R → Outcome R Value
  expanded (Ok value) spot s = gives value s
  expanded (Err fault) spot s = fault_at spot (expand fault) s

  -- a list with texts after it, unless it is too large then
  abbrev pub joined : Value → Value → Spot → State R → Outcome R Value
  joined found value spot s = expanded (within (found ++ value)) spot s

  -- the newest frame is closed, also after a fault
  abbrev pub close_frame : {A : Type 0} → Outcome R A → Outcome R A
  close_frame (gives a s) = gives a (after_frame s)
  close_frame (faults fault s) = faults fault (after_frame s)

  -- in a new frame of a module
  abbrev pub in_module : {A : Type 0} → Text → (State R → Outcome R A) → State R → Outcome R A
  in_module owner act s = close_frame (act (with_scopes (enter owner) s))

  -- in a new frame of the present module
  abbrev pub in_frame : {A : Type 0} → (State R → Outcome R A) → State R → Outcome R A
  in_frame act s = in_module (module_in s.worlds.now) act s

  -- what is bound where the target is the first of these texts
  abbrev pub own_bindings : Value → State R → List Binding
  own_bindings [] s = []
  own_bindings (target ∷ more) s = own_of target s.worlds.now

  -- in a new frame of the present module with the target's own values as bindings
  abbrev pub on_target : {A : Type 0} → Value → (State R → Outcome R A) → State R → Outcome R A
  on_target targets act s = in_frame (λ later. act (with_scopes (bind_each (own_bindings targets s)) later)) s
