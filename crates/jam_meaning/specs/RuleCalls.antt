-- What a call does, once its turn is taken and its level is open.
use Rattle.std.specs.Prelude.{ℕ, Bool, true, false, List, [], ◌∷◌, Option, Some, None}
use Rattle.jam_journal.specs.Tables.{Text, Key}
use Rattle.jam_journal.specs.Scopes.{Value, Binding, bind_each, enter_call}
use Rattle.jam_meaning.specs.declared.native_answer.NativeStep.{NativeStep}
use Rattle.jam_meaning.specs.declared.native_answer.NativeStep.TheVariants as steps
use Rattle.jam_meaning.specs.Faults.{Spot, Cause, unknown_rule, arity, exit, native}
use Rattle.jam_scope.specs.Rules.{Rule}
use Rattle.jam_scope.specs.Worlds.{Worlds}
use Rattle.jam_scope.specs.Lines.{find_rule, actions_place}
use Rattle.jam_meaning.specs.States.{State, with_scopes}
use Rattle.jam_meaning.specs.Refused.{refused_here}
use Rattle.jam_meaning.specs.Settings.{NativeCause, of_native, of_arity, Told, answers, refuses, Setting}
use Rattle.jam_meaning.specs.Outcomes.{Outcome, gives, faults, Flow, goes_on, returns, then_do, fault_at, either, joined, close_frame}
use Rattle.jam_meaning.specs.Levels.{Levels}
use Rattle.jam_meaning.specs.Params.{call_binds}
use Rattle.jam_meaning.specs.Conds.{is_true}

abbrev pub cause_of : Text → NativeCause → Cause
cause_of name (of_native fault) = native fault
cause_of name of_arity = arity name

abbrev pub kept_if : Bool → Text → Value → Value
kept_if true item items = item ∷ items
kept_if false item items = items

module _ {R : Type 0} where
  -- the worlds and what the natives keep, as they tell it
  abbrev pub as_told : Worlds → R → State R → State R
  as_told worlds kept s = record s { worlds = worlds; kept = kept }

  -- a rule whose statements end without `return` has the empty list as its value
  abbrev pub value_of : Outcome R Flow → Outcome R Value
  value_of (gives goes_on s) = gives [] s
  value_of (gives (returns value) s) = gives value s
  value_of (faults fault s) = faults fault s

module _ {R : Type 0} (setting : Setting R) where
  -- what natives answer to a call, and to the telling of a call of a name that has actions
  abbrev pub native_answer : Text → List Value → ℕ → State R → Told NativeStep R
  native_answer name given line s = setting.natives.call name given line setting.sight (refused_here setting.refused s.left) s.worlds s.kept

  abbrev pub acted_answer : Text → List Value → ℕ → State R → Told Bool R
  acted_answer name given line s = setting.natives.acted name given line s.worlds s.kept

module _ {R : Type 0} (setting : Setting R) (deep : Levels R) (body : Rule → State R → Outcome R Flow) where
  -- the values of calls of a rule, one for each item, joined
  abbrev pub transformed : Value → Value → Value → Spot → State R → Outcome R Value
  transformed rule found [] spot s = gives found s
  transformed rule found (item ∷ items) spot s =
      then_do (deep.bracket_call rule (item ∷ []) spot s) (λ value. λ s₁. then_do (joined found value spot s₁) (λ more. λ s₂. transformed rule more items spot s₂))

  -- the items for which the call's value is true
  abbrev pub filtered : Value → Value → Spot → State R → Outcome R Value
  filtered rule [] spot s = gives [] s
  filtered rule (item ∷ items) spot s =
      then_do (deep.bracket_call rule (item ∷ []) spot s) (λ value. λ s₁. then_do (filtered rule items spot s₁) (λ more. λ s₂. gives (kept_if (is_true value) item more) s₂))

  -- what a native rule's step asks for is done
  abbrev pub stepped : Text → Spot → NativeStep → State R → Outcome R Value
  stepped name spot steps.Unknown s = fault_at spot (unknown_rule name) s
  stepped name spot (steps.Value value) s = gives value s
  stepped name spot (steps.Exit text) s = fault_at spot (exit text) s
  stepped name spot (steps.Each rule items filter) s = either filter (λ s₁. filtered rule items spot s₁) (λ s₁. transformed rule [] items spot s₁) s

  -- the step that natives tell is done, or their fault is the call's
  abbrev pub told : Text → Spot → State R → Told NativeStep R → Outcome R Value
  told name spot s (answers step worlds kept) = stepped name spot step (as_told worlds kept s)
  told name spot s (refuses cause worlds kept) = fault_at spot (cause_of name cause) (as_told worlds kept s)

  -- a native rule of this name, or none
  abbrev pub native_call : Text → List Value → Spot → State R → Outcome R Value
  native_call name given spot s = told name spot s (native_answer setting name given spot.line s)

  -- what natives recorded is so; where they recorded nothing, nothing has changed
  abbrev pub recorded : Text → Spot → State R → Told Bool R → (Bool → State R → Outcome R Value) → Outcome R Value
  recorded name spot s (answers true worlds kept) next = next true (as_told worlds kept s)
  recorded name spot s (answers false worlds kept) next = next false s
  recorded name spot s (refuses cause worlds kept) next = fault_at spot (cause_of name cause) (as_told worlds kept s)

  -- a call of a name that has actions is told to the natives; whether they recorded it
  abbrev pub acted_at : Option Key → Text → List Value → Spot → State R → (Bool → State R → Outcome R Value) → Outcome R Value
  acted_at None name given spot s next = next false s
  acted_at (Some at) name given spot s next = recorded name spot s (acted_answer setting name given spot.line s) next

  abbrev pub acted : Text → List Value → Spot → State R → (Bool → State R → Outcome R Value) → Outcome R Value
  acted name given spot s next = acted_at (actions_place name s.worlds.now) name given spot s next

  -- The rule runs in its home, in a frame that keeps the module of the call, with the argument lists and the parameters bound.
  abbrev pub bound_call : Rule → Text → Option (List Binding) → Spot → State R → Outcome R Value
  bound_call rule name None spot s = fault_at spot (arity name) s
  bound_call rule name (Some bindings) spot s =
      value_of (close_frame (body rule (with_scopes (bind_each bindings) (with_scopes (enter_call rule.home) s))))

  -- A rule, and after it the actions of its name; without a rule the actions, whose value is empty, or else the native rule.
  abbrev pub called : Option Rule → Text → List Value → Spot → State R → Outcome R Value
  called (Some rule) name given spot s =
      then_do (bound_call rule name (call_binds rule.params given) spot s) (λ value. λ s₁. acted name given spot s₁ (λ noted. λ s₂. gives value s₂))
  called None name given spot s =
      acted name given spot s (λ noted. λ s₁. either noted (λ s₂. gives [] s₂) (λ s₂. native_call name given spot s₂) s₁)

  abbrev pub applied : Text → List Value → Spot → State R → Outcome R Value
  applied name given spot s = called (find_rule name s.worlds.now) name given spot s
