-- What parts answer that evaluate nothing does what is defined.
use Rattle.std.proofs.Common.{◌≡◌, ◌⊎◌, inl, inr, ℕ, List, [], ◌∷◌, ◌++◌, Option, Some, None, Result, Ok, Err, refl, sym, ap, subst}
use Rattle.b2_base.specs.declared.expand_fault.ExpandFault.{ExpandFault}
use Rattle.b2_base.specs.declared.expand_fault.ExpandFault.TheVariants as expansions
use Rattle.b2_base.specs.Results.{and_then}
use Rattle.jam_expand.specs.Limits.{within}
use Rattle.jam_expand.proofs.ListsGrowTextByText.{fault_stays}
use Rattle.jam_journal.specs.Tables.{Text}
use Rattle.jam_journal.specs.Scopes.{Value}
use Rattle.jam_meaning.specs.Faults.{Spot, expand}
use Rattle.jam_meaning.specs.States.{State}
use Rattle.jam_meaning.specs.Outcomes.{Outcome, gives, fault_at, then_do, expanded}
use Rattle.jam_meaning.specs.Levels.{Levels}
use Rattle.jam_meaning.specs.Args.{call, call_head}
use Rattle.jam_effects.specs.declared.fault.EvalFault.{EvalFault}
use Rattle.jam_effects.specs.Answers.{IsAnswered, IsExpandFault, named}
use Rattle.jam_effects.specs.Machines.{Machine, state_of}
use Rattle.jam_effects.specs.Does.{Does}
use Rattle.jam_effects.proofs.OrderedCallsDoAsDefined.{value_now, fault_now, out_of_memory}
use Rattle.jam_effects.proofs.WhatEachKeepsAllKeep.{stays_same}

-- an answer as an outcome
abbrev pub answer_at : {R B : Type 0} → Result B ExpandFault → Spot → State R → Outcome R B
answer_at (Ok v) spot s = gives v s
answer_at (Err f) spot s = fault_at spot (expand f) s

-- the fault that stands for one of an answer
pub answered_err : {A B : Type 0} (view : A → B) (answer : Result B ExpandFault) (f : ExpandFault) (spot : Spot) (e : EvalFault) → (f ≡ expansions.OutOfMemory) ⊎ (answer ≡ Err f) → IsExpandFault f spot e → IsAnswered view answer spot (Err e)
answered_err view answer f spot e (inl memory) (made, same) = inl (same memory)
answered_err view answer f spot e (inr is) (inl memory, same) = inl memory
answered_err view answer f spot e (inr is) (inr at, same) = inr (f, is, at)

-- a list that is too large stays so with texts after it
pub answered_more : {A B : Type 0} (view : A → Value) (other : B → Value) (first second : Value) (spot : Spot) (e : EvalFault) → IsAnswered view (within first) spot (Err e) → IsAnswered other (within (first ++ second)) spot (Err e)
answered_more view other first second spot e (inl memory) = inl memory
answered_more view other first second spot e (inr (f, is, at)) = inr (f, fault_stays first second f is, at)

module _ {R : Type 0} where
  pub answered : {A B : Type 0} (view : A → B) (answer : Result B ExpandFault) (spot : Spot) (m : Machine R) (result : Result A EvalFault) → IsAnswered view answer spot result → Does view (λ setting s. answer_at answer spot s) m m result
  answered view answer spot m (Ok v) h = value_now view (λ setting s. answer_at answer spot s) m v (λ setting is. ap (λ a. answer_at a spot (state_of m)) h)
  answered view answer spot m (Err e) (inl memory) =
      subst (λ x. Does view (λ setting s. answer_at answer spot s) m m (Err x)) (sym memory) (out_of_memory view (λ setting s. answer_at answer spot s) m m (stays_same m))
  answered view answer spot m (Err e) (inr (f, is, at)) =
      fault_now view (λ setting s. answer_at answer spot s) m spot (expand f) e at refl (λ setting right. ap (λ a. answer_at a spot (state_of m)) is)

  pub expanded_is : (answer : Result Value ExpandFault) (spot : Spot) (s : State R) → expanded answer spot s ≡ answer_at answer spot s
  expanded_is (Ok v) spot s = refl
  expanded_is (Err f) spot s = refl

  -- the call of the first of some names
  abbrev pub called_or : ℕ → Levels R → Option (Text × List Value) → Spot → State R → Outcome R Value
  called_or budget deep None spot s = gives [] s
  called_or budget deep (Some c) spot s = call budget deep c.0 c.1 spot s

  pub head_is : (budget : ℕ) (deep : Levels R) (names : Value) (given : List Value) (spot : Spot) (s : State R)
      → call_head budget deep names given spot s ≡ then_do (answer_at (named names given) spot s) (λ c. λ s₁. called_or budget deep c spot s₁)
  head_is budget deep [] given spot s = refl
  head_is budget deep (name ∷ more) [] spot s = refl
  head_is budget deep (name ∷ more) (first ∷ rest) spot s = go (within (more ++ first))
    where
      go : (list : Result Value ExpandFault)
          → then_do (expanded list spot s) (λ v. λ s₁. call budget deep name (v ∷ rest) spot s₁)
          ≡ then_do (answer_at (and_then (λ v. Ok (Some (name, v ∷ rest))) list) spot s) (λ c. λ s₁. called_or budget deep c spot s₁)
      go (Ok v) = refl
      go (Err f) = refl
