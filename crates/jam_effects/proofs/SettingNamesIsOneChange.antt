-- Setting names, one after the other, is one change of the worlds or its fault: for assignments and own values.
use Rattle.std.proofs.Common.{◌≡◌, ◌⊎◌, inl, inr, Bool, true, false, [], ◌∷◌, ◌++◌, cond, Result, Ok, Err, refl, ap, ◌∙◌}
use Rattle.std.specs.Option.{unwrap_or}
use Rattle.std.specs.FinMap as map
use Rattle.b2_base.specs.declared.expand_fault.ExpandFault.{ExpandFault}
use Rattle.b2_base.specs.declared.expand_fault.ExpandFault.TheVariants as expansions
use Rattle.jam_expand.specs.Limits.{within}
use Rattle.jam_grammar.specs.declared.tree.Sign.{Sign}
use Rattle.jam_grammar.specs.declared.tree.Sign.TheVariants as signs
use Rattle.jam_journal.specs.Tables.{Text}
use Rattle.jam_journal.specs.Scopes.{Value, assign, assigned}
use Rattle.jam_scope.specs.Worlds.{Worlds}
use Rattle.jam_scope.specs.Changes.{changed, rescoped, set_on}
use Rattle.jam_meaning.specs.Faults.{Spot, expand}
use Rattle.jam_meaning.specs.States.{State}
use Rattle.jam_meaning.specs.Outcomes.{Outcome, Flow, fault_at, then_do, then_go, either, expanded}
use Rattle.jam_meaning.specs.Forms.{done, for_all, set_name, set_own, own_value, is_empty}
use Rattle.jam_effects.specs.declared.fault.EvalFault.{EvalFault}
use Rattle.jam_effects.specs.Answers.{IsExpandFault}
use Rattle.jam_effects.specs.Naming.{IsRefused, Change, made, refused, and_next, for_each, put_within, set_name_in, set_names_in, set_own_in, set_all_own_in}

-- what is added is too large
pub add_refused : (name : Text) (value : Value) (ws : Worlds) (f : ExpandFault) (spot : Spot) (e : EvalFault) → (f ≡ expansions.OutOfMemory) ⊎ (within (unwrap_or (assigned ws.now.scopes name) [] ++ value) ≡ Err f) → IsExpandFault f spot e
    → IsRefused (set_name_in signs.Add value name ws) spot e ws
add_refused name value ws f spot e (inl memory) (made_, same) = inl (same memory)
add_refused name value ws f spot e (inr is) (inl memory, same) = inl memory
add_refused name value ws f spot e (inr is) (inr at, same) = inr (f, ap (λ a. put_within a (λ v. rescoped (assign name v)) ws) is, at)

pub add_made : (name : Text) (value : Value) (ws : Worlds) → within (unwrap_or (assigned ws.now.scopes name) [] ++ value) ≡ Ok (unwrap_or (assigned ws.now.scopes name) [] ++ value)
    → set_name_in signs.Add value name ws ≡ made (rescoped (assign name (unwrap_or (assigned ws.now.scopes name) [] ++ value)) ws)
add_made name value ws is = ap (λ a. put_within a (λ v. rescoped (assign name v)) ws) is

-- an own value with what is added is too large
pub own_too_large : (target name : Text) (value : Value) (ws : Worlds) (f : ExpandFault) (spot : Spot) (e : EvalFault) → (f ≡ expansions.OutOfMemory) ⊎ (within (unwrap_or (map.get ws.now.own (target, name)) [] ++ value) ≡ Err f) → IsExpandFault f spot e
    → IsRefused (set_own_in target signs.Add value name ws) spot e ws
own_too_large target name value ws f spot e (inl memory) (made_, same) = inl (same memory)
own_too_large target name value ws f spot e (inr is) (inl memory, same) = inl memory
own_too_large target name value ws f spot e (inr is) (inr at, same) = inr (f, ap (λ a. put_within a (λ v. changed (set_on target name v)) ws) is, at)

module _ {R : Type 0} where
  -- a change of the worlds as an outcome
  abbrev pub by_change : Change → Spot → State R → Outcome R Flow
  by_change (made ws) spot s = done (record s { worlds = ws })
  by_change (refused f ws) spot s = fault_at spot (expand f) (record s { worlds = ws })

  by_other : (c : Change) (spot : Spot) (s : State R) (ws : Worlds) → by_change c spot (record s { worlds = ws }) ≡ by_change c spot s
  by_other (made later) spot s ws = refl
  by_other (refused f later) spot s ws = refl

  -- what is done one after the other
  all_made : (spot : Spot) (act : Text → State R → Outcome R Flow) (change : Text → Worlds → Change) → ((text : Text) (s : State R) → act text s ≡ by_change (change text s.worlds) spot s)
      → (texts : Value) (s : State R) → for_all texts act s ≡ by_change (for_each texts change s.worlds) spot s
  all_made spot act change each [] s = refl
  all_made spot act change each (text ∷ texts) s = ap (λ o. then_go o (for_all texts act)) (each text s) ∙ go (λ s₁. all_made spot act change each texts s₁) (change text s.worlds)
    where
      go : ((s₁ : State R) → for_all texts act s₁ ≡ by_change (for_each texts change s₁.worlds) spot s₁) → (c : Change) → then_go (by_change c spot s) (for_all texts act) ≡ by_change (and_next c (for_each texts change)) spot s
      go rest (made ws) = rest (record s { worlds = ws }) ∙ by_other (for_each texts change ws) spot s ws
      go rest (refused f ws) = refl

  added : (answer : Result Value ExpandFault) (put : Value → Worlds → Worlds) (spot : Spot) (s : State R)
      → then_do (expanded answer spot s) (λ v. λ s₁. done (record s₁ { worlds = put v s₁.worlds })) ≡ by_change (put_within answer put s.worlds) spot s
  added (Ok v) put spot s = refl
  added (Err f) put spot s = refl

  filled : (b : Bool) (put : Worlds → Worlds) (spot : Spot) (s : State R)
      → either b (λ s₁. done (record s₁ { worlds = put s₁.worlds })) done s ≡ by_change (cond b (made (put s.worlds)) (made s.worlds)) spot s
  filled true put spot s = refl
  filled false put spot s = refl

  name_made : (how : Sign) (value : Value) (spot : Spot) (name : Text) (s : State R) → set_name how value spot name s ≡ by_change (set_name_in how value name s.worlds) spot s
  name_made signs.Set value spot name s = refl
  name_made signs.Add value spot name s = added (within (unwrap_or (assigned s.worlds.now.scopes name) [] ++ value)) (λ v. rescoped (assign name v)) spot s
  name_made signs.Fill value spot name s = filled (is_empty (unwrap_or (assigned s.worlds.now.scopes name) [])) (rescoped (assign name value)) spot s

  own_made : (how : Sign) (value : Value) (spot : Spot) (target name : Text) (s : State R) → set_own how value spot target name s ≡ by_change (set_own_in target how value name s.worlds) spot s
  own_made signs.Set value spot target name s = refl
  own_made signs.Add value spot target name s = added (within (own_value target name s ++ value)) (λ v. changed (set_on target name v)) spot s
  own_made signs.Fill value spot target name s = filled (is_empty (own_value target name s)) (changed (set_on target name value)) spot s

  pub names_made : (names : Value) (how : Sign) (value : Value) (spot : Spot) (s : State R) → for_all names (set_name how value spot) s ≡ by_change (set_names_in names how value s.worlds) spot s
  names_made names how value spot s = all_made spot (set_name how value spot) (set_name_in how value) (λ name s₁. name_made how value spot name s₁) names s

  pub all_own_made : (targets names : Value) (how : Sign) (value : Value) (spot : Spot) (s : State R)
      → for_all targets (λ t. λ s₁. for_all names (λ name. λ s₂. set_own how value spot t name s₂) s₁) s ≡ by_change (set_all_own_in targets names how value s.worlds) spot s
  all_own_made targets names how value spot s =
      all_made spot (λ t. λ s₁. for_all names (λ name. λ s₂. set_own how value spot t name s₂) s₁) (λ t. for_each names (set_own_in t how value))
      (λ t s₁. all_made spot (λ name. λ s₂. set_own how value spot t name s₂) (set_own_in t how value) (λ name s₂. own_made how value spot t name s₂) names s₁) targets s
