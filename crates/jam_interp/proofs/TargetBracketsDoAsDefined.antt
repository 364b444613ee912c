-- What stands in brackets after a target does, exit by exit; and calls that run out of memory.
use Rattle.std.proofs.Common.{◌≡◌, List, Result, Ok, Err, sym, ap, ◌∙◌, subst}
use Rattle.jam_grammar.specs.declared.tree.Arg.{Arg}
use Rattle.jam_grammar.specs.declared.tree.Inner.{Inner}
use Rattle.jam_grammar.specs.Trees.{inner_tree, args_tree}
use Rattle.jam_journal.specs.Scopes.{Value, leave}
use Rattle.jam_scope.specs.Worlds.{Worlds}
use Rattle.jam_scope.specs.Changes.{rescoped}
use Rattle.jam_meaning.specs.Outcomes.{on_target}
use Rattle.jam_effects.specs.declared.at.At.{At}
use Rattle.jam_effects.specs.declared.fault.EvalFault.{EvalFault}
use Rattle.jam_effects.specs.declared.fault.EvalFault.TheVariants as fault
use Rattle.jam_effects.specs.Spots.{spot_of}
use Rattle.jam_effects.specs.Framing.{on_entered}
use Rattle.jam_effects.specs.Machines.{Machine}
use Rattle.jam_effects.specs.Does.{Stays, Does, Leads}
use Rattle.jam_effects.specs.Views.{value, What}
use Rattle.jam_interp.specs.FunctionParts.{arg_at, args_at, inner_at, on_inner_at, on_return_at}
use Rattle.jam_meaning.proofs.RecordsOnlyGrow.{target_begins, inner_begins, args_begins}
use Rattle.jam_effects.proofs.WhatEachKeepsAllKeep.{stays_equal, stays_then}
use Rattle.jam_effects.proofs.OrderedCallsDoAsDefined.{err_then, ok_then, led, out_of_memory}
use Rattle.jam_interp.proofs.StatementsDoAsDefined.{on_target_does}

-- worlds that are made of equal texts
pub by_texts : (made : Value → Worlds → Worlds) (opened ws : Worlds) (texts targets : Value) → opened ≡ made texts ws → texts ≡ targets → opened ≡ made targets ws
by_texts made opened ws texts targets e same = e ∙ ap (λ ts. made ts ws) same

module _ {R : Type 0} where
  pub on_inner_fails : (target : Arg) (i : Inner) (at : At) (a b : Machine R) (e : EvalFault) → Does value (arg_at target at) a b (Err e) → Does value (on_inner_at target i at) a b (Err e)
  on_inner_fails target i at a b e h =
      err_then value value (arg_at target at) (λ setting ts s. on_target ts (inner_at i at setting) s) a b e
      (λ setting ts later. target_begins setting ts _ later (λ next. inner_begins setting at.levels (inner_tree i) (spot_of at) next)) h

  pub on_inner_does : (target : Arg) (i : Inner) (at : At) (k m : Machine R) (targets : Value) (opened : Worlds) (n : Machine R) (closed : Worlds) (result : Result Value EvalFault) → Does value (arg_at target at) k m (Ok targets)
      → opened ≡ on_entered targets m.worlds → Does value (inner_at i at) (record m { worlds = opened }) n result → closed ≡ rescoped leave n.worlds → Does value (on_inner_at target i at) k (record n { worlds = closed }) result
  on_inner_does target i at k m targets opened n closed result one is h e =
      led value (on_inner_at target i at) (λ setting s. on_target targets (inner_at i at setting) s) k m (record n { worlds = closed }) result
      (ok_then value (arg_at target at) (λ setting ts s. on_target ts (inner_at i at setting) s) k m targets one)
      (on_target_does value targets (inner_at i at) m opened n closed result is h e)

  pub on_return_fails : (target : Arg) (list : List Arg) (at : At) (a b : Machine R) (e : EvalFault) → Does value (arg_at target at) a b (Err e) → Does value (on_return_at target list at) a b (Err e)
  on_return_fails target list at a b e h =
      err_then value value (arg_at target at) (λ setting ts s. on_target ts (args_at list at setting) s) a b e
      (λ setting ts later. target_begins setting ts _ later (λ next. args_begins setting at.levels (args_tree list) (spot_of at) next)) h

  pub on_return_does : (target : Arg) (list : List Arg) (at : At) (k m : Machine R) (targets : Value) (opened : Worlds) (n : Machine R) (closed : Worlds) (result : Result Value EvalFault) → Does value (arg_at target at) k m (Ok targets)
      → opened ≡ on_entered targets m.worlds → Does value (args_at list at) (record m { worlds = opened }) n result → closed ≡ rescoped leave n.worlds → Does value (on_return_at target list at) k (record n { worlds = closed }) result
  on_return_does target list at k m targets opened n closed result one is h e =
      led value (on_return_at target list at) (λ setting s. on_target targets (args_at list at setting) s) k m (record n { worlds = closed }) result
      (ok_then value (arg_at target at) (λ setting ts s. on_target ts (args_at list at setting) s) k m targets one)
      (on_target_does value targets (args_at list at) m opened n closed result is h e)

  -- memory ran out
  pub memory_in : {A B : Type 0} (view : A → B) (what : What R B) (a b : Machine R) (e : EvalFault) → Stays a b → e ≡ fault.OutOfMemory → Does view what a b (Err e)
  memory_in view what a b e stays is = subst (λ f. Does view what a b (Err f)) (sym is) (out_of_memory view what a b stays)

  -- memory ran out after some steps, in worlds that are as before
  pub memory_after : {A B X Y : Type 0} (view : A → B) (other : X → Y) (what : What R B) (first : What R Y) (a b : Machine R) (worlds : Worlds) (x : X) (e : EvalFault)
      → Does other first a b (Ok x) → worlds ≡ b.worlds → e ≡ fault.OutOfMemory → Does view what a (record b { worlds = worlds }) (Err e)
  memory_after view other what first a b worlds x e h same is =
      subst (λ f. Does view what a (record b { worlds = worlds }) (Err f)) (sym is)
      (out_of_memory view what a (record b { worlds = worlds }) (stays_then a b (record b { worlds = worlds }) h.stays (stays_equal b worlds same)))

  pub memory_here : {A B : Type 0} (view : A → B) (what : What R B) (m : Machine R) (worlds : Worlds) (e : EvalFault) → worlds ≡ m.worlds → e ≡ fault.OutOfMemory → Does view what m (record m { worlds = worlds }) (Err e)
  memory_here view what m worlds e same is =
      subst (λ f. Does view what m (record m { worlds = worlds }) (Err f)) (sym is) (out_of_memory view what m (record m { worlds = worlds }) (stays_equal m worlds same))

  pub memory_led : {A B : Type 0} (view : A → B) (what rest : What R B) (a b : Machine R) (worlds : Worlds) (e : EvalFault) → Leads what rest a b → worlds ≡ b.worlds → e ≡ fault.OutOfMemory → Does view what a (record b { worlds = worlds }) (Err e)
  memory_led view what rest a b worlds e leads same is =
      subst (λ f. Does view what a (record b { worlds = worlds }) (Err f)) (sym is)
      (out_of_memory view what a (record b { worlds = worlds }) (stays_then a b (record b { worlds = worlds }) leads.stays (stays_equal b worlds same)))
