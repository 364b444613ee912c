-- What the functions on statements with frames of their own do, exit by exit.
use Rattle.std.proofs.Common.{◌≡◌, ◌+◌, ℕ, suc, Bool, true, false, List, [], ◌∷◌, Option, Result, Ok, Err, refl, sym, ap, subst}
use Rattle.std.specs.declared.vec.Vec.{Vec}
use Rattle.std.specs.declared.alloc.Global.{Global}
use Rattle.b2_base.specs.Lists.{first_of}
use Rattle.jam_grammar.specs.declared.tree.Sign.{Sign}
use Rattle.jam_grammar.specs.declared.tree.Arg.{Arg}
use Rattle.jam_grammar.specs.declared.tree.Expr.{Expr}
use Rattle.jam_grammar.specs.declared.tree.Block.{Block}
use Rattle.jam_grammar.specs.declared.tree.Stmt.{Stmt, out-Stmt}
use Rattle.jam_grammar.specs.Trees.{args_tree, block_tree, expr_tree, form_tree, value_tree}
use Rattle.jam_journal.specs.Tables.{Text}
use Rattle.jam_journal.specs.Scopes.{Value, enter, leave, bind_each}
use Rattle.jam_scope.specs.Worlds.{Worlds}
use Rattle.jam_scope.specs.Changes.{rescoped, module_in}
use Rattle.jam_meaning.specs.Faults.{turns}
use Rattle.jam_meaning.specs.States.{State, with_scopes}
use Rattle.jam_meaning.specs.Settings.{Setting}
use Rattle.jam_meaning.specs.Outcomes.{gives, Flow, goes_on, then_do, then_go, either, take_turn, in_module, close_frame, on_target}
use Rattle.jam_meaning.specs.Includes.{included}
use Rattle.jam_meaning.specs.Forms.{done, bind_names, local_value, for_loop, for_all, set_own}
use Rattle.jam_effects.specs.declared.at.At.{At}
use Rattle.jam_effects.specs.declared.flow.Flow.{Flow as Way}
use Rattle.jam_effects.specs.declared.flow.Flow.TheVariants as ways
use Rattle.jam_effects.specs.declared.fault.EvalFault.{EvalFault}
use Rattle.jam_effects.specs.declared.fault.EvalFault.TheVariants as fault
use Rattle.jam_effects.specs.Causes.{IsFault}
use Rattle.jam_effects.specs.Spots.{spot_of}
use Rattle.jam_effects.specs.Framing.{loop_entered, on_entered}
use Rattle.jam_effects.specs.Naming.{set_all_own_in, IsRefused, IsMade, SameFrames}
use Rattle.jam_effects.specs.Machines.{Machine, state_of}
use Rattle.jam_effects.specs.Does.{Does, Leads}
use Rattle.jam_effects.specs.Views.{value, truth, flow_of, What}
use Rattle.jam_interp.specs.FunctionParts.{deep, args_at, arg_at, expr_at, block_at, deeper_at, started_at, local_at, local_value_at, assign_on_at, include_at, included_at, module_at, on_at, for_at, rounds_at, while_at, while_rest}
use Rattle.jam_meaning.specs.Kept.{Begins}
use Rattle.jam_meaning.proofs.RecordsOnlyGrow.{then_begins, same_begins, go_begins, either_begins, turn_begins, module_begins, target_begins, args_begins, local_begins, for_all_begins, set_own_begins, included_begins, level_begins, started_begins, loop_begins, while_begins, expr_begins, block_begins}
use Rattle.jam_effects.proofs.WhatEachKeepsAllKeep.{stays_then}
use Rattle.jam_effects.proofs.OrderedCallsDoAsDefined.{err_then, ok_then, err_go, ok_go, ended_go, led, leads_then, leads_same, value_now, out_of_memory}
use Rattle.jam_effects.proofs.FramesCloseEvenAfterFaults.{in_frame_does, bound_does}
use Rattle.jam_interp.proofs.ChangesDoAsDefined.{puts, stays_worlds, change_fails, change_does}
use Rattle.jam_effects.proofs.SettingNamesIsOneChange.{all_own_made}
use Rattle.jam_effects.proofs.OneTurnLessOrFault.{turn_leads, turn_faults, turned}
use Rattle.jam_interp.proofs.ArgumentsDoAsDefined.{does_by}
use Rattle.jam_interp.proofs.StatementsDoAsDefined.{on_target_does, rounds_begin}

module _ {R : Type 0} where
  -- ---- names that are bound

  abbrev pub binds : Value → Value → What R Flow
  binds ns v = λ setting s. done (with_scopes (bind_names ns v) s)

  abbrev pub bound_with : Value → Option (Vec Arg Global) → At → What R Flow
  bound_with ns list at = λ setting s. then_do (local_value setting (deep at setting) (value_tree list) (spot_of at) s) (λ v. λ s₁. binds ns v setting s₁)

  bound_begins : (ns : Value) (list : Option (Vec Arg Global)) (at : At) (setting : Setting R) (s : State R) → Begins setting s (bound_with ns list at setting s)
  bound_begins ns list at setting s = then_begins setting _ _ s (local_begins setting at.levels (value_tree list) (spot_of at) s) (λ v later. same_begins setting goes_on later)

  pub local_names_fail : (names : List Arg) (list : Option (Vec Arg Global)) (at : At) (a b : Machine R) (e : EvalFault) → Does value (args_at names at) a b (Err e) → Does flow_of (local_at names list at) a b (Err e)
  local_names_fail names list at a b e h =
      err_then value flow_of (args_at names at) (λ setting ns s. bound_with ns list at setting s) a b e (λ setting ns later. bound_begins ns list at setting later) h

  local_named : (names : List Arg) (list : Option (Vec Arg Global)) (at : At) (a b : Machine R) (ns : Value) → Does value (args_at names at) a b (Ok ns) → Leads (local_at names list at) (bound_with ns list at) a b
  local_named names list at a b ns h = ok_then value (args_at names at) (λ setting us s. bound_with us list at setting s) a b ns h

  pub local_value_fails : (names : List Arg) (list : Option (Vec Arg Global)) (at : At) (a b c : Machine R) (ns : Value) (e : EvalFault) → Does value (args_at names at) a b (Ok ns) → Does value (local_value_at list at) b c (Err e)
      → Does flow_of (local_at names list at) a c (Err e)
  local_value_fails names list at a b c ns e one two =
      led flow_of (local_at names list at) (bound_with ns list at) a b c (Err e) (local_named names list at a b ns one)
      (err_then value flow_of (local_value_at list at) (λ setting v s. binds ns v setting s) b c e (λ setting v later. same_begins setting goes_on later) two)

  pub local_valued : (names : List Arg) (list : Option (Vec Arg Global)) (at : At) (a b c : Machine R) (ns v : Value) → Does value (args_at names at) a b (Ok ns) → Does value (local_value_at list at) b c (Ok v) → Leads (local_at names list at) (binds ns v) a c
  local_valued names list at a b c ns v one two =
      leads_then (local_at names list at) (bound_with ns list at) (binds ns v) a b c (local_named names list at a b ns one)
      (ok_then value (local_value_at list at) (λ setting u s. binds ns u setting s) b c v two)

  -- memory ran out while names were bound
  pub local_bind_fails : (what : What R Flow) (ns v : Value) (a b : Machine R) (ws : Worlds) (e : EvalFault) → Leads what (binds ns v) a b → SameFrames b.worlds ws → e ≡ fault.OutOfMemory → Does flow_of what a (record b { worlds = ws }) (Err e)
  local_bind_fails what ns v a b ws e leads same is =
      subst (λ f. Does flow_of what a (record b { worlds = ws }) (Err f)) (sym is)
      (out_of_memory flow_of what a (record b { worlds = ws }) (stays_then a b (record b { worlds = ws }) leads.stays (stays_worlds b ws same)))

  pub local_ends : (what : What R Flow) (ns v : Value) (a b : Machine R) (ws : Worlds) → Leads what (binds ns v) a b → SameFrames b.worlds ws → ws ≡ rescoped (bind_names ns v) b.worlds → Does flow_of what a (record b { worlds = ws }) (Ok ways.GoesOn)
  local_ends what ns v a b ws leads same is =
      led flow_of what (binds ns v) a b (record b { worlds = ws }) (Ok ways.GoesOn) leads
      (puts flow_of (binds ns v) b ws ways.GoesOn same (λ setting right. ap (λ w. gives goes_on (state_of (record b { worlds = w }))) (sym is)))

  -- ---- own values that are set

  abbrev pub sets_own : Value → Value → Sign → Value → At → What R Flow
  sets_own targets names sign v at = λ setting s. for_all targets (λ t. λ s₁. for_all names (λ name. λ s₂. set_own sign v (spot_of at) t name s₂) s₁) s

  abbrev pub own_for : Value → Value → Sign → List Arg → At → What R Flow
  own_for targets names sign list at = λ setting s. then_do (args_at list at setting s) (λ v. λ s₁. sets_own targets names sign v at setting s₁)

  abbrev pub own_on : Value → List Arg → Sign → List Arg → At → What R Flow
  own_on names on sign list at = λ setting s. then_do (args_at on at setting s) (λ targets. λ s₁. own_for targets names sign list at setting s₁)

  sets_own_begin : (targets names : Value) (sign : Sign) (v : Value) (at : At) (setting : Setting R) (s : State R) → Begins setting s (sets_own targets names sign v at setting s)
  sets_own_begin targets names sign v at setting s =
      for_all_begins setting at.levels targets _ s (λ t later. for_all_begins setting at.levels names _ later (λ name last. set_own_begins setting at.levels sign v (spot_of at) t name last))

  own_for_begins : (targets names : Value) (sign : Sign) (list : List Arg) (at : At) (setting : Setting R) (s : State R) → Begins setting s (own_for targets names sign list at setting s)
  own_for_begins targets names sign list at setting s =
      then_begins setting _ _ s (args_begins setting at.levels (args_tree list) (spot_of at) s) (λ v later. sets_own_begin targets names sign v at setting later)

  own_on_begins : (names : Value) (on : List Arg) (sign : Sign) (list : List Arg) (at : At) (setting : Setting R) (s : State R) → Begins setting s (own_on names on sign list at setting s)
  own_on_begins names on sign list at setting s =
      then_begins setting _ _ s (args_begins setting at.levels (args_tree on) (spot_of at) s) (λ targets later. own_for_begins targets names sign list at setting later)

  pub own_names_fail : (target : Arg) (on : List Arg) (sign : Sign) (list : List Arg) (at : At) (a b : Machine R) (e : EvalFault) → Does value (arg_at target at) a b (Err e) → Does flow_of (assign_on_at target on sign list at) a b (Err e)
  own_names_fail target on sign list at a b e h =
      err_then value flow_of (arg_at target at) (λ setting names s. own_on names on sign list at setting s) a b e (λ setting names later. own_on_begins names on sign list at setting later) h

  pub own_named : (target : Arg) (on : List Arg) (sign : Sign) (list : List Arg) (at : At) (a b : Machine R) (names : Value) → Does value (arg_at target at) a b (Ok names) → Leads (assign_on_at target on sign list at) (own_on names on sign list at) a b
  own_named target on sign list at a b names h = ok_then value (arg_at target at) (λ setting ns s. own_on ns on sign list at setting s) a b names h

  pub own_targets_fail : (what : What R Flow) (names : Value) (on : List Arg) (sign : Sign) (list : List Arg) (at : At) (a b c : Machine R) (e : EvalFault) → Leads what (own_on names on sign list at) a b → Does value (args_at on at) b c (Err e) → Does flow_of what a c (Err e)
  own_targets_fail what names on sign list at a b c e leads h =
      led flow_of what (own_on names on sign list at) a b c (Err e) leads (err_then value flow_of (args_at on at) (λ setting targets s. own_for targets names sign list at setting s) b c e
      (λ setting targets later. own_for_begins targets names sign list at setting later) h)

  pub own_targeted : (what : What R Flow) (names : Value) (on : List Arg) (sign : Sign) (list : List Arg) (at : At) (a b c : Machine R) (targets : Value) → Leads what (own_on names on sign list at) a b → Does value (args_at on at) b c (Ok targets)
      → Leads what (own_for targets names sign list at) a c
  own_targeted what names on sign list at a b c targets leads h =
      leads_then what (own_on names on sign list at) (own_for targets names sign list at) a b c leads (ok_then value (args_at on at) (λ setting ts s. own_for ts names sign list at setting s) b c targets h)

  pub own_value_fails : (what : What R Flow) (targets names : Value) (sign : Sign) (list : List Arg) (at : At) (a b c : Machine R) (e : EvalFault) → Leads what (own_for targets names sign list at) a b → Does value (args_at list at) b c (Err e) → Does flow_of what a c (Err e)
  own_value_fails what targets names sign list at a b c e leads h =
      led flow_of what (own_for targets names sign list at) a b c (Err e) leads (err_then value flow_of (args_at list at) (λ setting v s. sets_own targets names sign v at setting s) b c e
      (λ setting v later. sets_own_begin targets names sign v at setting later) h)

  pub own_valued : (what : What R Flow) (targets names : Value) (sign : Sign) (list : List Arg) (at : At) (a b c : Machine R) (v : Value) → Leads what (own_for targets names sign list at) a b → Does value (args_at list at) b c (Ok v)
      → Leads what (sets_own targets names sign v at) a c
  own_valued what targets names sign list at a b c v leads h =
      leads_then what (own_for targets names sign list at) (sets_own targets names sign v at) a b c leads (ok_then value (args_at list at) (λ setting u s. sets_own targets names sign u at setting s) b c v h)

  -- what an own value is set to and on, after the names
  pub own_placed : (target : Arg) (on : List Arg) (sign : Sign) (list : List Arg) (at : At) (a b c : Machine R) (names targets : Value) → Does value (arg_at target at) a b (Ok names) → Does value (args_at on at) b c (Ok targets)
      → Leads (assign_on_at target on sign list at) (own_for targets names sign list at) a c
  own_placed target on sign list at a b c names targets one two =
      own_targeted (assign_on_at target on sign list at) names on sign list at a b c targets (own_named target on sign list at a b names one) two

  pub own_made : (target : Arg) (on : List Arg) (sign : Sign) (list : List Arg) (at : At) (a b c d : Machine R) (names targets v : Value) → Does value (arg_at target at) a b (Ok names) → Does value (args_at on at) b c (Ok targets)
      → Does value (args_at list at) c d (Ok v) → Leads (assign_on_at target on sign list at) (sets_own targets names sign v at) a d
  own_made target on sign list at a b c d names targets v one two three =
      own_valued (assign_on_at target on sign list at) targets names sign list at a c d v (own_placed target on sign list at a b c names targets one two) three

  pub own_refused : (what : What R Flow) (targets names : Value) (sign : Sign) (v : Value) (at : At) (a c : Machine R) (ws : Worlds) (e : EvalFault) → Leads what (sets_own targets names sign v at) a c → SameFrames c.worlds ws
      → IsRefused (set_all_own_in targets names sign v c.worlds) (spot_of at) e ws → Does flow_of what a (record c { worlds = ws }) (Err e)
  own_refused what targets names sign v at a c ws e leads same h =
      led flow_of what (sets_own targets names sign v at) a c (record c { worlds = ws }) (Err e) leads
      (change_fails (sets_own targets names sign v at) (set_all_own_in targets names sign v c.worlds) (spot_of at) c ws e same h (λ setting. all_own_made targets names sign v (spot_of at) (state_of c)))

  pub own_ends : {U : Type 0} (what : What R Flow) (targets names : Value) (sign : Sign) (v : Value) (at : At) (a c : Machine R) (ws : Worlds) (u : U) → Leads what (sets_own targets names sign v at) a c → SameFrames c.worlds ws
      → IsMade (set_all_own_in targets names sign v c.worlds) (spot_of at) (Ok u) ws → Does flow_of what a (record c { worlds = ws }) (Ok ways.GoesOn)
  own_ends what targets names sign v at a c ws u leads same h =
      led flow_of what (sets_own targets names sign v at) a c (record c { worlds = ws }) (Ok ways.GoesOn) leads
      (change_does (sets_own targets names sign v at) (set_all_own_in targets names sign v c.worlds) (spot_of at) c ws u same h (λ setting. all_own_made targets names sign v (spot_of at) (state_of c)))

  -- ---- includes

  pub include_fails : (names : List Arg) (at : At) (a b : Machine R) (e : EvalFault) → Does value (args_at names at) a b (Err e) → Does flow_of (include_at names at) a b (Err e)
  include_fails names at a b e h =
      err_then value flow_of (args_at names at) (λ setting ns s. included setting (deep at setting) ns (spot_of at) s) a b e
      (λ setting ns later. included_begins setting at.levels ns (spot_of at) later) h

  include_leads : (names : List Arg) (at : At) (a b : Machine R) (ns : Value) → Does value (args_at names at) a b (Ok ns) → Leads (include_at names at) (λ setting s. included setting (deep at setting) ns (spot_of at) s) a b
  include_leads names at a b ns h = ok_then value (args_at names at) (λ setting us s. included setting (deep at setting) us (spot_of at) s) a b ns h

  pub include_none : (names : List Arg) (at : At) (a b : Machine R) (ns : Value) → ns ≡ [] → Does value (args_at names at) a b (Ok ns) → Does flow_of (include_at names at) a b (Ok ways.GoesOn)
  include_none names at a b ns none h =
      led flow_of (include_at names at) (λ setting s. included setting (deep at setting) ns (spot_of at) s) a b b (Ok ways.GoesOn) (include_leads names at a b ns h)
      (value_now flow_of (λ setting s. included setting (deep at setting) ns (spot_of at) s) b ways.GoesOn (λ setting right. ap (λ us. included setting (deep at setting) us (spot_of at) (state_of b)) none))

  pub include_first : (names : List Arg) (at : At) (a b c : Machine R) (ns : Value) (name : Text) (more : Value) (result : Result Way EvalFault) → ns ≡ name ∷ more → Does value (args_at names at) a b (Ok ns)
      → Does flow_of (included_at name at) b c result → Does flow_of (include_at names at) a c result
  include_first names at a b c ns name more result is one two =
      led flow_of (include_at names at) (λ setting s. included setting (deep at setting) ns (spot_of at) s) a b c result (include_leads names at a b ns one)
      (does_by flow_of (λ setting s. included setting (deep at setting) ns (spot_of at) s) (included_at name at) b c result (λ setting right. ap (λ us. included setting (deep at setting) us (spot_of at) (state_of b)) is) two)

  -- ---- modules, and statements with a target's own values

  pub module_fails : (name : List Arg) (b : Block) (at : At) (m n : Machine R) (e : EvalFault) → Does value (args_at name at) m n (Err e) → Does flow_of (module_at name b at) m n (Err e)
  module_fails name b at m n e h =
      err_then value flow_of (args_at name at) (λ setting names s. in_module (first_of names) (λ s₁. deeper_at b (spot_of at).path at setting s₁) s) m n e
      (λ setting names later. module_begins setting (first_of names) _ later (λ next. level_begins setting at.levels (block_tree b) (spot_of at).path (spot_of at) next)) h

  pub module_does : (name : List Arg) (b : Block) (at : At) (k m : Machine R) (names : Value) (opened : Worlds) (n : Machine R) (closed : Worlds) (result : Result Way EvalFault) → Does value (args_at name at) k m (Ok names)
      → opened ≡ rescoped (enter (first_of names)) m.worlds → Does flow_of (deeper_at b (spot_of at).path at) (record m { worlds = opened }) n result → closed ≡ rescoped leave n.worlds
      → Does flow_of (module_at name b at) k (record n { worlds = closed }) result
  module_does name b at k m names opened n closed result one is h e =
      led flow_of (module_at name b at) (λ setting s. in_module (first_of names) (λ s₁. deeper_at b (spot_of at).path at setting s₁) s) k m (record n { worlds = closed }) result
      (ok_then value (args_at name at) (λ setting us s. in_module (first_of us) (λ s₁. deeper_at b (spot_of at).path at setting s₁) s) k m names one)
      (in_frame_does flow_of (first_of names) (deeper_at b (spot_of at).path at) m opened n closed result is h e)

  pub on_fails : (target : Arg) (stmt : Stmt) (at : At) (m n : Machine R) (e : EvalFault) → Does value (arg_at target at) m n (Err e) → Does flow_of (on_at target stmt at) m n (Err e)
  on_fails target stmt at m n e h =
      err_then value flow_of (arg_at target at) (λ setting targets s. on_target targets (λ s₁. started_at stmt (spot_of at).path at.levels setting s₁) s) m n e
      (λ setting targets later. target_begins setting targets _ later
      (λ next. started_begins setting at.levels (out-Stmt stmt).line (record { path = (spot_of at).path; line = (out-Stmt stmt).line }) (form_tree (out-Stmt stmt).form) next)) h

  pub on_does : (target : Arg) (stmt : Stmt) (at : At) (k m : Machine R) (targets : Value) (opened : Worlds) (n : Machine R) (closed : Worlds) (result : Result Way EvalFault) → Does value (arg_at target at) k m (Ok targets)
      → opened ≡ on_entered targets m.worlds → Does flow_of (started_at stmt (spot_of at).path at.levels) (record m { worlds = opened }) n result → closed ≡ rescoped leave n.worlds
      → Does flow_of (on_at target stmt at) k (record n { worlds = closed }) result
  on_does target stmt at k m targets opened n closed result one is h e =
      led flow_of (on_at target stmt at) (λ setting s. on_target targets (λ s₁. started_at stmt (spot_of at).path at.levels setting s₁) s) k m (record n { worlds = closed }) result
      (ok_then value (arg_at target at) (λ setting ts s. on_target ts (λ s₁. started_at stmt (spot_of at).path at.levels setting s₁) s) k m targets one)
      (on_target_does flow_of targets (started_at stmt (spot_of at).path at.levels) m opened n closed result is h e)

  -- ---- loops over lists

  abbrev pub looped : Bool → Text → Value → Block → At → What R Flow
  looped own name texts b at = λ setting s. for_loop own name (λ s₁. rounds_at name texts b at setting s₁) s

  pub for_fails : (own : Bool) (name : Text) (items : List Arg) (b : Block) (at : At) (m n : Machine R) (e : EvalFault) → Does value (args_at items at) m n (Err e) → Does flow_of (for_at own name items b at) m n (Err e)
  for_fails own name items b at m n e h =
      err_then value flow_of (args_at items at) (λ setting texts s. looped own name texts b at setting s) m n e
      (λ setting texts later. loop_begins setting at.levels own name _ later (λ next. rounds_begin name texts b at setting next)) h

  for_leads : (own : Bool) (name : Text) (items : List Arg) (b : Block) (at : At) (k m : Machine R) (texts : Value) → Does value (args_at items at) k m (Ok texts) → Leads (for_at own name items b at) (looped own name texts b at) k m
  for_leads own name items b at k m texts h = ok_then value (args_at items at) (λ setting us s. looped own name us b at setting s) k m texts h

  pub for_here : (own : Bool) (name : Text) (items : List Arg) (b : Block) (at : At) (k m n : Machine R) (texts : Value) (result : Result Way EvalFault) → own ≡ false → Does value (args_at items at) k m (Ok texts)
      → Does flow_of (rounds_at name texts b at) m n result → Does flow_of (for_at own name items b at) k n result
  for_here own name items b at k m n texts result not_ one two =
      led flow_of (for_at own name items b at) (looped own name texts b at) k m n result (for_leads own name items b at k m texts one)
      (does_by flow_of (looped own name texts b at) (rounds_at name texts b at) m n result (λ setting right. ap (λ o. looped o name texts b at setting (state_of m)) not_) two)

  pub for_own : (own : Bool) (name : Text) (items : List Arg) (b : Block) (at : At) (k m : Machine R) (texts : Value) (opened : Worlds) (n : Machine R) (closed : Worlds) (result : Result Way EvalFault) → own ≡ true → Does value (args_at items at) k m (Ok texts)
      → opened ≡ loop_entered name m.worlds → Does flow_of (rounds_at name texts b at) (record m { worlds = opened }) n result → closed ≡ rescoped leave n.worlds
      → Does flow_of (for_at own name items b at) k (record n { worlds = closed }) result
  for_own own name items b at k m texts opened n closed result yes_ one is h e =
      led flow_of (for_at own name items b at) (looped own name texts b at) k m (record n { worlds = closed }) result (for_leads own name items b at k m texts one)
      (does_by flow_of (looped own name texts b at) (λ setting s. close_frame (rounds_at name texts b at setting (with_scopes (bind_each ((name, []) ∷ [])) (with_scopes (enter (module_in m.worlds.now)) s)))) m (record n { worlds = closed }) result (λ setting right. ap (λ o. looped o name texts b at setting (state_of m)) yes_)
      (bound_does flow_of (rounds_at name texts b at) m (enter (module_in m.worlds.now)) ((name, []) ∷ []) opened n closed result (λ s. refl) is h e))

  -- ---- rounds while a condition holds

  abbrev pub round_then : ℕ → Expr → Block → At → What R Flow
  round_then most test b at = λ setting s. then_go (block_at b at setting s) (while_rest most test b at setting)

  abbrev pub if_holds : Bool → ℕ → Expr → Block → At → What R Flow
  if_holds holds most test b at = λ setting s. either holds (λ s₁. take_turn setting.budget (spot_of at) s₁ (λ s₂. round_then most test b at setting s₂)) done s

  while_rest_begins : (most : ℕ) (test : Expr) (b : Block) (at : At) (setting : Setting R) (s : State R) → Begins setting s (while_rest most test b at setting s)
  while_rest_begins most test b at setting s =
      while_begins setting at.levels most (spot_of at) _ _ s (λ later. expr_begins setting at.levels (expr_tree test) (spot_of at) later) (λ later. block_begins setting at.levels (block_tree b) (spot_of at) later)

  if_holds_begins : (holds : Bool) (most : ℕ) (test : Expr) (b : Block) (at : At) (setting : Setting R) (s : State R) → Begins setting s (if_holds holds most test b at setting s)
  if_holds_begins holds most test b at setting s =
      either_begins setting holds _ _ s
      (λ later. turn_begins setting (spot_of at) later _ (λ begun. go_begins setting _ _ begun (block_begins setting at.levels (block_tree b) (spot_of at) begun) (λ next. while_rest_begins most test b at setting next)))
      (λ later. same_begins setting goes_on later)

  pub while_first : (test : Expr) (b : Block) (at : At) (m : Machine R) → Leads (while_at test b at) (while_rest (suc m.left) test b at) m m
  while_first test b at m = leads_same (while_at test b at) (while_rest (suc m.left) test b at) m (λ setting right. refl)

  pub while_fails : (what : What R Flow) (most : ℕ) (test : Expr) (b : Block) (at : At) (a c d : Machine R) (e : EvalFault) → Leads what (while_rest (suc most) test b at) a c → Does truth (expr_at test at) c d (Err e) → Does flow_of what a d (Err e)
  while_fails what most test b at a c d e leads h =
      led flow_of what (while_rest (suc most) test b at) a c d (Err e) leads (err_then truth flow_of (expr_at test at) (λ setting holds s. if_holds holds most test b at setting s) c d e
      (λ setting holds later. if_holds_begins holds most test b at setting later) h)

  while_held : (what : What R Flow) (most : ℕ) (test : Expr) (b : Block) (at : At) (a c d : Machine R) (holds : Bool) → Leads what (while_rest (suc most) test b at) a c → Does truth (expr_at test at) c d (Ok holds) → Leads what (if_holds holds most test b at) a d
  while_held what most test b at a c d holds leads h =
      leads_then what (while_rest (suc most) test b at) (if_holds holds most test b at) a c d leads (ok_then truth (expr_at test at) (λ setting t s. if_holds t most test b at setting s) c d holds h)

  pub while_ends : (what : What R Flow) (most : ℕ) (test : Expr) (b : Block) (at : At) (a c d : Machine R) (holds : Bool) → holds ≡ false → Leads what (while_rest (suc most) test b at) a c → Does truth (expr_at test at) c d (Ok holds)
      → Does flow_of what a d (Ok ways.GoesOn)
  while_ends what most test b at a c d holds not_ leads h =
      led flow_of what (if_holds holds most test b at) a d d (Ok ways.GoesOn) (while_held what most test b at a c d holds leads h)
      (value_now flow_of (if_holds holds most test b at) d ways.GoesOn (λ setting right. ap (λ t. if_holds t most test b at setting (state_of d)) not_))

  while_on : (what : What R Flow) (most : ℕ) (test : Expr) (b : Block) (at : At) (a c d : Machine R) (holds : Bool) → holds ≡ true → Leads what (while_rest (suc most) test b at) a c → Does truth (expr_at test at) c d (Ok holds)
      → Leads what (λ setting s. take_turn setting.budget (spot_of at) s (λ s₁. round_then most test b at setting s₁)) a d
  while_on what most test b at a c d holds yes_ leads h =
      leads_then what (if_holds holds most test b at) (λ setting s. take_turn setting.budget (spot_of at) s (λ s₁. round_then most test b at setting s₁)) a d d (while_held what most test b at a c d holds leads h)
      (leads_same (if_holds holds most test b at) (λ setting s. take_turn setting.budget (spot_of at) s (λ s₁. round_then most test b at setting s₁)) d (λ setting right. ap (λ t. if_holds t most test b at setting (state_of d)) yes_))

  pub while_no_turn : (what : What R Flow) (most : ℕ) (test : Expr) (b : Block) (at : At) (a c d : Machine R) (holds : Bool) (e : EvalFault) → holds ≡ true → Leads what (while_rest (suc most) test b at) a c → Does truth (expr_at test at) c d (Ok holds)
      → d.left ≡ 0 → IsFault (spot_of at) (turns d.budget) e → Does flow_of what a d (Err e)
  while_no_turn what most test b at a c d holds e yes_ leads h none f =
      led flow_of what (λ setting s. take_turn setting.budget (spot_of at) s (λ s₁. round_then most test b at setting s₁)) a d d (Err e) (while_on what most test b at a c d holds yes_ leads h)
      (turn_faults flow_of (spot_of at) (λ setting s₁. round_then most test b at setting s₁) d e none f)

  pub while_turn : (what : What R Flow) (most : ℕ) (test : Expr) (b : Block) (at : At) (a c d : Machine R) (holds : Bool) (left : ℕ) → holds ≡ true → Leads what (while_rest (suc most) test b at) a c → Does truth (expr_at test at) c d (Ok holds)
      → d.left ≡ left + 1 → Leads what (round_then most test b at) a (record d { left = left })
  while_turn what most test b at a c d holds left yes_ leads h turn =
      leads_then what (λ setting s. take_turn setting.budget (spot_of at) s (λ s₁. round_then most test b at setting s₁)) (round_then most test b at) a d (record d { left = left }) (while_on what most test b at a c d holds yes_ leads h)
      (turn_leads (spot_of at) (λ setting s₁. round_then most test b at setting s₁) d left turn)

  pub while_turned : (what : What R Flow) (most : ℕ) (test : Expr) (b : Block) (at : At) (a c d t : Machine R) (holds : Bool) → holds ≡ true → Leads what (while_rest (suc most) test b at) a c → Does truth (expr_at test at) c d (Ok holds)
      → d.left ≡ t.left + 1 → t.budget ≡ d.budget → t ≡ record d { left = t.left; budget = t.budget } → Leads what (round_then most test b at) a t
  while_turned what most test b at a c d t holds yes_ leads h turn same is =
      subst (λ k. Leads what (round_then most test b at) a k) (sym (turned d t same is)) (while_turn what most test b at a c d holds t.left yes_ leads h turn)

  pub round_fails : (what : What R Flow) (most : ℕ) (test : Expr) (b : Block) (at : At) (a c d : Machine R) (e : EvalFault) → Leads what (round_then most test b at) a c → Does flow_of (block_at b at) c d (Err e) → Does flow_of what a d (Err e)
  round_fails what most test b at a c d e leads h = led flow_of what (round_then most test b at) a c d (Err e) leads
      (err_go flow_of (block_at b at) (while_rest most test b at) c d e (λ setting later. while_rest_begins most test b at setting later) h)

  pub round_returns : (what : What R Flow) (most : ℕ) (test : Expr) (b : Block) (at : At) (a c d : Machine R) (v : Value) → Leads what (round_then most test b at) a c → Does flow_of (block_at b at) c d (Ok (ways.Returns v))
      → Does flow_of what a d (Ok (ways.Returns v))
  round_returns what most test b at a c d v leads h = led flow_of what (round_then most test b at) a c d (Ok (ways.Returns v)) leads (ended_go (block_at b at) (while_rest most test b at) c d v h)

  pub round_goes : (what : What R Flow) (most : ℕ) (test : Expr) (b : Block) (at : At) (a c d : Machine R) → Leads what (round_then most test b at) a c → Does flow_of (block_at b at) c d (Ok ways.GoesOn) → Leads what (while_rest most test b at) a d
  round_goes what most test b at a c d leads h = leads_then what (round_then most test b at) (while_rest most test b at) a c d leads (ok_go (block_at b at) (while_rest most test b at) c d h)
