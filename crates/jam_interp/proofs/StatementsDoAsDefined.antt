-- What the functions on statements do, exit by exit.
use Rattle.std.proofs.Common.{◌≡◌, ◌<◌, ◌+◌, ◌-◌, ℕ, Bool, true, false, List, [], ◌∷◌, cond, Option, Some, None, Result, Ok, Err, refl, sym, ap, ◌∙◌, subst}
use Rattle.std.specs.declared.vec.Vec.{Vec}
use Rattle.std.specs.declared.alloc.Global.{Global}
use Rattle.b2_base.specs.Lists.{first_of}
use Rattle.jam_grammar.specs.declared.tree.Arg.{Arg}
use Rattle.jam_grammar.specs.declared.tree.Expr.{Expr}
use Rattle.jam_grammar.specs.declared.tree.Block.{Block}
use Rattle.jam_grammar.specs.declared.tree.Other.{Other}
use Rattle.jam_grammar.specs.declared.tree.Stmt.{Stmt, out-Stmt}
use Rattle.jam_grammar.specs.declared.tree.Sign.{Sign}
use Rattle.jam_grammar.specs.declared.tree.Case.{Case}
use Rattle.jam_grammar.specs.Trees as tree
use Rattle.jam_grammar.specs.Trees.{StmtTrees, CaseTrees, args_tree, form_tree, block_tree, other_tree, stmts_tree, cases_tree}
use Rattle.jam_journal.specs.Tables.{Text}
use Rattle.jam_journal.specs.Scopes.{Value, enter, leave, bind_each, assign}
use Rattle.jam_scope.specs.Worlds.{Worlds}
use Rattle.jam_scope.specs.Changes.{rescoped, module_in}
use Rattle.jam_meaning.specs.Faults.{depth, turns}
use Rattle.jam_meaning.specs.States.{State, with_scopes}
use Rattle.jam_meaning.specs.Settings.{Setting, IsMatching}
use Rattle.jam_meaning.specs.Outcomes.{gives, Flow, goes_on, returns, then_do, then_go, either, in_module, close_frame, on_target, own_bindings}
use Rattle.jam_meaning.specs.Levels.{Levels}
use Rattle.jam_meaning.specs.Forms.{block, done, form, stmts, other, for_all, set_name, first_case}
use Rattle.jam_values.specs.Choosing.{chosen}
use Rattle.jam_meaning.specs.Eval.{levels}
use Rattle.jam_effects.specs.declared.at.At.{At}
use Rattle.jam_effects.specs.declared.flow.Flow.{Flow as Way}
use Rattle.jam_effects.specs.declared.flow.Flow.TheVariants as ways
use Rattle.jam_effects.specs.declared.fault.EvalFault.{EvalFault}
use Rattle.jam_effects.specs.Causes.{IsFault}
use Rattle.jam_effects.specs.Spots.{spot_of}
use Rattle.jam_effects.specs.Framing.{own_in, entered, on_entered}
use Rattle.jam_effects.specs.Naming.{set_names_in, IsRefused, IsMade, SameFrames}
use Rattle.jam_effects.specs.Machines.{Machine, state_of}
use Rattle.jam_effects.specs.Does.{Does, Leads}
use Rattle.jam_effects.specs.Views.{value, truth, flow_of, What}
use Rattle.jam_interp.specs.FunctionParts.{deep, args_at, arg_at, expr_at, call_of_at, stmts_at, started_at, form_at, block_at, deeper_at, other_at, returned_at, if_at, called_at, rounds_at, assign_at, switch_at}
use Rattle.jam_meaning.specs.Kept.{Begins}
use Rattle.jam_meaning.proofs.RecordsOnlyGrow.{then_begins, same_begins, either_begins, args_begins, for_all_begins, set_name_begins, block_begins, other_begins, stmts_begins, for_begins, case_begins}
use Rattle.jam_effects.proofs.OrderedCallsDoAsDefined.{err_then, ok_then, err_go, ok_go, ended_go, led, leads_then, value_now, fault_now, either_true, either_false}
use Rattle.jam_effects.proofs.FramesCloseEvenAfterFaults.{in_frame_does, bound_does}
use Rattle.jam_interp.proofs.ChangesDoAsDefined.{stays_worlds, change_fails, change_does}
use Rattle.jam_effects.proofs.SettingNamesIsOneChange.{names_made}
use Rattle.jam_effects.proofs.OneTurnLessOrFault.{turn_leads, turn_faults, turned}
use Rattle.jam_interp.proofs.OneLevelLessOrFault.{one_less, no_stmts}
use Rattle.jam_interp.proofs.ArgumentsDoAsDefined.{does_by}

module _ {R : Type 0} where
  -- ---- statements one level deeper

  pub deeper_deep : (b : Block) (path : Text) (at : At) (m : Machine R) (e : EvalFault) → at.levels ≡ 0 → IsFault (spot_of at) depth e → Does flow_of (deeper_at b path at) m m (Err e)
  deeper_deep b path at m e none h =
      fault_now flow_of (deeper_at b path at) m (spot_of at) depth e h refl (λ setting is. no_stmts setting at.levels (block_tree b) path (spot_of at) (state_of m) none)

  pub deeper_opens : (b : Block) (list : List Stmt) (path : Text) (at : At) (a c : Machine R) (result : Result Way EvalFault) → 0 < at.levels → block_tree b ≡ stmts_tree list
      → Does flow_of (stmts_at list path (at.levels - 1)) a c result → Does flow_of (deeper_at b path at) a c result
  deeper_opens b list path at a c result some same h =
      does_by flow_of (deeper_at b path at) (stmts_at list path (at.levels - 1)) a c result
      (λ setting right. ap (λ (d : Levels R). d.stmts (block_tree b) path (spot_of at) (state_of a)) (one_less setting at.levels some)
      ∙ ap (λ trees. stmts setting (levels setting (at.levels - 1)) trees path (state_of a)) same) h

  -- a block, in a frame of its own
  pub block_does : (b : Block) (at : At) (m : Machine R) (opened : Worlds) (n : Machine R) (closed : Worlds) (result : Result Way EvalFault) → opened ≡ entered m.worlds
      → Does flow_of (deeper_at b (spot_of at).path at) (record m { worlds = opened }) n result → closed ≡ rescoped leave n.worlds → Does flow_of (block_at b at) m (record n { worlds = closed }) result
  block_does b at m opened n closed result is h e =
      does_by flow_of (block_at b at) (λ setting. in_module (module_in m.worlds.now) (deeper_at b (spot_of at).path at setting)) m (record n { worlds = closed }) result (λ setting right. refl)
      (in_frame_does flow_of (module_in m.worlds.now) (deeper_at b (spot_of at).path at) m opened n closed result is h e)

  -- ---- in a frame with a target's own values

  own_is : (targets : Value) (s : State R) → own_bindings targets s ≡ own_in targets s.worlds.now
  own_is [] s = refl
  own_is (target ∷ more) s = refl

  pub on_target_does : {A B : Type 0} (view : A → B) (targets : Value) (act : What R B) (m : Machine R) (opened : Worlds) (n : Machine R) (closed : Worlds) (result : Result A EvalFault)
      → opened ≡ on_entered targets m.worlds → Does view act (record m { worlds = opened }) n result → closed ≡ rescoped leave n.worlds
      → Does view (λ setting s. on_target targets (act setting) s) m (record n { worlds = closed }) result
  on_target_does view targets act m opened n closed result is h e =
      does_by view (λ setting s. on_target targets (act setting) s)
      (λ setting s. close_frame (act setting (with_scopes (bind_each (own_in targets m.worlds.now)) (with_scopes (enter (module_in m.worlds.now)) s)))) m (record n { worlds = closed }) result
      (λ setting right. ap (λ bs. close_frame (act setting (with_scopes (bind_each bs) (with_scopes (enter (module_in m.worlds.now)) (state_of m))))) (own_is targets (state_of m)))
      (bound_does view act m (enter (module_in m.worlds.now)) (own_in targets m.worlds.now) opened n closed result (λ s. refl) is h e)

  -- ---- return, and calls as statements

  pub returned_fails : (list : List Arg) (at : At) (a b : Machine R) (e : EvalFault) → Does value (args_at list at) a b (Err e) → Does flow_of (returned_at list at) a b (Err e)
  returned_fails list at a b e h = err_then value flow_of (args_at list at) (λ setting v s. gives (returns v) s) a b e (λ setting v later. same_begins setting (returns v) later) h

  pub returned_ends : (list : List Arg) (at : At) (a b : Machine R) (v : Value) → Does value (args_at list at) a b (Ok v) → Does flow_of (returned_at list at) a b (Ok (ways.Returns v))
  returned_ends list at a b v h =
      led flow_of (returned_at list at) (λ setting s. gives (returns v) s) a b b (Ok (ways.Returns v))
      (ok_then value (args_at list at) (λ setting u s. gives (returns u) s) a b v h) (value_now flow_of (λ setting s. gives (returns v) s) b (ways.Returns v) (λ setting is. refl))

  pub called_fails : (head : Arg) (given : List (Vec Arg Global)) (at : At) (a b : Machine R) (e : EvalFault) → Does value (call_of_at head given at) a b (Err e) → Does flow_of (called_at head given at) a b (Err e)
  called_fails head given at a b e h = err_then value flow_of (call_of_at head given at) (λ setting v s. done s) a b e (λ setting v later. same_begins setting goes_on later) h

  pub called_ends : (head : Arg) (given : List (Vec Arg Global)) (at : At) (a b : Machine R) (v : Value) → Does value (call_of_at head given at) a b (Ok v) → Does flow_of (called_at head given at) a b (Ok ways.GoesOn)
  called_ends head given at a b v h =
      led flow_of (called_at head given at) (λ setting s. done s) a b b (Ok ways.GoesOn)
      (ok_then value (call_of_at head given at) (λ setting u s. done s) a b v h) (value_now flow_of (λ setting s. done s) b ways.GoesOn (λ setting is. refl))

  -- ---- if

  abbrev pub branches : Bool → Block → Other → At → What R Flow
  branches holds b next at = λ setting s. either holds (λ s₁. block setting (deep at setting) (block_tree b) (spot_of at) s₁) (λ s₁. other setting (deep at setting) (other_tree next) (spot_of at) s₁) s

  if_leads : (test : Expr) (b : Block) (next : Other) (at : At) (a c : Machine R) (holds : Bool) → Does truth (expr_at test at) a c (Ok holds) → Leads (if_at test b next at) (branches holds b next at) a c
  if_leads test b next at a c holds h = ok_then truth (expr_at test at) (λ setting t s. branches t b next at setting s) a c holds h

  pub if_fails : (test : Expr) (b : Block) (next : Other) (at : At) (a c : Machine R) (e : EvalFault) → Does truth (expr_at test at) a c (Err e) → Does flow_of (if_at test b next at) a c (Err e)
  if_fails test b next at a c e h =
      err_then truth flow_of (expr_at test at) (λ setting t s. branches t b next at setting s) a c e
      (λ setting t later. either_begins setting t _ _ later (λ last. block_begins setting at.levels (block_tree b) (spot_of at) last) (λ last. other_begins setting at.levels (other_tree next) (spot_of at) last)) h

  pub if_then : (test : Expr) (b : Block) (next : Other) (at : At) (a c d : Machine R) (holds : Bool) (result : Result Way EvalFault) → holds ≡ true → Does truth (expr_at test at) a c (Ok holds)
      → Does flow_of (block_at b at) c d result → Does flow_of (if_at test b next at) a d result
  if_then test b next at a c d holds result yes_ one two =
      led flow_of (if_at test b next at) (branches holds b next at) a c d result (if_leads test b next at a c holds one)
      (does_by flow_of (branches holds b next at) (block_at b at) c d result
      (λ setting right. either_true holds (λ s₁. block setting (deep at setting) (block_tree b) (spot_of at) s₁) (λ s₁. other setting (deep at setting) (other_tree next) (spot_of at) s₁) (state_of c) yes_) two)

  pub if_else : (test : Expr) (b : Block) (next : Other) (at : At) (a c d : Machine R) (holds : Bool) (result : Result Way EvalFault) → holds ≡ false → Does truth (expr_at test at) a c (Ok holds)
      → Does flow_of (other_at next at) c d result → Does flow_of (if_at test b next at) a d result
  if_else test b next at a c d holds result not_ one two =
      led flow_of (if_at test b next at) (branches holds b next at) a c d result (if_leads test b next at a c holds one)
      (does_by flow_of (branches holds b next at) (other_at next at) c d result
      (λ setting right. either_false holds (λ s₁. block setting (deep at setting) (block_tree b) (spot_of at) s₁) (λ s₁. other setting (deep at setting) (other_tree next) (spot_of at) s₁) (state_of c) not_) two)

  -- ---- statements in order

  pub started_no_turn : (stmt : Stmt) (path : Text) (n : ℕ) (m : Machine R) (e : EvalFault) → m.left ≡ 0 → IsFault (record { path = path; line = (out-Stmt stmt).line }) (turns m.budget) e → Does flow_of (started_at stmt path n) m m (Err e)
  started_no_turn stmt path n m e none h =
      turn_faults flow_of (record { path = path; line = (out-Stmt stmt).line }) (λ setting s. form setting (levels setting n) (form_tree (out-Stmt stmt).form) (record { path = path; line = (out-Stmt stmt).line }) s) m e none h

  pub started_does : (stmt : Stmt) (path : Text) (n : ℕ) (at : At) (m c : Machine R) (left : ℕ) (result : Result Way EvalFault) → m.left ≡ left + 1 → spot_of at ≡ record { path = path; line = (out-Stmt stmt).line } → at.levels ≡ n
      → Does flow_of (form_at (out-Stmt stmt).form at) (record m { left = left }) c result → Does flow_of (started_at stmt path n) m c result
  started_does stmt path n at m c left result turn spot same h =
      led flow_of (started_at stmt path n) (λ setting s. form setting (levels setting n) (form_tree (out-Stmt stmt).form) (record { path = path; line = (out-Stmt stmt).line }) s) m (record m { left = left }) c result
      (turn_leads (record { path = path; line = (out-Stmt stmt).line }) (λ setting s. form setting (levels setting n) (form_tree (out-Stmt stmt).form) (record { path = path; line = (out-Stmt stmt).line }) s) m left turn)
      (subst (λ k. Does flow_of (λ setting s. form setting (levels setting k) (form_tree (out-Stmt stmt).form) (record { path = path; line = (out-Stmt stmt).line }) s) (record m { left = left }) c result) same
      (subst (λ p. Does flow_of (λ setting s. form setting (levels setting at.levels) (form_tree (out-Stmt stmt).form) p s) (record m { left = left }) c result) spot h))

  pub started_runs : (stmt : Stmt) (path : Text) (n : ℕ) (at : At) (m t c : Machine R) (result : Result Way EvalFault) → m.left ≡ t.left + 1 → t.budget ≡ m.budget → t ≡ record m { left = t.left; budget = t.budget }
      → spot_of at ≡ record { path = path; line = (out-Stmt stmt).line } → at.levels ≡ n → Does flow_of (form_at (out-Stmt stmt).form at) t c result → Does flow_of (started_at stmt path n) m c result
  started_runs stmt path n at m t c result turn same is spot level h =
      started_does stmt path n at m c t.left result turn spot level (subst (λ k. Does flow_of (form_at (out-Stmt stmt).form at) k c result) (turned m t same is) h)

  stmts_next : (what : What R Flow) (xs : List Stmt) (one : Stmt) (rest : List Stmt) (path : Text) (n : ℕ) (a b : Machine R) → xs ≡ one ∷ rest → Leads what (stmts_at xs path n) a b
      → Leads what (λ setting s. then_go (started_at one path n setting s) (stmts_at rest path n setting)) a b
  stmts_next what xs one rest path n a b e h = subst (λ l. Leads what (stmts_at l path n) a b) e h

  pub stmts_fails : (what : What R Flow) (xs : List Stmt) (one : Stmt) (rest : List Stmt) (path : Text) (n : ℕ) (a b c : Machine R) (e : EvalFault) → xs ≡ one ∷ rest → Leads what (stmts_at xs path n) a b
      → Does flow_of (started_at one path n) b c (Err e) → Does flow_of what a c (Err e)
  stmts_fails what xs one rest path n a b c e is leads h =
      led flow_of what (λ setting s. then_go (started_at one path n setting s) (stmts_at rest path n setting)) a b c (Err e) (stmts_next what xs one rest path n a b is leads)
      (err_go flow_of (started_at one path n) (stmts_at rest path n) b c e (λ setting later. stmts_begins setting n (stmts_tree rest) path later) h)

  pub stmts_returns : (what : What R Flow) (xs : List Stmt) (one : Stmt) (rest : List Stmt) (path : Text) (n : ℕ) (a b c : Machine R) (v : Value) → xs ≡ one ∷ rest → Leads what (stmts_at xs path n) a b
      → Does flow_of (started_at one path n) b c (Ok (ways.Returns v)) → Does flow_of what a c (Ok (ways.Returns v))
  stmts_returns what xs one rest path n a b c v is leads h =
      led flow_of what (λ setting s. then_go (started_at one path n setting s) (stmts_at rest path n setting)) a b c (Ok (ways.Returns v)) (stmts_next what xs one rest path n a b is leads)
      (ended_go (started_at one path n) (stmts_at rest path n) b c v h)

  pub stmts_goes : (what : What R Flow) (xs : List Stmt) (one : Stmt) (rest : List Stmt) (path : Text) (n : ℕ) (a b c : Machine R) → xs ≡ one ∷ rest → Leads what (stmts_at xs path n) a b
      → Does flow_of (started_at one path n) b c (Ok ways.GoesOn) → Leads what (stmts_at rest path n) a c
  stmts_goes what xs one rest path n a b c is leads h =
      leads_then what (λ setting s. then_go (started_at one path n setting s) (stmts_at rest path n setting)) (stmts_at rest path n) a b c (stmts_next what xs one rest path n a b is leads)
      (ok_go (started_at one path n) (stmts_at rest path n) b c h)

  pub stmts_end : (what : What R Flow) (xs : List Stmt) (path : Text) (n : ℕ) (a b : Machine R) → xs ≡ [] → Leads what (stmts_at xs path n) a b → Does flow_of what a b (Ok ways.GoesOn)
  stmts_end what xs path n a b is leads =
      led flow_of what (stmts_at [] path n) a b b (Ok ways.GoesOn) (subst (λ l. Leads what (stmts_at l path n) a b) is leads) (value_now flow_of (stmts_at [] path n) b ways.GoesOn (λ setting right. refl))

  -- ---- rounds

  pub rounds_begin : (name : Text) (texts : Value) (b : Block) (at : At) (setting : Setting R) (s : State R) → Begins setting s (rounds_at name texts b at setting s)
  rounds_begin name texts b at setting s = for_begins setting at.levels texts (spot_of at) name _ s (λ next. block_begins setting at.levels (block_tree b) (spot_of at) next)

  abbrev pub round_of : Text → Text → Value → Block → At → What R Flow
  round_of name item rest b at = λ setting s. then_go (block_at b at setting (with_scopes (assign name (item ∷ [])) s)) (rounds_at name rest b at setting)

  pub rounds_no_turn : (what : What R Flow) (name : Text) (xs : Value) (item : Text) (rest : Value) (b : Block) (at : At) (a c : Machine R) (e : EvalFault) → xs ≡ item ∷ rest → Leads what (rounds_at name xs b at) a c
      → c.left ≡ 0 → IsFault (spot_of at) (turns c.budget) e → Does flow_of what a c (Err e)
  rounds_no_turn what name xs item rest b at a c e is leads none h =
      led flow_of what (rounds_at name (item ∷ rest) b at) a c c (Err e) (subst (λ l. Leads what (rounds_at name l b at) a c) is leads)
      (turn_faults flow_of (spot_of at) (round_of name item rest b at) c e none h)

  pub rounds_turn : (what : What R Flow) (name : Text) (xs : Value) (item : Text) (rest : Value) (b : Block) (at : At) (a c : Machine R) (left : ℕ) → xs ≡ item ∷ rest → Leads what (rounds_at name xs b at) a c
      → c.left ≡ left + 1 → Leads what (round_of name item rest b at) a (record c { left = left })
  rounds_turn what name xs item rest b at a c left is leads turn =
      leads_then what (rounds_at name (item ∷ rest) b at) (round_of name item rest b at) a c (record c { left = left }) (subst (λ l. Leads what (rounds_at name l b at) a c) is leads)
      (turn_leads (spot_of at) (round_of name item rest b at) c left turn)

  pub rounds_turned : (what : What R Flow) (name : Text) (xs : Value) (item : Text) (rest : Value) (b : Block) (at : At) (a c t : Machine R) → xs ≡ item ∷ rest → Leads what (rounds_at name xs b at) a c
      → c.left ≡ t.left + 1 → t.budget ≡ c.budget → t ≡ record c { left = t.left; budget = t.budget } → Leads what (round_of name item rest b at) a t
  rounds_turned what name xs item rest b at a c t is leads turn same as_was =
      subst (λ k. Leads what (round_of name item rest b at) a k) (sym (turned c t same as_was)) (rounds_turn what name xs item rest b at a c t.left is leads turn)

  -- the name is set
  pub rounds_set : (what : What R Flow) (name item : Text) (rest : Value) (b : Block) (at : At) (a c : Machine R) (ws : Worlds) → SameFrames c.worlds ws → ws ≡ rescoped (assign name (item ∷ [])) c.worlds
      → Leads what (round_of name item rest b at) a c → Leads what (λ setting s. then_go (block_at b at setting s) (rounds_at name rest b at setting)) a (record c { worlds = ws })
  rounds_set what name item rest b at a c ws same is leads =
      leads_then what (round_of name item rest b at) (λ setting s. then_go (block_at b at setting s) (rounds_at name rest b at setting)) a c (record c { worlds = ws }) leads (record {
        told = λ setting right none. ap (λ w. then_go (block_at b at setting (state_of (record c { worlds = w }))) (rounds_at name rest b at setting)) (sym is);
        stays = stays_worlds c ws same;
        counts = refl;
      })

  pub rounds_fails : (what : What R Flow) (name : Text) (rest : Value) (b : Block) (at : At) (a c d : Machine R) (e : EvalFault) → Leads what (λ setting s. then_go (block_at b at setting s) (rounds_at name rest b at setting)) a c
      → Does flow_of (block_at b at) c d (Err e) → Does flow_of what a d (Err e)
  rounds_fails what name rest b at a c d e leads h =
      led flow_of what (λ setting s. then_go (block_at b at setting s) (rounds_at name rest b at setting)) a c d (Err e) leads
      (err_go flow_of (block_at b at) (rounds_at name rest b at) c d e (λ setting later. rounds_begin name rest b at setting later) h)

  pub rounds_returns : (what : What R Flow) (name : Text) (rest : Value) (b : Block) (at : At) (a c d : Machine R) (v : Value) → Leads what (λ setting s. then_go (block_at b at setting s) (rounds_at name rest b at setting)) a c
      → Does flow_of (block_at b at) c d (Ok (ways.Returns v)) → Does flow_of what a d (Ok (ways.Returns v))
  rounds_returns what name rest b at a c d v leads h =
      led flow_of what (λ setting s. then_go (block_at b at setting s) (rounds_at name rest b at setting)) a c d (Ok (ways.Returns v)) leads (ended_go (block_at b at) (rounds_at name rest b at) c d v h)

  pub rounds_goes : (what : What R Flow) (name : Text) (rest : Value) (b : Block) (at : At) (a c d : Machine R) → Leads what (λ setting s. then_go (block_at b at setting s) (rounds_at name rest b at setting)) a c
      → Does flow_of (block_at b at) c d (Ok ways.GoesOn) → Leads what (rounds_at name rest b at) a d
  rounds_goes what name rest b at a c d leads h =
      leads_then what (λ setting s. then_go (block_at b at setting s) (rounds_at name rest b at setting)) (rounds_at name rest b at) a c d leads (ok_go (block_at b at) (rounds_at name rest b at) c d h)

  pub rounds_end : (what : What R Flow) (name : Text) (xs : Value) (b : Block) (at : At) (a c : Machine R) → xs ≡ [] → Leads what (rounds_at name xs b at) a c → Does flow_of what a c (Ok ways.GoesOn)
  rounds_end what name xs b at a c is leads =
      led flow_of what (rounds_at name [] b at) a c c (Ok ways.GoesOn) (subst (λ l. Leads what (rounds_at name l b at) a c) is leads) (value_now flow_of (rounds_at name [] b at) c ways.GoesOn (λ setting right. refl))

  -- ---- assignments

  abbrev pub sets : Value → Sign → Value → At → What R Flow
  sets names sign v at = λ setting s. for_all names (set_name sign v (spot_of at)) s

  sets_begin : (names : Value) (sign : Sign) (v : Value) (at : At) (setting : Setting R) (s : State R) → Begins setting s (sets names sign v at setting s)
  sets_begin names sign v at setting s = for_all_begins setting at.levels names _ s (λ name next. set_name_begins setting at.levels sign v (spot_of at) name next)

  pub assign_name_fails : (target : Arg) (sign : Sign) (list : List Arg) (at : At) (a b : Machine R) (e : EvalFault) → Does value (arg_at target at) a b (Err e) → Does flow_of (assign_at target sign list at) a b (Err e)
  assign_name_fails target sign list at a b e h =
      err_then value flow_of (arg_at target at) (λ setting names s₁. then_do (args_at list at setting s₁) (λ v. λ s₂. sets names sign v at setting s₂)) a b e
      (λ setting names later. then_begins setting _ _ later (args_begins setting at.levels (args_tree list) (spot_of at) later) (λ v last. sets_begin names sign v at setting last)) h

  pub assign_value_fails : (target : Arg) (sign : Sign) (list : List Arg) (at : At) (a b c : Machine R) (names : Value) (e : EvalFault) → Does value (arg_at target at) a b (Ok names) → Does value (args_at list at) b c (Err e) → Does flow_of (assign_at target sign list at) a c (Err e)
  assign_value_fails target sign list at a b c names e one two =
      led flow_of (assign_at target sign list at) (λ setting s₁. then_do (args_at list at setting s₁) (λ v. λ s₂. sets names sign v at setting s₂)) a b c (Err e)
      (ok_then value (arg_at target at) (λ setting ns s₁. then_do (args_at list at setting s₁) (λ v. λ s₂. sets ns sign v at setting s₂)) a b names one)
      (err_then value flow_of (args_at list at) (λ setting v s₂. sets names sign v at setting s₂) b c e (λ setting v later. sets_begin names sign v at setting later) two)

  assign_leads : (target : Arg) (sign : Sign) (list : List Arg) (at : At) (a b c : Machine R) (names v : Value) → Does value (arg_at target at) a b (Ok names) → Does value (args_at list at) b c (Ok v) → Leads (assign_at target sign list at) (sets names sign v at) a c
  assign_leads target sign list at a b c names v one two =
      leads_then (assign_at target sign list at) (λ setting s₁. then_do (args_at list at setting s₁) (λ u. λ s₂. sets names sign u at setting s₂)) (sets names sign v at) a b c
      (ok_then value (arg_at target at) (λ setting ns s₁. then_do (args_at list at setting s₁) (λ u. λ s₂. sets ns sign u at setting s₂)) a b names one)
      (ok_then value (args_at list at) (λ setting u s₂. sets names sign u at setting s₂) b c v two)

  pub assign_refused : (target : Arg) (sign : Sign) (list : List Arg) (at : At) (a b c : Machine R) (names v : Value) (ws : Worlds) (e : EvalFault) → Does value (arg_at target at) a b (Ok names) → Does value (args_at list at) b c (Ok v)
      → SameFrames c.worlds ws → IsRefused (set_names_in names sign v c.worlds) (spot_of at) e ws → Does flow_of (assign_at target sign list at) a (record c { worlds = ws }) (Err e)
  assign_refused target sign list at a b c names v ws e one two same h =
      led flow_of (assign_at target sign list at) (sets names sign v at) a c (record c { worlds = ws }) (Err e) (assign_leads target sign list at a b c names v one two)
      (change_fails (sets names sign v at) (set_names_in names sign v c.worlds) (spot_of at) c ws e same h (λ setting. names_made names sign v (spot_of at) (state_of c)))

  pub assign_ends : {U : Type 0} (target : Arg) (sign : Sign) (list : List Arg) (at : At) (a b c : Machine R) (names v : Value) (ws : Worlds) (u : U) → Does value (arg_at target at) a b (Ok names) → Does value (args_at list at) b c (Ok v)
      → SameFrames c.worlds ws → IsMade (set_names_in names sign v c.worlds) (spot_of at) (Ok u) ws → Does flow_of (assign_at target sign list at) a (record c { worlds = ws }) (Ok ways.GoesOn)
  assign_ends target sign list at a b c names v ws u one two same h =
      led flow_of (assign_at target sign list at) (sets names sign v at) a c (record c { worlds = ws }) (Ok ways.GoesOn) (assign_leads target sign list at a b c names v one two)
      (change_does (sets names sign v at) (set_names_in names sign v c.worlds) (spot_of at) c ws u same h (λ setting. names_made names sign v (spot_of at) (state_of c)))

  -- ---- the case that is chosen

  abbrev pub picked : Option StmtTrees → At → What R Flow
  picked None at = λ setting s. done s
  picked (Some trees) at = λ setting s. block setting (deep at setting) trees (spot_of at) s

  picked_is : (setting : Setting R) (text : Text) (cases : CaseTrees) (at : At) (s : State R) → first_case setting (deep at setting) text cases (spot_of at) s ≡ picked (chosen setting.sight.matching text cases) at setting s
  picked_is setting text tree.NoCases at s = refl
  picked_is setting text (tree.CaseAnd pattern inner rest) at s = go (picked_is setting text rest at s) (setting.sight.matching pattern text)
    where
      go : first_case setting (deep at setting) text rest (spot_of at) s ≡ picked (chosen setting.sight.matching text rest) at setting s → (b : Bool) → either b (λ s₁. block setting (deep at setting) inner (spot_of at) s₁) (λ s₁. first_case setting (deep at setting) text rest (spot_of at) s₁) s ≡ picked (cond b (Some inner) (chosen setting.sight.matching text rest)) at setting s
      go later true = refl
      go later false = later

  pub switch_fails : (list : List Arg) (cases : List Case) (at : At) (a b : Machine R) (e : EvalFault) → Does value (args_at list at) a b (Err e) → Does flow_of (switch_at list cases at) a b (Err e)
  switch_fails list cases at a b e h =
      err_then value flow_of (args_at list at) (λ setting texts s. first_case setting (deep at setting) (first_of texts) (cases_tree cases) (spot_of at) s) a b e
      (λ setting texts later. case_begins setting at.levels (first_of texts) (cases_tree cases) (spot_of at) later) h

  switch_leads : (list : List Arg) (cases : List Case) (at : At) (a b : Machine R) (texts : Value) → Does value (args_at list at) a b (Ok texts) → Leads (switch_at list cases at) (λ setting s. first_case setting (deep at setting) (first_of texts) (cases_tree cases) (spot_of at) s) a b
  switch_leads list cases at a b texts h = ok_then value (args_at list at) (λ setting us s. first_case setting (deep at setting) (first_of us) (cases_tree cases) (spot_of at) s) a b texts h

  pub switch_none : (list : List Arg) (cases : List Case) (at : At) (a b : Machine R) (texts : Value) → ((matching : Text → Text → Bool) → IsMatching matching → chosen matching (first_of texts) (cases_tree cases) ≡ None) → Does value (args_at list at) a b (Ok texts)
      → Does flow_of (switch_at list cases at) a b (Ok ways.GoesOn)
  switch_none list cases at a b texts none h =
      led flow_of (switch_at list cases at) (λ setting s. first_case setting (deep at setting) (first_of texts) (cases_tree cases) (spot_of at) s) a b b (Ok ways.GoesOn) (switch_leads list cases at a b texts h)
      (value_now flow_of (λ setting s. first_case setting (deep at setting) (first_of texts) (cases_tree cases) (spot_of at) s) b ways.GoesOn
      (λ setting right. picked_is setting (first_of texts) (cases_tree cases) at (state_of b) ∙ ap (λ o. picked o at setting (state_of b)) (none setting.sight.matching right.right.sees.matches)))

  pub switch_picks : (list : List Arg) (cases : List Case) (inner : Block) (at : At) (a b c : Machine R) (texts : Value) (result : Result Way EvalFault)
      → ((matching : Text → Text → Bool) → IsMatching matching → chosen matching (first_of texts) (cases_tree cases) ≡ Some (block_tree inner)) → Does value (args_at list at) a b (Ok texts)
      → Does flow_of (block_at inner at) b c result → Does flow_of (switch_at list cases at) a c result
  switch_picks list cases inner at a b c texts result some one two =
      led flow_of (switch_at list cases at) (λ setting s. first_case setting (deep at setting) (first_of texts) (cases_tree cases) (spot_of at) s) a b c result (switch_leads list cases at a b texts one)
      (does_by flow_of (λ setting s. first_case setting (deep at setting) (first_of texts) (cases_tree cases) (spot_of at) s) (block_at inner at) b c result
      (λ setting right. picked_is setting (first_of texts) (cases_tree cases) at (state_of b) ∙ ap (λ o. picked o at setting (state_of b)) (some setting.sight.matching right.right.sees.matches)) two)
