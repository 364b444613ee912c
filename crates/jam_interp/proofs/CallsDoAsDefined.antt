-- What the functions on calls do, exit by exit.
use Rattle.std.proofs.Common.{◌≡◌, ◌<◌, ◌+◌, ◌-◌, ℕ, Bool, true, false, List, [], ◌∷◌, ◌++◌, Option, Some, None, Result, Ok, Err, refl, sym, ap, ◌∙◌, subst, append_assoc}
use Rattle.std.proofs.lemmas.List.{append-nil}
use Rattle.jam_expand.specs.Limits.{within}
use Rattle.jam_journal.specs.Tables.{Text}
use Rattle.jam_journal.specs.Scopes.{Value, Binding, enter_call, leave, bind_each}
use Rattle.jam_grammar.specs.declared.tree.Stmt.{Stmt}
use Rattle.jam_grammar.specs.Trees.{stmts_tree}
use Rattle.jam_meaning.specs.Forms.{stmts}
use Rattle.jam_effects.specs.Framing.{call_entered}
use Rattle.jam_scope.specs.Rules.{Rule}
use Rattle.jam_scope.specs.Worlds.{Worlds}
use Rattle.jam_scope.specs.Changes.{rescoped}
use Rattle.jam_scope.specs.Lines.{find_rule}
use Rattle.jam_meaning.specs.declared.native_answer.NativeStep.{NativeStep}
use Rattle.jam_meaning.specs.declared.native_answer.NativeStep.TheVariants as steps
use Rattle.jam_meaning.specs.Faults.{depth, turns, arity, unknown_rule, exit}
use Rattle.jam_meaning.specs.States.{State, with_scopes}
use Rattle.jam_meaning.specs.Settings.{Meaning, Setting}
use Rattle.jam_meaning.specs.Outcomes.{Outcome, gives, faults, Flow, then_do, joined, either, close_frame}
use Rattle.jam_meaning.specs.Levels.{Levels}
use Rattle.jam_meaning.specs.Params.{call_binds}
use Rattle.jam_meaning.specs.Conds.{is_true}
use Rattle.jam_meaning.specs.RuleCalls.{kept_if, value_of, transformed, filtered, native_call, acted, bound_call, called}
use Rattle.jam_effects.specs.declared.at.At.{At}
use Rattle.jam_effects.specs.declared.flow.Flow.{Flow as Way}
use Rattle.jam_effects.specs.declared.flow.Flow.TheVariants as ways
use Rattle.jam_effects.specs.declared.fault.EvalFault.{EvalFault}
use Rattle.jam_effects.specs.declared.fault.EvalFault.TheVariants as fault
use Rattle.jam_effects.specs.Causes.{IsFault}
use Rattle.jam_effects.specs.Spots.{spot_of}
use Rattle.jam_effects.specs.Answers.{IsAnswered}
use Rattle.jam_effects.specs.AskedNatives.{native_step_at, record_call_at}
use Rattle.b2_host.specs.Outside.{Outside}
use Rattle.jam_effects.specs.declared.turns.Turns.{Turns}
use Rattle.jam_effects.specs.Machines.{Machine, machine, state_of, IsSettingOf}
use Rattle.jam_effects.specs.Does.{Agrees, DoesInCall, Does, Leads}
use Rattle.jam_effects.specs.Views.{value, truth, step, flow_of, IsValueOf}
use Rattle.jam_interp.specs.FunctionParts.{call_at, call_head_at, applied_at, ruled_at, unruled_at, run_rule_at, stepped_at, transformed_at, filtered_at, transformed_rest, filtered_rest, bracket_call_at, stmts_at, deep, body_at}
use Rattle.jam_meaning.proofs.RecordsOnlyGrow.{then_begins, same_begins, either_begins, joined_begins, value_begins, acted_begins, native_begins, stepped_begins, transformed_begins, filtered_begins}
use Rattle.jam_effects.proofs.OrderedCallsDoAsDefined.{err_then, err_then_in, ok_then, led, led_in, led_same, leads_then, leads_same, value_now, fault_now, weaker, in_call_then}
use Rattle.jam_effects.proofs.OneTurnLessOrFault.{turn_call, turn_faults, turned}
use Rattle.jam_interp.proofs.OneLevelLessOrFault.{one_less, no_call, no_bracket_call}
use Rattle.jam_effects.proofs.NativesAreAskedFirst.{native_is, acted_is}
use Rattle.jam_interp.proofs.ArgumentsDoAsDefined.{does_by, join_does}
use Rattle.jam_effects.proofs.FramesCloseEvenAfterFaults.{bound_does}

kept_more : (b : Bool) (item : Text) (kept more : Value) → kept ++ kept_if b item more ≡ (kept ++ kept_if b item []) ++ more
kept_more true item kept more = sym (append_assoc kept (item ∷ []) more)
kept_more false item kept more = ap (λ l. l ++ more) (sym (append-nil kept))

module _ {R : Type 0} where
  in_call_by : {A B : Type 0} (view : A → B) (what other : Setting R → State R → Outcome R B) (a b : Machine R) (result : Result A EvalFault)
      → ((setting : Setting R) → IsSettingOf setting a → what setting (state_of a) ≡ other setting (state_of a)) → DoesInCall view other a b result → DoesInCall view what a b result
  in_call_by view what other a b result e h = record {
    told = λ setting is refuses. subst (λ o. Agrees setting view result o (state_of b)) (sym (e setting is)) (h.told setting is refuses);
    stays = h.stays;
    counts = h.counts;
    whole = h.whole;
  }

  pub gives_in_call : {A B : Type 0} (view : A → B) (what : Setting R → State R → Outcome R B) (a b : Machine R) (v w : A) → v ≡ w → DoesInCall view what a b (Ok w) → DoesInCall view what a b (Ok v)
  gives_in_call view what a b v w e h = subst (λ u. DoesInCall view what a b (Ok u)) (sym e) h

  -- ---- a call takes its turn, and opens its level

  pub call_no_turn : (name : Text) (given : List Value) (at : At) (m : Machine R) (e : EvalFault) → m.left ≡ 0 → IsFault (spot_of at) (turns m.budget) e → Does value (call_at name given at) m m (Err e)
  call_no_turn name given at m e none h = turn_faults value (spot_of at) (λ setting s. (deep at setting).call name given (spot_of at) s) m e none h

  pub call_deep : (name : Text) (given : List Value) (at : At) (m : Machine R) (left : ℕ) (e : EvalFault) → m.left ≡ left + 1 → at.levels ≡ 0 → IsFault (spot_of at) depth e → Does value (call_at name given at) m (record m { left = left }) (Err e)
  call_deep name given at m left e turn none h =
      turn_call value (spot_of at) (λ setting s. (deep at setting).call name given (spot_of at) s) m (record m { left = left }) left (Err e) turn
      (weaker value (λ setting s. (deep at setting).call name given (spot_of at) s) (record m { left = left }) (record m { left = left }) (Err e)
      (fault_now value (λ setting s. (deep at setting).call name given (spot_of at) s) (record m { left = left }) (spot_of at) depth e h refl
      (λ setting is. no_call setting at.levels name given (spot_of at) (state_of (record m { left = left })) none)))

  pub call_opens : (name : Text) (given : List Value) (at within_ : At) (m n : Machine R) (left : ℕ) (result : Result Value EvalFault) → m.left ≡ left + 1 → 0 < at.levels → within_ ≡ record at { levels = at.levels - 1 }
      → DoesInCall value (applied_at name given within_) (record m { left = left }) n result → Does value (call_at name given at) m n result
  call_opens name given at within_ m n left result turn some is h =
      turn_call value (spot_of at) (λ setting s. (deep at setting).call name given (spot_of at) s) m n left result turn
      (in_call_by value (λ setting s. (deep at setting).call name given (spot_of at) s) (applied_at name given (record at { levels = at.levels - 1 })) (record m { left = left }) n result
      (λ setting right. ap (λ (d : Levels R). d.call name given (spot_of at) (state_of (record m { left = left }))) (one_less setting at.levels some))
      (subst (λ p. DoesInCall value (applied_at name given p) (record m { left = left }) n result) is h))

  pub call_turned : (name : Text) (given : List Value) (at within_ : At) (m t n : Machine R) (result : Result Value EvalFault) → m.left ≡ t.left + 1 → t.budget ≡ m.budget → t ≡ record m { left = t.left; budget = t.budget }
      → 0 < at.levels → within_ ≡ record at { levels = at.levels - 1 } → DoesInCall value (applied_at name given within_) t n result → Does value (call_at name given at) m n result
  call_turned name given at within_ m t n result turn same is some inside h =
      call_opens name given at within_ m n t.left result turn some inside (subst (λ k. DoesInCall value (applied_at name given within_) k n result) (turned m t same is) h)

  -- the same by what taking a turn promises
  pub call_ends_early : (name : Text) (given : List Value) (at : At) (ws : Worlds) (before after : Turns) (kept : R) (meaning : Option (Meaning R)) (outside : Outside) (e : EvalFault)
      → after ≡ before → before.left ≡ 0 → IsFault (spot_of at) (turns before.budget) e → Does value (call_at name given at) (machine ws before kept meaning outside) (machine ws after kept meaning outside) (Err e)
  call_ends_early name given at ws before after kept meaning outside e same none h =
      subst (λ t. Does value (call_at name given at) (machine ws before kept meaning outside) (machine ws t kept meaning outside) (Err e)) (sym same)
      (call_no_turn name given at (machine ws before kept meaning outside) e none h)

  pub call_ends_deep : (name : Text) (given : List Value) (at : At) (ws : Worlds) (before after : Turns) (kept : R) (meaning : Option (Meaning R)) (outside : Outside) (e : EvalFault)
      → before.left ≡ after.left + 1 → after.budget ≡ before.budget → at.levels ≡ 0 → IsFault (spot_of at) depth e → Does value (call_at name given at) (machine ws before kept meaning outside) (machine ws after kept meaning outside) (Err e)
  call_ends_deep name given at ws before after kept meaning outside e turn budget none h =
      subst (λ m. Does value (call_at name given at) (machine ws before kept meaning outside) m (Err e)) (sym (turned (machine ws before kept meaning outside) (machine ws after kept meaning outside) budget refl))
      (call_deep name given at (machine ws before kept meaning outside) after.left e turn none h)

  -- ---- a rule, or none

  pub applied_rule : (rule : Rule) (name : Text) (given : List Value) (at : At) (a b : Machine R) (result : Result Value EvalFault) → find_rule name a.worlds.now ≡ Some rule → DoesInCall value (ruled_at rule name given at) a b result → DoesInCall value (applied_at name given at) a b result
  applied_rule rule name given at a b result is h =
      in_call_by value (applied_at name given at) (ruled_at rule name given at) a b result
      (λ setting right. ap (λ found. called setting (deep at setting) (body_at at setting) found name given (spot_of at) (state_of a)) is) h

  pub applied_none : (name : Text) (given : List Value) (at : At) (a b : Machine R) (result : Result Value EvalFault) → find_rule name a.worlds.now ≡ None → DoesInCall value (unruled_at name given at) a b result → DoesInCall value (applied_at name given at) a b result
  applied_none name given at a b result is h =
      in_call_by value (applied_at name given at) (unruled_at name given at) a b result
      (λ setting right. ap (λ found. called setting (deep at setting) (body_at at setting) found name given (spot_of at) (state_of a)) is) h

  pub ruled_fails : (rule : Rule) (name : Text) (given : List Value) (at : At) (a b : Machine R) (e : EvalFault) → Does value (run_rule_at rule name given at) a b (Err e) → DoesInCall value (ruled_at rule name given at) a b (Err e)
  ruled_fails rule name given at a b e h =
      weaker value (ruled_at rule name given at) a b (Err e)
      (err_then value value (run_rule_at rule name given at) (λ setting v s. acted setting (deep at setting) (body_at at setting) name given (spot_of at) s (λ noted. λ s₁. gives v s₁)) a b e
      (λ setting v later. acted_begins setting at.levels name given (spot_of at) later _ (λ noted last. same_begins setting v last)) h)

  -- what follows the rule: natives are told of the call, in which nothing is refused
  after_ruled : (v : Value) (name : Text) (given : List Value) (at : At) (b : Machine R) → (setting : Setting R) → acted setting (deep at setting) (body_at at setting) name given (spot_of at) (state_of b) (λ noted. λ s₁. gives v s₁) ≡ then_do (record_call_at name given at setting (state_of b)) (λ noted. λ s₁. gives v s₁)
  after_ruled v name given at b setting = acted_is setting (deep at setting) (body_at at setting) name given at (state_of b) (λ noted. λ s₁. gives v s₁)

  ruled_leads : (rule : Rule) (name : Text) (given : List Value) (at : At) (a b : Machine R) (v : Value) → Does value (run_rule_at rule name given at) a b (Ok v) → Leads (ruled_at rule name given at) (λ setting s. then_do (record_call_at name given at setting s) (λ noted. λ s₁. gives v s₁)) a b
  ruled_leads rule name given at a b v h =
      leads_then (ruled_at rule name given at) (λ setting s. acted setting (deep at setting) (body_at at setting) name given (spot_of at) s (λ noted. λ s₁. gives v s₁)) (λ setting s. then_do (record_call_at name given at setting s) (λ noted. λ s₁. gives v s₁)) a b b
      (ok_then value (run_rule_at rule name given at) (λ setting u s. acted setting (deep at setting) (body_at at setting) name given (spot_of at) s (λ noted. λ s₁. gives u s₁)) a b v h)
      (leads_same (λ setting s. acted setting (deep at setting) (body_at at setting) name given (spot_of at) s (λ noted. λ s₁. gives v s₁)) (λ setting s. then_do (record_call_at name given at setting s) (λ noted. λ s₁. gives v s₁)) b (λ setting is. after_ruled v name given at b setting))

  pub ruled_untold : (rule : Rule) (name : Text) (given : List Value) (at : At) (a b c : Machine R) (v : Value) (e : EvalFault) → Does value (run_rule_at rule name given at) a b (Ok v) → Does truth (record_call_at name given at) b c (Err e) → DoesInCall value (ruled_at rule name given at) a c (Err e)
  ruled_untold rule name given at a b c v e one two =
      led_in value (ruled_at rule name given at) (λ setting s. then_do (record_call_at name given at setting s) (λ noted. λ s₁. gives v s₁)) a b c (Err e) (ruled_leads rule name given at a b v one)
      (err_then truth value (record_call_at name given at) (λ setting noted s₁. gives v s₁) b c e (λ setting noted later. same_begins setting v later) two)

  pub ruled_ends : (rule : Rule) (name : Text) (given : List Value) (at : At) (a b c : Machine R) (v : Value) (noted : Bool) → Does value (run_rule_at rule name given at) a b (Ok v) → Does truth (record_call_at name given at) b c (Ok noted) → DoesInCall value (ruled_at rule name given at) a c (Ok v)
  ruled_ends rule name given at a b c v noted one two =
      led_in value (ruled_at rule name given at) (λ setting s. then_do (record_call_at name given at setting s) (λ n. λ s₁. gives v s₁)) a b c (Ok v) (ruled_leads rule name given at a b v one)
      (led value (λ setting s. then_do (record_call_at name given at setting s) (λ n. λ s₁. gives v s₁)) (λ setting s. gives v s) b c c (Ok v)
      (ok_then truth (record_call_at name given at) (λ setting n s₁. gives v s₁) b c noted two)
      (value_now value (λ setting s. gives v s) c v (λ setting is. refl)))

  -- ---- a rule that runs

  pub rule_arity : (rule : Rule) (name : Text) (given : List Value) (at : At) (m : Machine R) (e : EvalFault) → call_binds rule.params given ≡ None → IsFault (spot_of at) (arity name) e → Does value (run_rule_at rule name given at) m m (Err e)
  rule_arity rule name given at m e none h =
      fault_now value (run_rule_at rule name given at) m (spot_of at) (arity name) e h refl
      (λ setting is. ap (λ bs. bound_call setting (deep at setting) (body_at at setting) rule name bs (spot_of at) (state_of m)) none)

  -- ---- the value of a rule whose statements ended

  value_agrees : (setting : Setting R) (e : EvalFault) (o : Outcome R Flow) (s : State R) → Agrees setting flow_of (Err e) o s → Agrees setting value (Err e) (value_of o) s
  value_agrees setting fault.Host o s h = value_begins setting o s h
  value_agrees setting fault.OutOfMemory o s h = tt
  value_agrees setting (fault.At path line why) o s h = ap value_of h

  pub value_does : (what : Setting R → State R → Outcome R Flow) (a b : Machine R) (ended : Result Way EvalFault) (result : Result Value EvalFault) → IsValueOf ended result
      → Does flow_of what a b ended → Does value (λ setting s. value_of (what setting s)) a b result
  value_does what a b (Ok ways.GoesOn) result is h =
      subst (λ r. Does value (λ setting s. value_of (what setting s)) a b r) (sym is) (record { told = λ setting right none. ap value_of (h.told setting right none); stays = h.stays; counts = h.counts; whole = tt; took = h.took })
  value_does what a b (Ok (ways.Returns v)) result is h =
      subst (λ r. Does value (λ setting s. value_of (what setting s)) a b r) (sym is) (record { told = λ setting right none. ap value_of (h.told setting right none); stays = h.stays; counts = h.counts; whole = tt; took = h.took })
  value_does what a b (Err e) result is h =
      subst (λ r. Does value (λ setting s. value_of (what setting s)) a b r) (sym is) (record {
        told = λ setting right refuses. value_agrees setting e (what setting (state_of a)) (state_of b) (h.told setting right refuses);
        stays = h.stays;
        counts = h.counts;
        whole = h.whole;
        took = h.took;
      })

  -- a rule whose frame is opened, whose statements run, and whose frame is closed
  pub rule_runs : (rule : Rule) (name : Text) (given : List Value) (at : At) (bs : List Binding) (list : List Stmt) (m : Machine R) (opened : Worlds) (n : Machine R) (closed : Worlds) (ended : Result Way EvalFault) (result : Result Value EvalFault)
      → call_binds rule.params given ≡ Some bs → rule.block ≡ stmts_tree list → opened ≡ call_entered rule.home bs m.worlds
      → Does flow_of (stmts_at list rule.path at.levels) (record m { worlds = opened }) n ended → closed ≡ rescoped leave n.worlds → IsValueOf ended result
      → Does value (run_rule_at rule name given at) m (record n { worlds = closed }) result
  rule_runs rule name given at bs list m opened n closed ended result binds tree is h e ends =
      does_by value (run_rule_at rule name given at)
      (λ setting s. value_of (close_frame (stmts_at list rule.path at.levels setting (with_scopes (bind_each bs) (with_scopes (enter_call rule.home) s))))) m (record n { worlds = closed }) result
      (λ setting right. ap (λ b. bound_call setting (deep at setting) (body_at at setting) rule name b (spot_of at) (state_of m)) binds
      ∙ ap (λ trees. value_of (close_frame (stmts setting (deep at setting) trees rule.path (with_scopes (bind_each bs) (with_scopes (enter_call rule.home) (state_of m)))))) tree)
      (value_does (λ setting s. close_frame (stmts_at list rule.path at.levels setting (with_scopes (bind_each bs) (with_scopes (enter_call rule.home) s)))) m (record n { worlds = closed }) ended result ends
      (bound_does flow_of (stmts_at list rule.path at.levels) m (enter_call rule.home) bs opened n closed ended (λ s. refl) is h e))

  -- ---- a name that no rule has

  abbrev pub not_noted : Bool → Text → List Value → At → Setting R → State R → Outcome R Value
  not_noted noted name given at setting s = either noted (λ s₂. gives [] s₂) (λ s₂. native_call setting (deep at setting) (body_at at setting) name given (spot_of at) s₂) s

  unruled_is : (name : Text) (given : List Value) (at : At) (a : Machine R) → (setting : Setting R) → IsSettingOf setting a
      → unruled_at name given at setting (state_of a) ≡ then_do (record_call_at name given at setting (state_of a)) (λ noted. λ s₁. not_noted noted name given at setting s₁)
  unruled_is name given at a setting right = acted_is setting (deep at setting) (body_at at setting) name given at (state_of a) (λ noted. λ s₁. not_noted noted name given at setting s₁)

  pub unruled_untold : (name : Text) (given : List Value) (at : At) (a b : Machine R) (e : EvalFault) → Does truth (record_call_at name given at) a b (Err e) → DoesInCall value (unruled_at name given at) a b (Err e)
  unruled_untold name given at a b e h =
      weaker value (unruled_at name given at) a b (Err e)
      (does_by value (unruled_at name given at) (λ setting s. then_do (record_call_at name given at setting s) (λ noted. λ s₁. not_noted noted name given at setting s₁)) a b (Err e) (unruled_is name given at a)
      (err_then truth value (record_call_at name given at) (λ setting noted s₁. not_noted noted name given at setting s₁) a b e
      (λ setting noted later. either_begins setting noted _ _ later (λ last. same_begins setting {A = Value} [] last) (λ last. native_begins setting at.levels name given (spot_of at) last)) h))

  unruled_leads : (name : Text) (given : List Value) (at : At) (a b : Machine R) (noted : Bool) → Does truth (record_call_at name given at) a b (Ok noted) → Leads (unruled_at name given at) (not_noted noted name given at) a b
  unruled_leads name given at a b noted h =
      leads_then (unruled_at name given at) (λ setting s. then_do (record_call_at name given at setting s) (λ n. λ s₁. not_noted n name given at setting s₁)) (not_noted noted name given at) a a b
      (leads_same (unruled_at name given at) (λ setting s. then_do (record_call_at name given at setting s) (λ n. λ s₁. not_noted n name given at setting s₁)) a (unruled_is name given at a))
      (ok_then truth (record_call_at name given at) (λ setting n s₁. not_noted n name given at setting s₁) a b noted h)

  pub unruled_recorded : (name : Text) (given : List Value) (at : At) (a b : Machine R) (noted : Bool) → noted ≡ true → Does truth (record_call_at name given at) a b (Ok noted) → DoesInCall value (unruled_at name given at) a b (Ok [])
  unruled_recorded name given at a b noted yes_ h =
      led_in value (unruled_at name given at) (not_noted noted name given at) a b b (Ok []) (unruled_leads name given at a b noted h)
      (value_now value (not_noted noted name given at) b [] (λ setting right. ap (λ n. not_noted n name given at setting (state_of b)) yes_))

  asks : (name : Text) (given : List Value) (at : At) (a b : Machine R) (noted : Bool) → noted ≡ false → Does truth (record_call_at name given at) a b (Ok noted)
      → Leads (unruled_at name given at) (λ setting s. then_do (native_step_at name given at setting s) (λ st. λ s₁. stepped_at st name at setting s₁)) a b
  asks name given at a b noted not_ h =
      leads_then (unruled_at name given at) (not_noted noted name given at) (λ setting s. then_do (native_step_at name given at setting s) (λ st. λ s₁. stepped_at st name at setting s₁)) a b b (unruled_leads name given at a b noted h)
      (leads_same (not_noted noted name given at) (λ setting s. then_do (native_step_at name given at setting s) (λ st. λ s₁. stepped_at st name at setting s₁)) b
      (λ setting right. ap (λ n. not_noted n name given at setting (state_of b)) not_ ∙ native_is setting (deep at setting) (body_at at setting) name given at (state_of b)))

  pub unruled_fails : (name : Text) (given : List Value) (at : At) (a b c : Machine R) (noted : Bool) (e : EvalFault) → noted ≡ false → b.left ≡ a.left → Does truth (record_call_at name given at) a b (Ok noted)
      → DoesInCall step (native_step_at name given at) b c (Err e) → DoesInCall value (unruled_at name given at) a c (Err e)
  unruled_fails name given at a b c noted e not_ same one two =
      led_same value (unruled_at name given at) (λ setting s. then_do (native_step_at name given at setting s) (λ st. λ s₁. stepped_at st name at setting s₁)) a b c (Err e) same (asks name given at a b noted not_ one)
      (err_then_in step value (native_step_at name given at) (λ setting st s₁. stepped_at st name at setting s₁) b c e
      (λ setting st later. stepped_begins setting at.levels name (spot_of at) st later) two)

  pub unruled_steps : (name : Text) (given : List Value) (at : At) (a b c d : Machine R) (noted : Bool) (st : NativeStep) (result : Result Value EvalFault) → noted ≡ false → b.left ≡ a.left → Does truth (record_call_at name given at) a b (Ok noted)
      → DoesInCall step (native_step_at name given at) b c (Ok st) → Does value (stepped_at st name at) c d result → DoesInCall value (unruled_at name given at) a d result
  unruled_steps name given at a b c d noted st result not_ same one two three =
      led_same value (unruled_at name given at) (λ setting s. then_do (native_step_at name given at setting s) (λ t. λ s₁. stepped_at t name at setting s₁)) a b d result same (asks name given at a b noted not_ one)
      (in_call_then step value (native_step_at name given at) (λ setting t s₁. stepped_at t name at setting s₁) b c d st result two three)

  -- ---- what a native rule asks for

  pub stepped_unknown : (name : Text) (at : At) (m : Machine R) (e : EvalFault) → IsFault (spot_of at) (unknown_rule name) e → Does value (stepped_at steps.Unknown name at) m m (Err e)
  stepped_unknown name at m e h = fault_now value (stepped_at steps.Unknown name at) m (spot_of at) (unknown_rule name) e h refl (λ setting is. refl)

  pub stepped_value : (v : Value) (name : Text) (at : At) (m : Machine R) → Does value (stepped_at (steps.Value v) name at) m m (Ok v)
  stepped_value v name at m = value_now value (stepped_at (steps.Value v) name at) m v (λ setting is. refl)

  pub stepped_exit : (text : Text) (name : Text) (at : At) (m : Machine R) (e : EvalFault) → IsFault (spot_of at) (exit text) e → Does value (stepped_at (steps.Exit text) name at) m m (Err e)
  stepped_exit text name at m e h = fault_now value (stepped_at (steps.Exit text) name at) m (spot_of at) (exit text) e h refl (λ setting is. refl)

  pub stepped_filters : (st : NativeStep) (rule items : Value) (filter : Bool) (rules texts : Value) (name : Text) (at : At) (a b : Machine R) (result : Result Value EvalFault)
      → st ≡ steps.Each rule items filter → filter ≡ true → rules ≡ rule → texts ≡ items → Does value (filtered_at rules texts at) a b result → Does value (stepped_at st name at) a b result
  stepped_filters st rule items filter rules texts name at a b result is yes_ same equal h =
      does_by value (stepped_at st name at) (filtered_at rules texts at) a b result
      (λ setting right. ap (λ s. stepped_at s name at setting (state_of a)) is ∙ ap (λ f. stepped_at (steps.Each rule items f) name at setting (state_of a)) yes_
      ∙ ap (λ r. filtered_at r items at setting (state_of a)) (sym same) ∙ ap (λ i. filtered_at rules i at setting (state_of a)) (sym equal)) h

  pub stepped_transforms : (st : NativeStep) (rule items : Value) (filter : Bool) (rules texts : Value) (name : Text) (at : At) (a b : Machine R) (result : Result Value EvalFault)
      → st ≡ steps.Each rule items filter → filter ≡ false → rules ≡ rule → texts ≡ items → Does value (transformed_at rules texts at) a b result → Does value (stepped_at st name at) a b result
  stepped_transforms st rule items filter rules texts name at a b result is not_ same equal h =
      does_by value (stepped_at st name at) (transformed_at rules texts at) a b result
      (λ setting right. ap (λ s. stepped_at s name at setting (state_of a)) is ∙ ap (λ f. stepped_at (steps.Each rule items f) name at setting (state_of a)) not_
      ∙ ap (λ r. transformed_at r items at setting (state_of a)) (sym same) ∙ ap (λ i. transformed_at rules i at setting (state_of a)) (sym equal)) h

  -- ---- a call of a rule for one item, in brackets

  pub bracket_call_deep : (rule : Value) (item : Text) (at : At) (m : Machine R) (e : EvalFault) → at.levels ≡ 0 → IsFault (spot_of at) depth e → Does value (bracket_call_at rule item at) m m (Err e)
  bracket_call_deep rule item at m e none h =
      fault_now value (bracket_call_at rule item at) m (spot_of at) depth e h refl (λ setting is. no_bracket_call setting at.levels rule (item ∷ []) (spot_of at) (state_of m) none)

  pub bracket_call_opens : (rule : Value) (item : Text) (at within_ : At) (a b : Machine R) (result : Result Value EvalFault) → 0 < at.levels → within_ ≡ record at { levels = at.levels - 1 }
      → Does value (call_head_at rule ((item ∷ []) ∷ []) within_) a b result → Does value (bracket_call_at rule item at) a b result
  bracket_call_opens rule item at within_ a b result some is h =
      does_by value (bracket_call_at rule item at) (call_head_at rule ((item ∷ []) ∷ []) (record at { levels = at.levels - 1 })) a b result
      (λ setting right. ap (λ (d : Levels R). d.bracket_call rule (item ∷ []) (spot_of at) (state_of a)) (one_less setting at.levels some))
      (subst (λ p. Does value (call_head_at rule ((item ∷ []) ∷ []) p) a b result) is h)

  -- ---- the values of calls, one for each item, joined

  abbrev pub after_item : Value → Value → Value → At → Setting R → Value → State R → Outcome R Value
  after_item rule found rest at setting v s = then_do (joined found v (spot_of at) s) (λ more. λ s₁. transformed setting (deep at setting) (body_at at setting) rule more rest (spot_of at) s₁)

  pub transformed_fails : (what : Setting R → State R → Outcome R Value) (rule found xs : Value) (item : Text) (rest : Value) (at : At) (a b c : Machine R) (e : EvalFault)
      → xs ≡ item ∷ rest → Leads what (transformed_rest rule found xs at) a b → Does value (bracket_call_at rule item at) b c (Err e) → Does value what a c (Err e)
  transformed_fails what rule found xs item rest at a b c e is leads h =
      led value what (transformed_rest rule found (item ∷ rest) at) a b c (Err e) (subst (λ l. Leads what (transformed_rest rule found l at) a b) is leads)
      (err_then value value (bracket_call_at rule item at) (after_item rule found rest at) b c e
      (λ setting v later. then_begins setting _ _ later (joined_begins setting found v (spot_of at) later) (λ more last. transformed_begins setting at.levels rule more rest (spot_of at) last)) h)

  pub transformed_called : (what : Setting R → State R → Outcome R Value) (rule found xs : Value) (item : Text) (rest : Value) (at : At) (a b c : Machine R) (v : Value)
      → xs ≡ item ∷ rest → Leads what (transformed_rest rule found xs at) a b → Does value (bracket_call_at rule item at) b c (Ok v) → Leads what (λ setting. after_item rule found rest at setting v) a c
  transformed_called what rule found xs item rest at a b c v is leads h =
      leads_then what (transformed_rest rule found (item ∷ rest) at) (λ setting. after_item rule found rest at setting v) a b c (subst (λ l. Leads what (transformed_rest rule found l at) a b) is leads)
      (ok_then value (bracket_call_at rule item at) (after_item rule found rest at) b c v h)

  pub transformed_large : {U : Type 0} (what : Setting R → State R → Outcome R Value) (rule found v rest : Value) (at : At) (a b : Machine R) (view : U → Value) (e : EvalFault)
      → Leads what (λ setting. after_item rule found rest at setting v) a b → IsAnswered view (within (found ++ v)) (spot_of at) (Err e) → Does value what a b (Err e)
  transformed_large what rule found v rest at a b view e leads h =
      led value what (λ setting. after_item rule found rest at setting v) a b b (Err e) leads
      (err_then view value (λ setting s. joined found v (spot_of at) s) (λ setting more s₁. transformed setting (deep at setting) (body_at at setting) rule more rest (spot_of at) s₁) b b e
      (λ setting more later. transformed_begins setting at.levels rule more rest (spot_of at) later) (join_does view found v (spot_of at) b (Err e) h))

  pub transformed_goes : {U : Type 0} (what : Setting R → State R → Outcome R Value) (rule found v rest : Value) (at : At) (a b : Machine R) (view : U → Value) (u : U)
      → Leads what (λ setting. after_item rule found rest at setting v) a b → IsAnswered view (within (found ++ v)) (spot_of at) (Ok u) → Leads what (transformed_rest rule (view u) rest at) a b
  transformed_goes what rule found v rest at a b view u leads h =
      leads_then what (λ setting. after_item rule found rest at setting v) (transformed_rest rule (view u) rest at) a b b leads
      (ok_then view (λ setting s. joined found v (spot_of at) s) (λ setting more s₁. transformed setting (deep at setting) (body_at at setting) rule more rest (spot_of at) s₁) b b u (join_does view found v (spot_of at) b (Ok u) h))

  pub transformed_end : (what : Setting R → State R → Outcome R Value) (rule found xs : Value) (at : At) (a b : Machine R) → xs ≡ [] → Leads what (transformed_rest rule found xs at) a b → Does value what a b (Ok found)
  transformed_end what rule found xs at a b e leads =
      led value what (transformed_rest rule found [] at) a b b (Ok found) (subst (λ l. Leads what (transformed_rest rule found l at) a b) e leads) (value_now value (transformed_rest rule found [] at) b found (λ setting is. refl))

  -- ---- the items for which a call's value is true

  abbrev pub if_true : Value → Text → Value → Value → At → Setting R → Value → State R → Outcome R Value
  if_true rule item kept rest at setting v s =
      then_do (then_do (filtered setting (deep at setting) (body_at at setting) rule rest (spot_of at) s) (λ more. λ s₁. gives (kept_if (is_true v) item more) s₁)) (λ more. λ s₁. gives (kept ++ more) s₁)

  pub filtered_fails : (what : Setting R → State R → Outcome R Value) (rule kept xs : Value) (item : Text) (rest : Value) (at : At) (a b c : Machine R) (e : EvalFault)
      → xs ≡ item ∷ rest → Leads what (filtered_rest rule kept xs at) a b → Does value (bracket_call_at rule item at) b c (Err e) → Does value what a c (Err e)
  filtered_fails what rule kept xs item rest at a b c e is leads h =
      led value what (filtered_rest rule kept (item ∷ rest) at) a b c (Err e) (subst (λ l. Leads what (filtered_rest rule kept l at) a b) is leads)
      (err_then value value (λ setting s. filtered setting (deep at setting) (body_at at setting) rule (item ∷ rest) (spot_of at) s) (λ setting more s₁. gives (kept ++ more) s₁) b c e
      (λ setting more later. same_begins setting (kept ++ more) later)
      (err_then value value (bracket_call_at rule item at) (λ setting v s. then_do (filtered setting (deep at setting) (body_at at setting) rule rest (spot_of at) s) (λ more. λ s₁. gives (kept_if (is_true v) item more) s₁)) b c e
      (λ setting v later. then_begins setting _ _ later (filtered_begins setting at.levels rule rest (spot_of at) later) (λ more last. same_begins setting (kept_if (is_true v) item more) last)) h))

  filtered_on : (rule kept : Value) (item : Text) (rest : Value) (at : At) (v : Value) (setting : Setting R) (s : State R)
      → if_true rule item kept rest at setting v s ≡ filtered_rest rule (kept ++ kept_if (is_true v) item []) rest at setting s
  filtered_on rule kept item rest at v setting s = go (filtered setting (deep at setting) (body_at at setting) rule rest (spot_of at) s)
    where
      go : (o : Outcome R Value) → then_do (then_do o (λ more. λ s₁. gives (kept_if (is_true v) item more) s₁)) (λ more. λ s₁. gives (kept ++ more) s₁) ≡ then_do o (λ more. λ s₁. gives ((kept ++ kept_if (is_true v) item []) ++ more) s₁)
      go (gives more s₁) = ap (λ l. gives l s₁) (kept_more (is_true v) item kept more)
      go (faults f s₁) = refl

  pub filtered_goes : (what : Setting R → State R → Outcome R Value) (rule kept new xs : Value) (item : Text) (rest : Value) (at : At) (a b c : Machine R) (v : Value)
      → xs ≡ item ∷ rest → new ≡ kept ++ kept_if (is_true v) item [] → Leads what (filtered_rest rule kept xs at) a b → Does value (bracket_call_at rule item at) b c (Ok v) → Leads what (filtered_rest rule new rest at) a c
  filtered_goes what rule kept new xs item rest at a b c v is grown leads h =
      (let one_done = ok_then value (bracket_call_at rule item at) (λ setting u s. then_do (filtered setting (deep at setting) (body_at at setting) rule rest (spot_of at) s) (λ more. λ s₁. gives (kept_if (is_true u) item more) s₁)) b c v h in
      subst (λ l. Leads what (filtered_rest rule l rest at) a c) (sym grown)
      (leads_then what (filtered_rest rule kept (item ∷ rest) at) (filtered_rest rule (kept ++ kept_if (is_true v) item []) rest at) a b c (subst (λ l. Leads what (filtered_rest rule kept l at) a b) is leads) (record {
        told = λ setting right none. ap (λ o. then_do o (λ more. λ s₁. gives (kept ++ more) s₁)) (one_done.told setting right none) ∙ filtered_on rule kept item rest at v setting (state_of c);
        stays = one_done.stays;
        counts = one_done.counts;
      })))

  pub filtered_begin : (rule xs : Value) (at : At) (m : Machine R) → Leads (filtered_at rule xs at) (filtered_rest rule [] xs at) m m
  filtered_begin rule xs at m = leads_same (filtered_at rule xs at) (filtered_rest rule [] xs at) m (λ setting is. go (filtered_at rule xs at setting (state_of m)))
    where
      go : (o : Outcome R Value) → o ≡ then_do o (λ more. λ s₁. gives ([] ++ more) s₁)
      go (gives more s₁) = refl
      go (faults f s₁) = refl

  pub filtered_end : (what : Setting R → State R → Outcome R Value) (rule kept xs : Value) (at : At) (a b : Machine R) → xs ≡ [] → Leads what (filtered_rest rule kept xs at) a b → Does value what a b (Ok kept)
  filtered_end what rule kept xs at a b e leads =
      led value what (filtered_rest rule kept [] at) a b b (Ok kept) (subst (λ l. Leads what (filtered_rest rule kept l at) a b) e leads)
      (value_now value (filtered_rest rule kept [] at) b kept (λ setting is. ap (λ l. gives l (state_of b)) (append-nil kept)))
