-- What the functions on arguments and lists do, exit by exit.
use Rattle.std.proofs.Common.{◌≡◌, ◌<◌, ◌-◌, List, [], ◌∷◌, ◌++◌, Option, Some, None, Result, Ok, Err, refl, sym, ap, ◌∙◌, subst, append_assoc}
use Rattle.std.proofs.lemmas.List.{append-nil}
use Rattle.std.specs.declared.vec.Vec.{Vec}
use Rattle.std.specs.declared.alloc.Global.{Global}
use Rattle.b2_base.specs.declared.expand_fault.ExpandFault.{ExpandFault}
use Rattle.jam_expand.specs.Limits.{within}
use Rattle.jam_expand.specs.Expansions.{expansion}
use Rattle.jam_grammar.specs.declared.tree.Arg.{Arg}
use Rattle.jam_grammar.specs.declared.tree.Inner.{Inner}
use Rattle.jam_grammar.specs.Trees.{InnerTree, Word, Bracket, NoArgs, ArgAnd, arg_tree, inner_tree, args_tree, lists_tree}
use Rattle.jam_journal.specs.Tables.{Text}
use Rattle.jam_journal.specs.Scopes.{Value, look}
use Rattle.jam_meaning.specs.Faults.{Spot, depth}
use Rattle.jam_meaning.specs.States.{State}
use Rattle.jam_meaning.specs.Settings.{Setting}
use Rattle.jam_meaning.specs.Outcomes.{Outcome, gives, faults, then_do, expanded, joined}
use Rattle.jam_meaning.specs.Levels.{Levels}
use Rattle.jam_meaning.specs.Args.{arg, args, args_after, lists, call_head, inner}
use Rattle.jam_effects.specs.declared.at.At.{At}
use Rattle.jam_effects.specs.declared.fault.EvalFault.{EvalFault}
use Rattle.jam_effects.specs.Causes.{IsFault}
use Rattle.jam_effects.specs.Spots.{spot_of}
use Rattle.jam_effects.specs.Answers.{IsAnswered, named}
use Rattle.jam_effects.specs.Machines.{Machine, state_of, IsSettingOf}
use Rattle.jam_effects.specs.Does.{Agrees, Does, Leads}
use Rattle.jam_effects.specs.Views.{value, values, What}
use Rattle.jam_interp.specs.FunctionParts.{arg_at, bracket_at, inner_at, args_at, args_rest, lists_at, lists_rest, call_of_at, call_head_at, call_at, deep}
use Rattle.jam_meaning.specs.Kept.{Begins}
use Rattle.jam_meaning.proofs.RecordsOnlyGrow.{then_begins, same_begins, joined_begins, args_after_begins, lists_begins, call_begins, call_head_begins}
use Rattle.jam_effects.proofs.OrderedCallsDoAsDefined.{err_then, ok_then, led, leads_then, leads_same, value_now, fault_now}
use Rattle.jam_effects.proofs.AnswersDoAsDefined.{answer_at, answered, expanded_is, head_is, called_or}
use Rattle.jam_interp.proofs.ExpansionsAreSmall.{expansion_small}
use Rattle.jam_interp.proofs.OneLevelLessOrFault.{one_less, no_bracket}

module _ {R : Type 0} where
  -- the same by an equal definition
  pub does_by : {A B : Type 0} (view : A → B) (what other : Setting R → State R → Outcome R B) (a b : Machine R) (result : Result A EvalFault)
      → ((setting : Setting R) → IsSettingOf setting a → what setting (state_of a) ≡ other setting (state_of a)) → Does view other a b result → Does view what a b result
  does_by view what other a b result e h = record {
    told = λ setting is refuses. subst (λ o. Agrees setting view result o (state_of b)) (sym (e setting is)) (h.told setting is refuses);
    stays = h.stays;
    counts = h.counts;
    whole = h.whole;
    took = h.took;
  }

  -- the same of an equal argument, and with an equal value
  pub does_at : {A B X : Type 0} (view : A → B) (what : X → What R B) (x y : X) (a b : Machine R) (result : Result A EvalFault) → x ≡ y → Does view (what x) a b result → Does view (what y) a b result
  does_at view what x y a b result e h = subst (λ z. Does view (what z) a b result) e h

  pub gives_at : {A B : Type 0} (view : A → B) (what : What R B) (a b : Machine R) (v w : A) → v ≡ w → Does view what a b (Ok w) → Does view what a b (Ok v)
  gives_at view what a b v w e h = subst (λ u. Does view what a b (Ok u)) (sym e) h

  pub leads_at : {B X : Type 0} (what : What R B) (rest : X → What R B) (x y : X) (a b : Machine R) → x ≡ y → Leads what (rest y) a b → Leads what (rest x) a b
  leads_at what rest x y a b e h = subst (λ z. Leads what (rest z) a b) (sym e) h

  -- a word
  pub word_does : (text : Text) (place : Spot) (m : Machine R) (result : Result Value EvalFault) → IsAnswered value (expansion (look m.worlds.now.scopes) text) place result
      → Does value (λ setting s. expanded (expansion (look s.worlds.now.scopes) text) place s) m m result
  word_does text place m result h =
      does_by value _ (λ setting s. answer_at (expansion (look m.worlds.now.scopes) text) place s) m m result (λ setting is. expanded_is (expansion (look m.worlds.now.scopes) text) place (state_of m)) (answered value (expansion (look m.worlds.now.scopes) text) place m result h)

  -- an argument, by its tree
  pub arg_word : (a : Arg) (text : Text) (at : At) (m : Machine R) (result : Result Value EvalFault) → arg_tree a ≡ Word text → IsAnswered value (expansion (look m.worlds.now.scopes) text) (spot_of at) result → Does value (arg_at a at) m m result
  arg_word a text at m result is h =
      does_by value (arg_at a at) (λ setting s. expanded (expansion (look s.worlds.now.scopes) text) (spot_of at) s) m m result (λ setting right. ap (λ tree. arg setting.budget (deep at setting) tree (spot_of at) (state_of m)) is) (word_does text (spot_of at) m result h)

  -- one word is all that there is: what it stands for is not too large
  word_alone : (answer : Result Value ExpandFault) (place : Spot) (s : State R) → ((v : Value) → answer ≡ Ok v → within v ≡ Ok v)
      → then_do (expanded answer place s) (λ v. λ s₁. then_do (joined [] v place s₁) (λ more. λ s₂. gives more s₂)) ≡ answer_at answer place s
  word_alone (Ok v) place s small = ap (λ w. then_do (expanded w place s) (λ more. λ s₂. gives more s₂)) (small v refl)
  word_alone (Err f) place s small = refl

  -- the arguments where there is one, a word
  pub one_word : (setting : Setting R) (at : At) (text : Text) (s : State R) → args setting.budget (deep at setting) (ArgAnd (Word text) NoArgs) (spot_of at) s ≡ answer_at (expansion (look s.worlds.now.scopes) text) (spot_of at) s
  one_word setting at text s = word_alone (expansion (look s.worlds.now.scopes) text) (spot_of at) s (expansion_small (look s.worlds.now.scopes) text)

  pub args_word : (list : List Arg) (text : Text) (at : At) (m : Machine R) (result : Result Value EvalFault) → args_tree list ≡ ArgAnd (Word text) NoArgs → IsAnswered value (expansion (look m.worlds.now.scopes) text) (spot_of at) result
      → Does value (args_at list at) m m result
  args_word list text at m result is h =
      does_by value (args_at list at) (λ setting s. answer_at (expansion (look m.worlds.now.scopes) text) (spot_of at) s) m m result
      (λ setting right. ap (λ trees. args setting.budget (deep at setting) trees (spot_of at) (state_of m)) is ∙ one_word setting at text (state_of m))
      (answered value (expansion (look m.worlds.now.scopes) text) (spot_of at) m result h)

  pub arg_bracket : (a : Arg) (i : Inner) (at : At) (m n : Machine R) (result : Result Value EvalFault) → arg_tree a ≡ Bracket (inner_tree i) → Does value (bracket_at i at) m n result → Does value (arg_at a at) m n result
  arg_bracket a i at m n result is h = does_by value (arg_at a at) (bracket_at i at) m n result (λ setting right. ap (λ tree. arg setting.budget (deep at setting) tree (spot_of at) (state_of m)) is) h

  -- what stands in brackets, by its tree
  abbrev pub inner_by : InnerTree → At → What R Value
  inner_by tree at = λ setting s. inner setting.budget (deep at setting) tree (spot_of at) s

  pub inside_by : (i : Inner) (tree : InnerTree) (at : At) (m n : Machine R) (result : Result Value EvalFault) → inner_tree i ≡ tree → Does value (inner_by tree at) m n result → Does value (inner_at i at) m n result
  inside_by i tree at m n result is h = does_by value (inner_at i at) (inner_by tree at) m n result (λ setting right. ap (λ t. inner_by t at setting (state_of m)) is) h

  -- a list with texts after it
  pub join_does : {A : Type 0} (view : A → Value) (found texts : Value) (place : Spot) (m : Machine R) (result : Result A EvalFault) → IsAnswered view (within (found ++ texts)) place result
      → Does view (λ setting s. joined found texts place s) m m result
  join_does view found texts place m result h =
      does_by view _ (λ setting s. answer_at (within (found ++ texts)) place s) m m result (λ setting is. expanded_is (within (found ++ texts)) place (state_of m)) (answered view (within (found ++ texts)) place m result h)

  -- brackets without a level
  pub bracket_deep : (i : Inner) (at : At) (m : Machine R) (e : EvalFault) → at.levels ≡ 0 → IsFault (spot_of at) depth e → Does value (bracket_at i at) m m (Err e)
  bracket_deep i at m e none h = fault_now value (bracket_at i at) m (spot_of at) depth e h refl (λ setting is. no_bracket setting at.levels (inner_tree i) (spot_of at) (state_of m) none)

  pub bracket_opens : (i : Inner) (at within_ : At) (a b : Machine R) (result : Result Value EvalFault) → 0 < at.levels → within_ ≡ record at { levels = at.levels - 1 } → Does value (inner_at i within_) a b result → Does value (bracket_at i at) a b result
  bracket_opens i at within_ a b result some is h =
      does_by value (bracket_at i at) (inner_at i (record at { levels = at.levels - 1 })) a b result
      (λ setting right. ap (λ (d : Levels R). d.bracket (inner_tree i) (spot_of at) (state_of a)) (one_less setting at.levels some))
      (subst (λ p. Does value (inner_at i p) a b result) is h)

  -- ---- arguments joined

  abbrev pub after_arg : Value → List Arg → At → Setting R → Value → State R → Outcome R Value
  after_arg found rest at setting v s = then_do (joined found v (spot_of at) s) (λ more. λ s₁. args_after setting.budget (deep at setting) more (args_tree rest) (spot_of at) s₁)

  after_arg_begins : (found : Value) (rest : List Arg) (at : At) (setting : Setting R) (v : Value) (s : State R) → Begins setting s (after_arg found rest at setting v s)
  after_arg_begins found rest at setting v s = then_begins setting _ _ s (joined_begins setting found v (spot_of at) s) (λ more later. args_after_begins setting at.levels more (args_tree rest) (spot_of at) later)

  next_arg : (what : Setting R → State R → Outcome R Value) (found : Value) (xs : List Arg) (one : Arg) (rest : List Arg) (at : At) (a b : Machine R) → xs ≡ one ∷ rest → Leads what (args_rest found xs at) a b → Leads what (args_rest found (one ∷ rest) at) a b
  next_arg what found xs one rest at a b e h = subst (λ l. Leads what (args_rest found l at) a b) e h

  pub args_arg_fails : (what : Setting R → State R → Outcome R Value) (found : Value) (xs : List Arg) (one : Arg) (rest : List Arg) (at : At) (a b c : Machine R) (e : EvalFault)
      → xs ≡ one ∷ rest → Leads what (args_rest found xs at) a b → Does value (arg_at one at) b c (Err e) → Does value what a c (Err e)
  args_arg_fails what found xs one rest at a b c e is leads h =
      led value what (args_rest found (one ∷ rest) at) a b c (Err e) (next_arg what found xs one rest at a b is leads)
      (err_then value value (arg_at one at) (after_arg found rest at) b c e (λ setting v later. after_arg_begins found rest at setting v later) h)

  pub args_arg_done : (what : Setting R → State R → Outcome R Value) (found : Value) (xs : List Arg) (one : Arg) (rest : List Arg) (at : At) (a b c : Machine R) (v : Value)
      → xs ≡ one ∷ rest → Leads what (args_rest found xs at) a b → Does value (arg_at one at) b c (Ok v) → Leads what (λ setting. after_arg found rest at setting v) a c
  args_arg_done what found xs one rest at a b c v is leads h =
      leads_then what (args_rest found (one ∷ rest) at) (λ setting. after_arg found rest at setting v) a b c (next_arg what found xs one rest at a b is leads)
      (ok_then value (arg_at one at) (after_arg found rest at) b c v h)

  pub args_join_fails : {U : Type 0} (what : Setting R → State R → Outcome R Value) (found v : Value) (rest : List Arg) (at : At) (a b : Machine R) (view : U → Value) (e : EvalFault)
      → Leads what (λ setting. after_arg found rest at setting v) a b → IsAnswered view (within (found ++ v)) (spot_of at) (Err e) → Does value what a b (Err e)
  args_join_fails what found v rest at a b view e leads h =
      led value what (λ setting. after_arg found rest at setting v) a b b (Err e) leads
      (err_then view value (λ setting s. joined found v (spot_of at) s) (λ setting more s₁. args_after setting.budget (deep at setting) more (args_tree rest) (spot_of at) s₁) b b e
      (λ setting more later. args_after_begins setting at.levels more (args_tree rest) (spot_of at) later) (join_does view found v (spot_of at) b (Err e) h))

  pub args_goes : {U : Type 0} (what : Setting R → State R → Outcome R Value) (found v : Value) (rest : List Arg) (at : At) (a b : Machine R) (view : U → Value) (u : U)
      → Leads what (λ setting. after_arg found rest at setting v) a b → IsAnswered view (within (found ++ v)) (spot_of at) (Ok u) → Leads what (args_rest (view u) rest at) a b
  args_goes what found v rest at a b view u leads h =
      leads_then what (λ setting. after_arg found rest at setting v) (args_rest (view u) rest at) a b b leads
      (ok_then view (λ setting s. joined found v (spot_of at) s) (λ setting more s₁. args_after setting.budget (deep at setting) more (args_tree rest) (spot_of at) s₁) b b u (join_does view found v (spot_of at) b (Ok u) h))

  pub args_end : (what : Setting R → State R → Outcome R Value) (found : Value) (xs : List Arg) (at : At) (a b : Machine R) → xs ≡ [] → Leads what (args_rest found xs at) a b → Does value what a b (Ok found)
  args_end what found xs at a b e leads =
      led value what (args_rest found [] at) a b b (Ok found) (subst (λ l. Leads what (args_rest found l at) a b) e leads) (value_now value (args_rest found [] at) b found (λ setting is. refl))

  -- ---- lists

  abbrev pub after_list : List Value → List (Vec Arg Global) → At → Setting R → Value → State R → Outcome R (List Value)
  after_list made rest at setting v s =
      then_do (then_do (lists setting.budget (deep at setting) (lists_tree rest) (spot_of at) s) (λ more. λ s₁. gives (v ∷ more) s₁)) (λ more. λ s₁. gives (made ++ more) s₁)

  pub lists_list_fails : (what : Setting R → State R → Outcome R (List Value)) (made : List Value) (xs : List (Vec Arg Global)) (one : Vec Arg Global) (items : List Arg) (rest : List (Vec Arg Global)) (at : At) (a b c : Machine R) (e : EvalFault)
      → xs ≡ one ∷ rest → items ≡ one.items → Leads what (lists_rest made xs at) a b → Does value (args_at items at) b c (Err e) → Does values what a c (Err e)
  lists_list_fails what made xs one items rest at a b c e is same leads h =
      led values what (lists_rest made (one ∷ rest) at) a b c (Err e) (subst (λ l. Leads what (lists_rest made l at) a b) is leads)
      (err_then values values (λ setting s. lists setting.budget (deep at setting) (lists_tree (one ∷ rest)) (spot_of at) s) (λ setting more s₁. gives (made ++ more) s₁) b c e (λ setting more later. same_begins setting (made ++ more) later)
      (err_then value values (args_at one.items at) (λ setting v s. then_do (lists setting.budget (deep at setting) (lists_tree rest) (spot_of at) s) (λ more. λ s₁. gives (v ∷ more) s₁)) b c e
      (λ setting v later. then_begins setting _ _ later (lists_begins setting at.levels (lists_tree rest) (spot_of at) later) (λ more last. same_begins setting (v ∷ more) last))
      (subst (λ l. Does value (args_at l at) b c (Err e)) same h)))

  lists_pushed : (made : List Value) (v : Value) (rest : List (Vec Arg Global)) (at : At) (setting : Setting R) (s : State R)
      → then_do (then_do (lists setting.budget (deep at setting) (lists_tree rest) (spot_of at) s) (λ more. λ s₁. gives (v ∷ more) s₁)) (λ more. λ s₁. gives (made ++ more) s₁)
      ≡ lists_rest (made ++ v ∷ []) rest at setting s
  lists_pushed made v rest at setting s = go (lists setting.budget (deep at setting) (lists_tree rest) (spot_of at) s)
    where
      go : (o : Outcome R (List Value)) → then_do (then_do o (λ more. λ s₁. gives (v ∷ more) s₁)) (λ more. λ s₁. gives (made ++ more) s₁) ≡ then_do o (λ more. λ s₁. gives ((made ++ v ∷ []) ++ more) s₁)
      go (gives more s₁) = ap (λ l. gives l s₁) (sym (append_assoc made (v ∷ []) more))
      go (faults f s₁) = refl

  pub lists_goes : (what : Setting R → State R → Outcome R (List Value)) (made new : List Value) (v : Value) (xs : List (Vec Arg Global)) (one : Vec Arg Global) (items : List Arg) (rest : List (Vec Arg Global)) (at : At) (a b c : Machine R)
      → xs ≡ one ∷ rest → items ≡ one.items → new ≡ made ++ v ∷ [] → Leads what (lists_rest made xs at) a b → Does value (args_at items at) b c (Ok v) → Leads what (lists_rest new rest at) a c
  lists_goes what made new v xs one items rest at a b c is same grown leads h =
      (let one_done = ok_then value (args_at one.items at) (λ setting u s. then_do (lists setting.budget (deep at setting) (lists_tree rest) (spot_of at) s) (λ more. λ s₁. gives (u ∷ more) s₁)) b c v (subst (λ l. Does value (args_at l at) b c (Ok v)) same h) in
      subst (λ l. Leads what (lists_rest l rest at) a c) (sym grown)
      (leads_then what (lists_rest made (one ∷ rest) at) (lists_rest (made ++ v ∷ []) rest at) a b c (subst (λ l. Leads what (lists_rest made l at) a b) is leads) (record {
        told = λ setting right none. ap (λ o. then_do o (λ more. λ s₁. gives (made ++ more) s₁)) (one_done.told setting right none) ∙ lists_pushed made v rest at setting (state_of c);
        stays = one_done.stays;
        counts = one_done.counts;
      })))

  pub lists_begin : (xs : List (Vec Arg Global)) (at : At) (m : Machine R) → Leads (lists_at xs at) (lists_rest [] xs at) m m
  lists_begin xs at m = leads_same (lists_at xs at) (lists_rest [] xs at) m (λ setting is. go (lists setting.budget (deep at setting) (lists_tree xs) (spot_of at) (state_of m)))
    where
      go : (o : Outcome R (List Value)) → o ≡ then_do o (λ more. λ s₁. gives ([] ++ more) s₁)
      go (gives more s₁) = refl
      go (faults f s₁) = refl

  pub lists_end : (what : Setting R → State R → Outcome R (List Value)) (made : List Value) (xs : List (Vec Arg Global)) (at : At) (a b : Machine R) → xs ≡ [] → Leads what (lists_rest made xs at) a b → Does values what a b (Ok made)
  lists_end what made xs at a b e leads =
      led values what (lists_rest made [] at) a b b (Ok made) (subst (λ l. Leads what (lists_rest made l at) a b) e leads)
      (value_now values (lists_rest made [] at) b made (λ setting is. ap (λ l. gives l (state_of b)) (append-nil made)))

  -- ---- calls

  pub call_of_head_fails : (head : Arg) (given : List (Vec Arg Global)) (at : At) (a b : Machine R) (e : EvalFault) → Does value (arg_at head at) a b (Err e) → Does value (call_of_at head given at) a b (Err e)
  call_of_head_fails head given at a b e h =
      err_then value value (arg_at head at) (λ setting names s₁. then_do (lists setting.budget (deep at setting) (lists_tree given) (spot_of at) s₁) (λ vs. λ s₂. call_head setting.budget (deep at setting) names vs (spot_of at) s₂)) a b e
      (λ setting names later. then_begins setting _ _ later (lists_begins setting at.levels (lists_tree given) (spot_of at) later) (λ vs last. call_head_begins setting at.levels names vs (spot_of at) last)) h

  pub call_of_lists_fail : (head : Arg) (given : List (Vec Arg Global)) (at : At) (a b c : Machine R) (names : Value) (e : EvalFault) → Does value (arg_at head at) a b (Ok names) → Does values (lists_at given at) b c (Err e) → Does value (call_of_at head given at) a c (Err e)
  call_of_lists_fail head given at a b c names e one two =
      led value (call_of_at head given at) (λ setting s₁. then_do (lists_at given at setting s₁) (λ vs. λ s₂. call_head setting.budget (deep at setting) names vs (spot_of at) s₂)) a b c (Err e)
      (ok_then value (arg_at head at) (λ setting ns s₁. then_do (lists_at given at setting s₁) (λ vs. λ s₂. call_head setting.budget (deep at setting) ns vs (spot_of at) s₂)) a b names one)
      (err_then values value (lists_at given at) (λ setting vs s₂. call_head setting.budget (deep at setting) names vs (spot_of at) s₂) b c e (λ setting vs later. call_head_begins setting at.levels names vs (spot_of at) later) two)

  pub call_of_calls : (head : Arg) (given : List (Vec Arg Global)) (at : At) (a b c d : Machine R) (names : Value) (vs : List Value) (result : Result Value EvalFault) → Does value (arg_at head at) a b (Ok names) → Does values (lists_at given at) b c (Ok vs)
      → Does value (call_head_at names vs at) c d result → Does value (call_of_at head given at) a d result
  call_of_calls head given at a b c d names vs result one two three =
      led value (call_of_at head given at) (λ setting s₁. then_do (lists_at given at setting s₁) (λ us. λ s₂. call_head setting.budget (deep at setting) names us (spot_of at) s₂)) a b d result
      (ok_then value (arg_at head at) (λ setting ns s₁. then_do (lists_at given at setting s₁) (λ us. λ s₂. call_head setting.budget (deep at setting) ns us (spot_of at) s₂)) a b names one)
      (led value (λ setting s₁. then_do (lists_at given at setting s₁) (λ us. λ s₂. call_head setting.budget (deep at setting) names us (spot_of at) s₂)) (call_head_at names vs at) b c d result
      (ok_then values (lists_at given at) (λ setting us s₂. call_head setting.budget (deep at setting) names us (spot_of at) s₂) b c vs two) three)

  -- a call of the first of some names
  called_or_begins : (c : Option (Text × List Value)) (at : At) (setting : Setting R) (s : State R) → Begins setting s (called_or setting.budget (deep at setting) c (spot_of at) s)
  called_or_begins None at setting s = same_begins setting {A = Value} [] s
  called_or_begins (Some c) at setting s = call_begins setting at.levels c.0 c.1 (spot_of at) s

  head_leads : {A : Type 0} (view : A → Option (Text × List Value)) (names : Value) (given : List Value) (at : At) (m : Machine R) (c : A) → IsAnswered view (named names given) (spot_of at) (Ok c)
      → Leads (call_head_at names given at) (λ setting s. called_or setting.budget (deep at setting) (view c) (spot_of at) s) m m
  head_leads view names given at m c h =
      leads_same (call_head_at names given at) (λ setting s. called_or setting.budget (deep at setting) (view c) (spot_of at) s) m
      (λ setting is. head_is setting.budget (deep at setting) names given (spot_of at) (state_of m) ∙ ap (λ o. then_do (answer_at o (spot_of at) (state_of m)) (λ d. λ s₁. called_or setting.budget (deep at setting) d (spot_of at) s₁)) h)

  pub head_fails : {A : Type 0} (view : A → Option (Text × List Value)) (names : Value) (given : List Value) (at : At) (m : Machine R) (e : EvalFault) → IsAnswered view (named names given) (spot_of at) (Err e) → Does value (call_head_at names given at) m m (Err e)
  head_fails view names given at m e h =
      does_by value (call_head_at names given at) (λ setting s. then_do (answer_at (named names given) (spot_of at) s) (λ d. λ s₁. called_or setting.budget (deep at setting) d (spot_of at) s₁)) m m (Err e)
      (λ setting is. head_is setting.budget (deep at setting) names given (spot_of at) (state_of m))
      (err_then view value (λ setting s. answer_at (named names given) (spot_of at) s) (λ setting d s₁. called_or setting.budget (deep at setting) d (spot_of at) s₁) m m e
      (λ setting d later. called_or_begins d at setting later) (answered view (named names given) (spot_of at) m (Err e) h))

  pub head_none : {A : Type 0} (view : A → Option (Text × List Value)) (names : Value) (given : List Value) (at : At) (m : Machine R) (c : A) → IsAnswered view (named names given) (spot_of at) (Ok c) → view c ≡ None → Does value (call_head_at names given at) m m (Ok [])
  head_none view names given at m c h none =
      led value (call_head_at names given at) (λ setting s. called_or setting.budget (deep at setting) (view c) (spot_of at) s) m m m (Ok []) (head_leads view names given at m c h)
      (value_now value (λ setting s. called_or setting.budget (deep at setting) (view c) (spot_of at) s) m [] (λ setting is. ap (λ d. called_or setting.budget (deep at setting) d (spot_of at) (state_of m)) none))

  pub head_calls : {A : Type 0} (view : A → Option (Text × List Value)) (names : Value) (given lists_ : List Value) (name : Text) (at : At) (m n : Machine R) (c : A) (result : Result Value EvalFault) → IsAnswered view (named names given) (spot_of at) (Ok c) → view c ≡ Some (name, lists_)
      → Does value (call_at name lists_ at) m n result → Does value (call_head_at names given at) m n result
  head_calls view names given lists_ name at m n c result h some called =
      led value (call_head_at names given at) (λ setting s. called_or setting.budget (deep at setting) (view c) (spot_of at) s) m m n result (head_leads view names given at m c h)
      (does_by value (λ setting s. called_or setting.budget (deep at setting) (view c) (spot_of at) s) (call_at name lists_ at) m n result (λ setting is. ap (λ d. called_or setting.budget (deep at setting) d (spot_of at) (state_of m)) some) called)
