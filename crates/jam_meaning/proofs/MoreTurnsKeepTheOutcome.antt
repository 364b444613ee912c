-- With more turns the outcome is the same, unless the turns ran out.
use Rattle.std.proofs.Common.{arith, ◌≡◌, ℕ, zero, suc, ◌+◌, Bool, true, false, List, [], ◌∷◌, Option, Some, None, Result, Ok, Err, refl, sym, ap, subst, inl, inr}
use Rattle.std.specs.Option.{unwrap_or}
use Rattle.b2_base.specs.declared.expand_fault.ExpandFault.{ExpandFault}
use Rattle.b2_base.specs.Segments.{path_from}
use Rattle.jam_grammar.specs.declared.tree.Sign.{Sign}
use Rattle.jam_grammar.specs.declared.tree.Sign.TheVariants as sign
use Rattle.jam_grammar.specs.Trees as tree
use Rattle.jam_grammar.specs.Trees.{ArgTree, InnerTree, ArgTrees, ListTrees, ExprTree, ExprTrees, FormTree, OtherTree, StmtTrees, CaseTrees}
use Rattle.jam_journal.specs.Tables.{Text, Key}
use Rattle.jam_journal.specs.Scopes.{Value, Binding, enter, enter_call, bind, bind_each, assign, assigned}
use Rattle.jam_scope.specs.Rules.{Rule}
use Rattle.jam_scope.specs.Changes.{freeze_roots}
use Rattle.jam_scope.specs.Lines.{find_rule, actions_place}
use Rattle.jam_meaning.specs.declared.native_answer.NativeStep.{NativeStep}
use Rattle.jam_meaning.specs.declared.native_answer.NativeStep.TheVariants as steps
use Rattle.jam_meaning.specs.Faults.{Spot}
use Rattle.jam_meaning.specs.Refused.{refused_here}
use Rattle.jam_meaning.specs.States.{State, with_world, with_scopes}
use Rattle.jam_meaning.specs.Settings as settings
use Rattle.jam_meaning.specs.Settings.{Setting, Told, Reading}
use Rattle.jam_meaning.specs.Outcomes.{Outcome, gives, faults, Flow, goes_on, returns, then_do, then_go, either, by_turns, take_turn, expanded, joined, close_frame, in_module, in_frame, own_bindings, on_target}
use Rattle.jam_meaning.specs.Levels.{Levels}
use Rattle.jam_meaning.specs.Params.{call_binds}
use Rattle.jam_meaning.specs.Args.{arg, args_after, args, lists, call, call_with, call_head, call_of, inner}
use Rattle.jam_meaning.specs.Conds.{compared, expr, any_of, all_of}
use Rattle.jam_meaning.specs.Includes.{is_in_roots, file_ended, read_so, included_at, included}
use Rattle.jam_meaning.specs.RuleCalls.{value_of, transformed, filtered, stepped, told, recorded, native_call, acted_at, bound_call, called, applied}
use Rattle.jam_meaning.specs.Forms.{is_empty, own_value, for_all, set_name, set_own, while_rounds, for_rounds, for_loop, local_value, block, first_case, started, form, other, stmts}
use Rattle.jam_meaning.specs.Eval.{rule_body, one_level, levels, run, run_call, most_levels}
use Rattle.jam_meaning.specs.Laws.{with_more, IsFewer}

module _ {R : Type 0} (setting : Setting R) (none : (left : ℕ) → refused_here setting.refused left ≡ None) (k : ℕ) where
  abbrev More : State R → State R
  More s = with_more k s

  abbrev Few : {A : Type 0} → Outcome R A → Outcome R A → Type 0
  Few few many = IsFewer setting.budget k few many

  -- the function does so with more turns
  abbrev Steady : {A : Type 0} → (State R → Outcome R A) → Type 0
  Steady f = (s : State R) → Few (f s) (f (More s))

  -- one function does so with more turns, as another one
  abbrev Steady_as : {A : Type 0} → (State R → Outcome R A) → (State R → Outcome R A) → Type 0
  Steady_as f g = (s : State R) → Few (f s) (g (More s))

  then_few : {A B : Type 0} (few many : Outcome R A) (next other : A → State R → Outcome R B) → Few few many → ((a : A) → Steady_as (next a) (other a)) → Few (then_do few next) (then_do many other)
  then_few (gives a s) many next other is more = subst (λ o. Few (next a s) (then_do o other)) (sym is) (more a s)
  then_few (faults fault s) many next other (inl out) more = inl out
  then_few (faults fault s) many next other (inr is) more = inr (ap (λ o. then_do o other) is)

  go_few : (few many : Outcome R Flow) (next other : State R → Outcome R Flow) → Few few many → Steady_as next other → Few (then_go few next) (then_go many other)
  go_few (gives goes_on s) many next other is more = subst (λ o. Few (next s) (then_go o other)) (sym is) (more s)
  go_few (gives (returns value) s) many next other is more = ap (λ o. then_go o other) is
  go_few (faults fault s) many next other (inl out) more = inl out
  go_few (faults fault s) many next other (inr is) more = inr (ap (λ o. then_go o other) is)

  either_few : {A : Type 0} (b : Bool) (f f' g g' : State R → Outcome R A) → Steady_as f f' → Steady_as g g' → Steady_as (λ s. either b f g s) (λ s. either b f' g' s)
  either_few true f f' g g' one two s = one s
  either_few false f f' g g' one two s = two s

  by_turns_few : {A : Type 0} (n : ℕ) (spot : Spot) (s : State R) (next other : State R → Outcome R A) → Steady_as next other → Few (by_turns n setting.budget spot s next) (by_turns (n + k) setting.budget spot (More s) other)
  by_turns_few zero spot s next other more = inl refl
  by_turns_few (suc n) spot s next other more =
      let e : suc n + k ≡ suc (n + k) = omega arith in
      subst (λ m. Few (next (record s { left = n })) (by_turns m setting.budget spot (More s) other)) (sym e) (more (record s { left = n }))

  turn_few : {A : Type 0} (spot : Spot) (next other : State R → Outcome R A) → Steady_as next other → Steady_as (λ s. take_turn setting.budget spot s next) (λ s. take_turn setting.budget spot s other)
  turn_few spot next other more s = by_turns_few s.left spot s next other more

  expanded_few : (r : Result Value ExpandFault) (spot : Spot) → Steady (λ s. expanded r spot s)
  expanded_few (Ok value) spot s = refl
  expanded_few (Err fault) spot s = inr refl

  joined_few : (found value : Value) (spot : Spot) → Steady (λ s. joined found value spot s)
  joined_few found value spot s = expanded_few _ spot s

  close_few : {A : Type 0} (few many : Outcome R A) → Few few many → Few (close_frame few) (close_frame many)
  close_few (gives a s) many is = ap close_frame is
  close_few (faults fault s) many (inl out) = inl out
  close_few (faults fault s) many (inr is) = inr (ap close_frame is)

  module_few : {A : Type 0} (owner : Text) (act : State R → Outcome R A) → Steady act → Steady (λ s. in_module owner act s)
  module_few owner act more s = close_few _ _ (more (with_scopes (enter owner) s))

  frame_few : {A : Type 0} (act : State R → Outcome R A) → Steady act → Steady (λ s. in_frame act s)
  frame_few act more s = module_few _ act more s

  target_few : {A : Type 0} (targets : Value) (act : State R → Outcome R A) → Steady act → Steady (λ s. on_target targets act s)
  target_few [] act more s = frame_few (λ later. act (with_scopes (bind_each []) later)) (λ later. more (with_scopes (bind_each []) later)) s
  target_few (target ∷ targets) act more s =
      frame_few (λ later. act (with_scopes (bind_each (own_bindings (target ∷ targets) s)) later)) (λ later. more (with_scopes (bind_each (own_bindings (target ∷ targets) s)) later)) s

  record FewLevels (deep : Levels R) : Type 0 where
    stmts_few : (trees : StmtTrees) (path : Text) (spot : Spot) → Steady (λ s. deep.stmts trees path spot s)
    call_few : (name : Text) (given : List Value) (spot : Spot) → Steady (λ s. deep.call name given spot s)
    bracket_few : (i : InnerTree) (spot : Spot) → Steady (λ s. deep.bracket i spot s)
    bracket_call_few : (head first : Value) (spot : Spot) → Steady (λ s. deep.bracket_call head first spot s)

  module _ (deep : Levels R) (down : FewLevels deep) where
    arg_few : (a : ArgTree) (spot : Spot) → Steady (λ s. arg setting.budget deep a spot s)
    arg_few (tree.Word text) spot s = expanded_few _ spot s
    arg_few (tree.Bracket i) spot s = down.bracket_few i spot s

    args_after_few : (found : Value) (trees : ArgTrees) (spot : Spot) → Steady (λ s. args_after setting.budget deep found trees spot s)
    args_after_few found tree.NoArgs spot s = refl
    args_after_few found (tree.ArgAnd first rest) spot s =
        then_few _ _ _ _ (arg_few first spot s) (λ value later. then_few _ _ _ _ (joined_few found value spot later) (λ more last. args_after_few more rest spot last))

    args_few : (trees : ArgTrees) (spot : Spot) → Steady (λ s. args setting.budget deep trees spot s)
    args_few trees spot s = args_after_few [] trees spot s

    lists_few : (trees : ListTrees) (spot : Spot) → Steady (λ s. lists setting.budget deep trees spot s)
    lists_few tree.NoLists spot s = refl
    lists_few (tree.ListAnd first rest) spot s =
        then_few _ _ _ _ (args_few first spot s) (λ value later. then_few _ _ _ _ (lists_few rest spot later) (λ more last. refl))

    call_few' : (name : Text) (given : List Value) (spot : Spot) → Steady (λ s. call setting.budget deep name given spot s)
    call_few' name given spot s = turn_few spot _ _ (λ later. down.call_few name given spot later) s

    call_with_few : (name : Text) (more : Value) (given : List Value) (spot : Spot) → Steady (λ s. call_with setting.budget deep name more given spot s)
    call_with_few name more [] spot s = call_few' name (more ∷ []) spot s
    call_with_few name more (first ∷ rest) spot s = then_few _ _ _ _ (joined_few more first spot s) (λ value later. call_few' name (value ∷ rest) spot later)

    call_head_few : (head : Value) (given : List Value) (spot : Spot) → Steady (λ s. call_head setting.budget deep head given spot s)
    call_head_few [] given spot s = refl
    call_head_few (name ∷ more) given spot s = call_with_few name more given spot s

    call_of_few : (head : ArgTree) (given : ListTrees) (spot : Spot) → Steady (λ s. call_of setting.budget deep head given spot s)
    call_of_few head given spot s =
        then_few _ _ _ _ (arg_few head spot s) (λ names later. then_few _ _ _ _ (lists_few given spot later) (λ values last. call_head_few names values spot last))

    inner_few : (i : InnerTree) (spot : Spot) → Steady (λ s. inner setting.budget deep i spot s)
    inner_few (tree.CallOf head given) spot s = call_of_few head given spot s
    inner_few (tree.OnInner target more) spot s =
        then_few _ _ _ _ (arg_few target spot s) (λ targets later. target_few targets _ (λ last. inner_few more spot last) later)
    inner_few (tree.OnReturn target value) spot s =
        then_few _ _ _ _ (arg_few target spot s) (λ targets later. target_few targets _ (λ last. args_few value spot last) later)

    compared_few : (test : Value → Value → Bool) (few many : Outcome R Value) (right : State R → Outcome R Value) → Few few many → Steady right
        → Few (compared setting.budget deep test few right) (compared setting.budget deep test many right)
    compared_few test few many right one two = then_few few many _ _ one (λ a later. then_few _ _ _ _ (two later) (λ b last. refl))

    mutual
      expr_few : (e : ExprTree) (spot : Spot) → Steady (λ s. expr setting.budget deep e spot s)
      expr_few (tree.Or members) spot s = any_few members spot s
      expr_few (tree.And members) spot s = all_few members spot s
      expr_few (tree.Not e) spot s = then_few _ _ _ _ (expr_few e spot s) (λ holds later. refl)
      expr_few (tree.Group e) spot s = expr_few e spot s
      expr_few (tree.Bare a) spot s = then_few _ _ _ _ (arg_few a spot s) (λ value later. refl)
      expr_few (tree.Equal a b) spot s = compared_few _ _ _ _ (arg_few a spot s) (λ later. arg_few b spot later)
      expr_few (tree.Differ a b) spot s = compared_few _ _ _ _ (arg_few a spot s) (λ later. arg_few b spot later)
      expr_few (tree.Within a list) spot s = compared_few _ _ _ _ (arg_few a spot s) (λ later. args_few list spot later)

      any_few : (es : ExprTrees) (spot : Spot) → Steady (λ s. any_of setting.budget deep es spot s)
      any_few tree.NoExprs spot s = refl
      any_few (tree.ExprAnd first rest) spot s =
          then_few _ _ _ _ (expr_few first spot s) (λ holds later. either_few holds _ _ _ _ (λ last. refl) (λ last. any_few rest spot last) later)

      all_few : (es : ExprTrees) (spot : Spot) → Steady (λ s. all_of setting.budget deep es spot s)
      all_few tree.NoExprs spot s = refl
      all_few (tree.ExprAnd first rest) spot s =
          then_few _ _ _ _ (expr_few first spot s) (λ holds later. either_few holds _ _ _ _ (λ last. all_few rest spot last) (λ last. refl) later)

    file_few : (few many : Outcome R Flow) → Few few many → Few (file_ended few) (file_ended many)
    file_few (gives flow s) many is = ap file_ended is
    file_few (faults fault s) many (inl out) = inl out
    file_few (faults fault s) many (inr is) = inr (ap file_ended is)

    read_few : (reading : Reading) (path : Text) (spot : Spot) → Steady (λ s. read_so setting deep reading path spot s)
    read_few settings.is_missing path spot s = inr refl
    read_few (settings.is_too_big size) path spot s = inr refl
    read_few (settings.has_no_tokens fault) path spot s = inr refl
    read_few (settings.has_no_tree line found) path spot s = inr refl
    read_few (settings.is_file trees) path spot s =
        then_few _ _ _ _ (file_few _ _ (frame_few (λ later. deep.stmts trees path spot later) (λ later. down.stmts_few trees path spot later) s)) (λ ended later. refl)

    included_at_few : (path : Text) (spot : Spot) → Steady (λ s. included_at setting deep path spot s)
    included_at_few path spot s =
        either_few (is_in_roots s.worlds.now path) _ _ _ _ (λ later. inr refl)
        (λ later. read_few (setting.reading path) path spot later) s

    included_few : (names : Value) (spot : Spot) → Steady (λ s. included setting deep names spot s)
    included_few [] spot s = refl
    included_few (name ∷ more) spot s = included_at_few (path_from s.worlds.now.place name) spot (with_world freeze_roots s)

    value_few : (few many : Outcome R Flow) → Few few many → Few (value_of few) (value_of many)
    value_few (gives goes_on s) many is = ap value_of is
    value_few (gives (returns value) s) many is = ap value_of is
    value_few (faults fault s) many (inl out) = inl out
    value_few (faults fault s) many (inr is) = inr (ap value_of is)

    module _ (body : Rule → State R → Outcome R Flow) (body_few : (rule : Rule) → Steady (body rule)) where
      transformed_few : (rule found items : Value) (spot : Spot) → Steady (λ s. transformed setting deep body rule found items spot s)
      transformed_few rule found [] spot s = refl
      transformed_few rule found (item ∷ items) spot s =
          then_few _ _ _ _ (down.bracket_call_few rule (item ∷ []) spot s) (λ value later. then_few _ _ _ _ (joined_few found value spot later) (λ more last. transformed_few rule more items spot last))

      filtered_few : (rule items : Value) (spot : Spot) → Steady (λ s. filtered setting deep body rule items spot s)
      filtered_few rule [] spot s = refl
      filtered_few rule (item ∷ items) spot s =
          then_few _ _ _ _ (down.bracket_call_few rule (item ∷ []) spot s) (λ value later. then_few _ _ _ _ (filtered_few rule items spot later) (λ more last. refl))

      stepped_few : (name : Text) (spot : Spot) (step : NativeStep) → Steady (λ s. stepped setting deep body name spot step s)
      stepped_few name spot steps.Unknown s = inr refl
      stepped_few name spot (steps.Value value) s = refl
      stepped_few name spot (steps.Exit text) s = inr refl
      stepped_few name spot (steps.Each rule items filter) s =
          either_few filter _ _ _ _ (λ later. filtered_few rule items spot later) (λ later. transformed_few rule [] items spot later) s

      told_few : (name : Text) (spot : Spot) (t : Told NativeStep R) → Steady (λ s. told setting deep body name spot s t)
      told_few name spot (settings.answers step worlds now) s = stepped_few name spot step (record s { worlds = worlds; kept = now })
      told_few name spot (settings.refuses cause worlds now) s = inr refl

      native_few : (name : Text) (given : List Value) (spot : Spot) → Steady (λ s. native_call setting deep body name given spot s)
      native_few name given spot s =
          let says : Option Text → Told NativeStep R = λ r. setting.natives.call name given spot.line setting.sight r s.worlds s.kept in
          subst (λ r. Few (told setting deep body name spot s (says r)) (native_call setting deep body name given spot (More s))) (sym (none s.left))
          (subst (λ r. Few (told setting deep body name spot s (says None)) (told setting deep body name spot (More s) (says r))) (sym (none (s.left + k))) (told_few name spot (says None) s))

      recorded_few : (name : Text) (spot : Spot) (t : Told Bool R) (next : Bool → State R → Outcome R Value) → ((b : Bool) → Steady (next b)) → Steady (λ s. recorded setting deep body name spot s t next)
      recorded_few name spot (settings.answers true worlds now) next more s = more true (record s { worlds = worlds; kept = now })
      recorded_few name spot (settings.answers false worlds now) next more s = more false s
      recorded_few name spot (settings.refuses cause worlds now) next more s = inr refl

      acted_at_few : (at : Option Key) (name : Text) (given : List Value) (spot : Spot) (next : Bool → State R → Outcome R Value) → ((b : Bool) → Steady (next b)) → Steady (λ s. acted_at setting deep body at name given spot s next)
      acted_at_few None name given spot next more s = more false s
      acted_at_few (Some at) name given spot next more s = recorded_few name spot (setting.natives.acted name given spot.line s.worlds s.kept) next more s

      bound_few : (rule : Rule) (name : Text) (bs : Option (List Binding)) (spot : Spot) → Steady (λ s. bound_call setting deep body rule name bs spot s)
      bound_few rule name None spot s = inr refl
      bound_few rule name (Some bs) spot s = value_few _ _ (close_few _ _ (body_few rule (with_scopes (bind_each bs) (with_scopes (enter_call rule.home) s))))

      called_few : (rule : Option Rule) (name : Text) (given : List Value) (spot : Spot) → Steady (λ s. called setting deep body rule name given spot s)
      called_few (Some rule) name given spot s =
          then_few _ _ _ _ (bound_few rule name (call_binds rule.params given) spot s) (λ value later. acted_at_few (actions_place name later.worlds.now) name given spot _ (λ noted last. refl) later)
      called_few None name given spot s =
          acted_at_few (actions_place name s.worlds.now) name given spot _ (λ noted later. either_few noted _ _ _ _ (λ last. refl) (λ last. native_few name given spot last) later) s

      applied_few : (name : Text) (given : List Value) (spot : Spot) → Steady (λ s. applied setting deep body name given spot s)
      applied_few name given spot s = called_few (find_rule name s.worlds.now) name given spot s

    for_all_few : (texts : Value) (act : Text → State R → Outcome R Flow) → ((text : Text) → Steady (act text)) → Steady (λ s. for_all texts act s)
    for_all_few [] act more s = refl
    for_all_few (text ∷ texts) act more s = go_few _ _ _ _ (more text s) (λ later. for_all_few texts act more later)

    set_name_few : (how : Sign) (value : Value) (spot : Spot) (name : Text) → Steady (λ s. set_name how value spot name s)
    set_name_few sign.Set value spot name s = refl
    set_name_few sign.Add value spot name s = then_few _ _ _ _ (joined_few (unwrap_or (assigned s.worlds.now.scopes name) []) value spot s) (λ longer later. refl)
    set_name_few sign.Fill value spot name s = either_few (is_empty (unwrap_or (assigned s.worlds.now.scopes name) [])) _ _ _ _ (λ later. refl) (λ later. refl) s

    set_own_few : (how : Sign) (value : Value) (spot : Spot) (target name : Text) → Steady (λ s. set_own how value spot target name s)
    set_own_few sign.Set value spot target name s = refl
    set_own_few sign.Add value spot target name s = then_few _ _ _ _ (joined_few (own_value target name s) value spot s) (λ longer later. refl)
    set_own_few sign.Fill value spot target name s = either_few (is_empty (own_value target name s)) _ _ _ _ (λ later. refl) (λ later. refl) s

    while_few : (most more : ℕ) (spot : Spot) (test : State R → Outcome R Bool) (round : State R → Outcome R Flow) → Steady test → Steady round → (s : State R)
        → Few (while_rounds most setting.budget spot test round s) (while_rounds (most + more) setting.budget spot test round (More s))
    while_few zero more spot test round one two s = inl refl
    while_few (suc most) more spot test round one two s =
        let e : suc most + more ≡ suc (most + more) = omega arith in
        subst (λ m. Few (while_rounds (suc most) setting.budget spot test round s) (while_rounds m setting.budget spot test round (More s))) (sym e)
        (then_few (test s) (test (More s)) _ _ (one s) (λ holds later. either_few holds _ _ _ _
        (λ last. turn_few spot _ _ (λ begun. go_few _ _ _ _ (two begun) (λ next. while_few most more spot test round one two next)) last) (λ last. refl) later))

    for_few : (items : Value) (spot : Spot) (name : Text) (round : State R → Outcome R Flow) → Steady round → Steady (λ s. for_rounds items setting.budget spot name round s)
    for_few [] spot name round more s = refl
    for_few (item ∷ items) spot name round more s =
        turn_few spot _ _ (λ later. go_few _ _ _ _ (more (with_scopes (assign name (item ∷ [])) later)) (λ next. for_few items spot name round more next)) s

    loop_few : (own : Bool) (name : Text) (rounds : State R → Outcome R Flow) → Steady rounds → Steady (λ s. for_loop own name rounds s)
    loop_few true name rounds more s = frame_few _ (λ later. more (with_scopes (bind name []) later)) s
    loop_few false name rounds more s = more s

    local_few : (value : Option ArgTrees) (spot : Spot) → Steady (λ s. local_value setting deep value spot s)
    local_few None spot s = refl
    local_few (Some value) spot s = args_few value spot s

    block_few : (trees : StmtTrees) (spot : Spot) → Steady (λ s. block setting deep trees spot s)
    block_few trees spot s = frame_few _ (λ later. down.stmts_few trees spot.path spot later) s

    case_few : (text : Text) (cases : CaseTrees) (spot : Spot) → Steady (λ s. first_case setting deep text cases spot s)
    case_few text tree.NoCases spot s = refl
    case_few text (tree.CaseAnd pattern trees rest) spot s =
        either_few (setting.sight.matching pattern text) _ _ _ _ (λ later. block_few trees spot later) (λ later. case_few text rest spot later) s

    started_few : (line : ℕ) (spot : Spot) (act : Spot → State R → Outcome R Flow) → ((at : Spot) → Steady (act at)) → Steady (λ s. started setting deep line spot act s)
    started_few line spot act more s = turn_few _ _ _ (λ later. more _ later) s

    mutual
      form_few : (f : FormTree) (spot : Spot) → Steady (λ s. form setting deep f spot s)
      form_few (tree.Braces trees) spot s = block_few trees spot s
      form_few (tree.Local names value) spot s =
          then_few _ _ _ _ (args_few names spot s) (λ ns later. then_few _ _ _ _ (local_few value spot later) (λ v last. refl))
      form_few (tree.Assign target how value) spot s =
          then_few _ _ _ _ (arg_few target spot s) (λ names later. then_few _ _ _ _ (args_few value spot later)
          (λ v last. for_all_few names _ (λ name next. set_name_few how v spot name next) last))
      form_few (tree.AssignOn target on how value) spot s =
          then_few _ _ _ _ (arg_few target spot s) (λ names one. then_few _ _ _ _ (args_few on spot one)
          (λ targets two. then_few _ _ _ _ (args_few value spot two)
          (λ v last. for_all_few targets _ (λ t next. for_all_few names _ (λ name end. set_own_few how v spot t name end) next) last)))
      form_few (tree.Include names) spot s = then_few _ _ _ _ (args_few names spot s) (λ ns later. included_few ns spot later)
      form_few (tree.Return value) spot s = then_few _ _ _ _ (args_few value spot s) (λ v later. refl)
      form_few (tree.If test trees next) spot s =
          then_few _ _ _ _ (expr_few test spot s) (λ holds later. either_few holds _ _ _ _ (λ last. block_few trees spot last) (λ last. other_few next spot last) later)
      form_few (tree.For own name items trees) spot s =
          then_few _ _ _ _ (args_few items spot s) (λ texts later. loop_few own name _ (λ last. for_few texts spot name _ (λ next. block_few trees spot next) last) later)
      form_few (tree.While test trees) spot s =
          let e : suc s.left + k ≡ suc (s.left + k) = omega arith in
          subst (λ m. Few (form setting deep (tree.While test trees) spot s) (while_rounds m setting.budget spot (λ later. expr setting.budget deep test spot later) (λ later. block setting deep trees spot later) (More s))) e
          (while_few (suc s.left) k spot (λ later. expr setting.budget deep test spot later) (λ later. block setting deep trees spot later) (λ later. expr_few test spot later) (λ later. block_few trees spot later) s)
      form_few (tree.Switch value cases) spot s =
          then_few _ _ _ _ (args_few value spot s) (λ texts later. case_few _ cases spot later)
      form_few (tree.Module name trees) spot s =
          then_few _ _ _ _ (args_few name spot s) (λ names later. module_few _ _ (λ last. down.stmts_few trees spot.path spot last) later)
      form_few (tree.Rule name params trees) spot s = refl
      form_few (tree.Actions name t e q body) spot s = refl
      form_few (tree.On target line f) spot s =
          then_few _ _ _ _ (arg_few target spot s) (λ targets later. target_few targets _ (λ last. started_few line spot _ (λ at next. form_few f at next) last) later)
      form_few (tree.Call head given) spot s = then_few _ _ _ _ (call_of_few head given spot s) (λ value later. refl)

      other_few : (o : OtherTree) (spot : Spot) → Steady (λ s. other setting deep o spot s)
      other_few tree.Nothing spot s = refl
      other_few (tree.ElseBraces trees) spot s = block_few trees spot s
      other_few (tree.ElseIf line f) spot s = started_few line spot _ (λ at later. form_few f at later) s

    all_few' : (trees : StmtTrees) (path : Text) → Steady (λ s. stmts setting deep trees path s)
    all_few' tree.NoStmts path s = refl
    all_few' (tree.StmtAnd line f rest) path s =
        go_few _ _ _ _ (started_few line (record { path = path; line = line }) (λ at later. form setting deep f at later) (λ at later. form_few f at later) s) (λ later. all_few' rest path later)

    one_level_few : FewLevels (one_level setting deep)
    one_level_few = record {
      stmts_few = λ trees path spot s. all_few' trees path s;
      call_few = λ name given spot s. applied_few (rule_body setting deep) (λ rule later. all_few' rule.block rule.path later) name given spot s;
      bracket_few = λ i spot s. inner_few i spot s;
      bracket_call_few = λ head first spot s. call_head_few head (first ∷ []) spot s;
    }

  levels_few : (n : ℕ) → FewLevels (levels setting n)
  levels_few zero = record {
    stmts_few = λ trees path spot s. inr refl;
    call_few = λ name given spot s. inr refl;
    bracket_few = λ i spot s. inr refl;
    bracket_call_few = λ head first spot s. inr refl;
  }
  levels_few (suc n) = one_level_few (levels setting n) (levels_few n)

  pub run_few : (path : Text) (trees : StmtTrees) (s : State R) → IsFewer setting.budget k (run setting path trees s) (run setting path trees (with_more k s))
  run_few path trees s =
      file_few (levels setting most_levels) (levels_few most_levels) _ _ (frame_few _ (λ later. all_few' (levels setting most_levels) (levels_few most_levels) trees path later) s)

  pub run_call_few : (name : Text) (given : List Value) (spot : Spot) (s : State R) → IsFewer setting.budget k (run_call setting name given spot s) (run_call setting name given spot (with_more k s))
  run_call_few name given spot s = call_few' (levels setting most_levels) (levels_few most_levels) name given spot s
