-- Evaluation over two settings that show the same outside the output roots with which it ends.
use Rattle.std.proofs.Common.{◌≡◌, ℕ, zero, suc, Bool, true, false, List, [], ◌∷◌, Option, Some, None, Result, Ok, Err, refl, sym, ap, ◌∙◌}
use Rattle.std.specs.Option.{unwrap_or}
use Rattle.b2_base.specs.declared.expand_fault.ExpandFault.{ExpandFault}
use Rattle.b2_base.specs.Segments.{path_from}
use Rattle.b2_host.specs.Disks.{Folder}
use Rattle.jam_grammar.specs.declared.tree.Sign.{Sign}
use Rattle.jam_grammar.specs.declared.tree.Sign.TheVariants as sign
use Rattle.jam_grammar.specs.Trees as tree
use Rattle.jam_grammar.specs.Trees.{ArgTree, InnerTree, ArgTrees, ListTrees, ExprTree, ExprTrees, FormTree, OtherTree, StmtTrees, CaseTrees}
use Rattle.jam_journal.specs.Tables.{Text, Key}
use Rattle.jam_journal.specs.Scopes.{Value, Binding, enter, enter_call, bind, bind_each, assign, assigned}
use Rattle.jam_scope.specs.Rules.{Rule}
use Rattle.jam_scope.specs.Changes.{freeze_roots}
use Rattle.jam_scope.specs.Lines.{find_rule, actions_place}
use Rattle.jam_meaning.specs.declared.native_answer.NativeStep.{NativeStep}
use Rattle.jam_meaning.specs.declared.native_answer.NativeStep.TheVariants as steps
use Rattle.jam_meaning.specs.Faults.{Spot, include}
use Rattle.jam_meaning.specs.States.{State, with_world, with_scopes}
use Rattle.jam_meaning.specs.Settings as settings
use Rattle.jam_meaning.specs.Settings.{Setting, Told, Reading}
use Rattle.jam_meaning.specs.Outcomes.{Outcome, gives, faults, Flow, goes_on, returns, then_do, then_go, either, fault_at, by_turns, take_turn, expanded, joined, close_frame, in_module, in_frame, own_bindings, on_target}
use Rattle.jam_meaning.specs.Levels.{Levels}
use Rattle.jam_meaning.specs.Params.{call_binds}
use Rattle.jam_meaning.specs.Args.{arg, args_after, args, lists, call, call_with, call_head, call_of, inner}
use Rattle.jam_meaning.specs.Conds.{compared, expr, any_of, all_of}
use Rattle.jam_meaning.specs.Includes.{is_in_roots, file_ended, read_so, included}
use Rattle.jam_meaning.specs.RuleCalls.{value_of, transformed, filtered, stepped, as_told, native_answer, acted_answer, told, recorded, native_call, acted_at, bound_call, called, applied}
use Rattle.jam_meaning.specs.Forms.{is_empty, own_value, for_all, set_name, set_own, while_rounds, for_rounds, for_loop, local_value, block, first_case, started, form, other, stmts}
use Rattle.jam_meaning.specs.Eval.{rule_body, one_level, levels, run, run_call, most_levels}
use Rattle.jam_source_laws.specs.Sources.{is_hidden, over, HasRoots, EndsIn, EndsInTold, Agree, ShowSame}

module _ {R : Type 0} (roots : List Text) (setting : Setting R) (folder : Folder) (names : Text → List Text) (reading : Text → Reading)
    (show : ShowSame roots setting (over setting folder names reading)) where
  abbrev two : Setting R
  two = over setting folder names reading

  -- from each state the one function agrees with the other
  abbrev Both : {A : Type 0} → (State R → Outcome R A) → (State R → Outcome R A) → Type 0
  Both f g = (s : State R) → Agree roots s (f s) (g s)

  stays : {A : Type 0} (s : State R) (o : Outcome R A) → (EndsIn roots o → HasRoots roots s) → Agree roots s o o
  stays s o back = λ good. (back good, refl)

  then_agrees : {A B : Type 0} (s : State R) (few many : Outcome R A) (next other : A → State R → Outcome R B) → Agree roots s few many → ((a : A) → Both (next a) (other a)) → Agree roots s (then_do few next) (then_do many other)
  then_agrees s (gives a later) many next other is more = λ good. ((is ((more a later good).0)).0, (more a later good).1 ∙ ap (λ o. then_do o other) (is ((more a later good).0)).1)
  then_agrees s (faults fault later) many next other is more = λ good. ((is good).0, ap (λ o. then_do o other) (is good).1)

  go_agrees : (s : State R) (few many : Outcome R Flow) (next other : State R → Outcome R Flow) → Agree roots s few many → Both next other → Agree roots s (then_go few next) (then_go many other)
  go_agrees s (gives goes_on later) many next other is more = λ good. ((is ((more later good).0)).0, (more later good).1 ∙ ap (λ o. then_go o other) (is ((more later good).0)).1)
  go_agrees s (gives (returns value) later) many next other is more = λ good. ((is good).0, ap (λ o. then_go o other) (is good).1)
  go_agrees s (faults fault later) many next other is more = λ good. ((is good).0, ap (λ o. then_go o other) (is good).1)

  either_agrees : {A : Type 0} (b : Bool) (f f' g g' : State R → Outcome R A) → Both f f' → Both g g' → Both (λ s. either b f g s) (λ s. either b f' g' s)
  either_agrees true f f' g g' first second s = first s
  either_agrees false f f' g g' first second s = second s

  by_turns_agrees : {A : Type 0} (n : ℕ) (spot : Spot) (s : State R) (next other : State R → Outcome R A) → Both next other → Agree roots s (by_turns n setting.budget spot s next) (by_turns n setting.budget spot s other)
  by_turns_agrees zero spot s next other more = λ good. (good, refl)
  by_turns_agrees (suc n) spot s next other more = more (record s { left = n })

  turn_agrees : {A : Type 0} (spot : Spot) (next other : State R → Outcome R A) → Both next other → Both (λ s. take_turn setting.budget spot s next) (λ s. take_turn setting.budget spot s other)
  turn_agrees spot next other more s = by_turns_agrees s.left spot s next other more

  expanded_agrees : (r : Result Value ExpandFault) (spot : Spot) → Both (λ s. expanded r spot s) (λ s. expanded r spot s)
  expanded_agrees (Ok value) spot s = λ good. (good, refl)
  expanded_agrees (Err fault) spot s = λ good. (good, refl)

  joined_agrees : (found value : Value) (spot : Spot) → Both (λ s. joined found value spot s) (λ s. joined found value spot s)
  joined_agrees found value spot s = expanded_agrees _ spot s

  pub close_agrees : {A : Type 0} (s : State R) (few many : Outcome R A) → Agree roots s few many → Agree roots s (close_frame few) (close_frame many)
  close_agrees s (gives a later) many is = λ good. ((is good).0, ap close_frame (is good).1)
  close_agrees s (faults fault later) many is = λ good. ((is good).0, ap close_frame (is good).1)

  module_agrees : {A : Type 0} (owner : Text) (act other : State R → Outcome R A) → Both act other → Both (λ s. in_module owner act s) (λ s. in_module owner other s)
  module_agrees owner act other more s = close_agrees s _ _ (more (with_scopes (enter owner) s))

  frame_agrees : {A : Type 0} (act other : State R → Outcome R A) → Both act other → Both (λ s. in_frame act s) (λ s. in_frame other s)
  frame_agrees act other more s = module_agrees _ act other more s

  target_agrees : {A : Type 0} (targets : Value) (act other : State R → Outcome R A) → Both act other → Both (λ s. on_target targets act s) (λ s. on_target targets other s)
  target_agrees targets act other more s =
      frame_agrees (λ later. act (with_scopes (bind_each (own_bindings targets s)) later)) (λ later. other (with_scopes (bind_each (own_bindings targets s)) later))
      (λ later. more (with_scopes (bind_each (own_bindings targets s)) later)) s

  record AgreeLevels (deep down : Levels R) : Type 0 where
    stmts_agree : (trees : StmtTrees) (path : Text) (spot : Spot) → Both (λ s. deep.stmts trees path spot s) (λ s. down.stmts trees path spot s)
    call_agree : (name : Text) (given : List Value) (spot : Spot) → Both (λ s. deep.call name given spot s) (λ s. down.call name given spot s)
    bracket_agree : (i : InnerTree) (spot : Spot) → Both (λ s. deep.bracket i spot s) (λ s. down.bracket i spot s)
    bracket_call_agree : (head first : Value) (spot : Spot) → Both (λ s. deep.bracket_call head first spot s) (λ s. down.bracket_call head first spot s)

  module _ (deep down : Levels R) (agree : AgreeLevels deep down) where
    arg_agrees : (a : ArgTree) (spot : Spot) → Both (λ s. arg setting.budget deep a spot s) (λ s. arg setting.budget down a spot s)
    arg_agrees (tree.Word text) spot s = expanded_agrees _ spot s
    arg_agrees (tree.Bracket i) spot s = agree.bracket_agree i spot s

    args_after_agrees : (found : Value) (trees : ArgTrees) (spot : Spot) → Both (λ s. args_after setting.budget deep found trees spot s) (λ s. args_after setting.budget down found trees spot s)
    args_after_agrees found tree.NoArgs spot s = λ good. (good, refl)
    args_after_agrees found (tree.ArgAnd first rest) spot s =
        then_agrees s _ _ _ _ (arg_agrees first spot s) (λ value later. then_agrees later _ _ _ _ (joined_agrees found value spot later) (λ more last. args_after_agrees more rest spot last))

    args_agree : (trees : ArgTrees) (spot : Spot) → Both (λ s. args setting.budget deep trees spot s) (λ s. args setting.budget down trees spot s)
    args_agree trees spot s = args_after_agrees [] trees spot s

    lists_agree : (trees : ListTrees) (spot : Spot) → Both (λ s. lists setting.budget deep trees spot s) (λ s. lists setting.budget down trees spot s)
    lists_agree tree.NoLists spot s = λ good. (good, refl)
    lists_agree (tree.ListAnd first rest) spot s =
        then_agrees s _ _ _ _ (args_agree first spot s) (λ value later. then_agrees later _ _ _ _ (lists_agree rest spot later) (λ more last good. (good, refl)))

    call_agrees : (name : Text) (given : List Value) (spot : Spot) → Both (λ s. call setting.budget deep name given spot s) (λ s. call setting.budget down name given spot s)
    call_agrees name given spot s = turn_agrees spot _ _ (λ later. agree.call_agree name given spot later) s

    call_with_agrees : (name : Text) (more : Value) (given : List Value) (spot : Spot) → Both (λ s. call_with setting.budget deep name more given spot s) (λ s. call_with setting.budget down name more given spot s)
    call_with_agrees name more [] spot s = call_agrees name (more ∷ []) spot s
    call_with_agrees name more (first ∷ rest) spot s = then_agrees s _ _ _ _ (joined_agrees more first spot s) (λ value later. call_agrees name (value ∷ rest) spot later)

    call_head_agrees : (head : Value) (given : List Value) (spot : Spot) → Both (λ s. call_head setting.budget deep head given spot s) (λ s. call_head setting.budget down head given spot s)
    call_head_agrees [] given spot s = λ good. (good, refl)
    call_head_agrees (name ∷ more) given spot s = call_with_agrees name more given spot s

    call_of_agrees : (head : ArgTree) (given : ListTrees) (spot : Spot) → Both (λ s. call_of setting.budget deep head given spot s) (λ s. call_of setting.budget down head given spot s)
    call_of_agrees head given spot s =
        then_agrees s _ _ _ _ (arg_agrees head spot s) (λ found later. then_agrees later _ _ _ _ (lists_agree given spot later) (λ values last. call_head_agrees found values spot last))

    inner_agrees : (i : InnerTree) (spot : Spot) → Both (λ s. inner setting.budget deep i spot s) (λ s. inner setting.budget down i spot s)
    inner_agrees (tree.CallOf head given) spot s = call_of_agrees head given spot s
    inner_agrees (tree.OnInner target more) spot s =
        then_agrees s _ _ _ _ (arg_agrees target spot s) (λ targets later. target_agrees targets _ _ (λ last. inner_agrees more spot last) later)
    inner_agrees (tree.OnReturn target value) spot s =
        then_agrees s _ _ _ _ (arg_agrees target spot s) (λ targets later. target_agrees targets _ _ (λ last. args_agree value spot last) later)

    compared_agrees : (test : Value → Value → Bool) (s : State R) (few many : Outcome R Value) (right other : State R → Outcome R Value) → Agree roots s few many → Both right other
        → Agree roots s (compared setting.budget deep test few right) (compared setting.budget down test many other)
    compared_agrees test s few many right other left more = then_agrees s few many _ _ left (λ a later. then_agrees later _ _ _ _ (more later) (λ b last good. (good, refl)))

    mutual
      expr_agrees : (e : ExprTree) (spot : Spot) → Both (λ s. expr setting.budget deep e spot s) (λ s. expr setting.budget down e spot s)
      expr_agrees (tree.Or members) spot s = any_agrees members spot s
      expr_agrees (tree.And members) spot s = all_agrees members spot s
      expr_agrees (tree.Not e) spot s = then_agrees s _ _ _ _ (expr_agrees e spot s) (λ holds later good. (good, refl))
      expr_agrees (tree.Group e) spot s = expr_agrees e spot s
      expr_agrees (tree.Bare a) spot s = then_agrees s _ _ _ _ (arg_agrees a spot s) (λ value later good. (good, refl))
      expr_agrees (tree.Equal a b) spot s = compared_agrees _ s _ _ _ _ (arg_agrees a spot s) (λ later. arg_agrees b spot later)
      expr_agrees (tree.Differ a b) spot s = compared_agrees _ s _ _ _ _ (arg_agrees a spot s) (λ later. arg_agrees b spot later)
      expr_agrees (tree.Within a list) spot s = compared_agrees _ s _ _ _ _ (arg_agrees a spot s) (λ later. args_agree list spot later)

      any_agrees : (es : ExprTrees) (spot : Spot) → Both (λ s. any_of setting.budget deep es spot s) (λ s. any_of setting.budget down es spot s)
      any_agrees tree.NoExprs spot s = λ good. (good, refl)
      any_agrees (tree.ExprAnd first rest) spot s =
          then_agrees s _ _ _ _ (expr_agrees first spot s) (λ holds later. either_agrees holds _ _ _ _ (λ last good. (good, refl)) (λ last. any_agrees rest spot last) later)

      all_agrees : (es : ExprTrees) (spot : Spot) → Both (λ s. all_of setting.budget deep es spot s) (λ s. all_of setting.budget down es spot s)
      all_agrees tree.NoExprs spot s = λ good. (good, refl)
      all_agrees (tree.ExprAnd first rest) spot s =
          then_agrees s _ _ _ _ (expr_agrees first spot s) (λ holds later. either_agrees holds _ _ _ _ (λ last. all_agrees rest spot last) (λ last good. (good, refl)) later)

    file_agrees : (s : State R) (few many : Outcome R Flow) → Agree roots s few many → Agree roots s (file_ended few) (file_ended many)
    file_agrees s (gives flow later) many is = λ good. ((is good).0, ap file_ended (is good).1)
    file_agrees s (faults fault later) many is = λ good. ((is good).0, ap file_ended (is good).1)

    read_agrees : (r : Reading) (path : Text) (spot : Spot) → Both (λ s. read_so setting deep r path spot s) (λ s. read_so two down r path spot s)
    read_agrees settings.is_missing path spot s = λ good. (good, refl)
    read_agrees (settings.is_too_big size) path spot s = λ good. (good, refl)
    read_agrees (settings.has_no_tokens fault) path spot s = λ good. (good, refl)
    read_agrees (settings.has_no_tree line found) path spot s = λ good. (good, refl)
    read_agrees (settings.is_file trees) path spot s =
        then_agrees s _ _ _ _ (file_agrees s _ _ (frame_agrees _ _ (λ later. agree.stmts_agree trees path spot later) s)) (λ ended later good. (good, refl))

    -- a file that is not hidden reads the same; a hidden one is not looked at
    look_agrees : (hidden : Bool) (path : Text) (spot : Spot) (s : State R) → is_in_roots s.worlds.now path ≡ hidden → s.worlds.now.frozen ≡ true
        → Agree roots s (either hidden (λ later. fault_at spot (include path) later) (λ later. read_so setting deep (setting.reading path) path spot later) s)
        (either hidden (λ later. fault_at spot (include path) later) (λ later. read_so two down (reading path) path spot later) s)
    look_agrees true path spot s is frozen = λ good. (good, refl)
    look_agrees false path spot s is frozen = λ good.
        let one : HasRoots roots s × (read_so setting deep (setting.reading path) path spot s ≡ read_so two down (setting.reading path) path spot s) = read_agrees (setting.reading path) path spot s good in
        let seen : is_hidden roots path ≡ false = ap (λ rs. is_hidden rs path) (sym (one.0 frozen)) ∙ is in
        (one.0, one.1 ∙ ap (λ r. read_so two down r path spot s) (show.reads path seen))

    included_agrees : (found : Value) (spot : Spot) → Both (λ s. included setting deep found spot s) (λ s. included two down found spot s)
    included_agrees [] spot s = λ good. (good, refl)
    included_agrees (name ∷ more) spot s = λ good.
        let path : Text = path_from s.worlds.now.place name in
        let frozen : State R = with_world freeze_roots s in
        let one = look_agrees (is_in_roots frozen.worlds.now path) path spot frozen refl refl good in
        ((λ already. one.0 refl), one.1)

    value_agrees : (s : State R) (few many : Outcome R Flow) → Agree roots s few many → Agree roots s (value_of few) (value_of many)
    value_agrees s (gives goes_on later) many is = λ good. ((is good).0, ap value_of (is good).1)
    value_agrees s (gives (returns value) later) many is = λ good. ((is good).0, ap value_of (is good).1)
    value_agrees s (faults fault later) many is = λ good. ((is good).0, ap value_of (is good).1)

    module _ (body other_body : Rule → State R → Outcome R Flow) (bodies : (rule : Rule) → Both (body rule) (other_body rule)) where
      transformed_agrees : (rule found items : Value) (spot : Spot) → Both (λ s. transformed setting deep body rule found items spot s) (λ s. transformed two down other_body rule found items spot s)
      transformed_agrees rule found [] spot s = λ good. (good, refl)
      transformed_agrees rule found (item ∷ items) spot s =
          then_agrees s _ _ _ _ (agree.bracket_call_agree rule (item ∷ []) spot s) (λ value later. then_agrees later _ _ _ _ (joined_agrees found value spot later) (λ more last. transformed_agrees rule more items spot last))

      filtered_agrees : (rule items : Value) (spot : Spot) → Both (λ s. filtered setting deep body rule items spot s) (λ s. filtered two down other_body rule items spot s)
      filtered_agrees rule [] spot s = λ good. (good, refl)
      filtered_agrees rule (item ∷ items) spot s =
          then_agrees s _ _ _ _ (agree.bracket_call_agree rule (item ∷ []) spot s) (λ value later. then_agrees later _ _ _ _ (filtered_agrees rule items spot later) (λ more last good. (good, refl)))

      stepped_agrees : (name : Text) (spot : Spot) (step : NativeStep) → Both (λ s. stepped setting deep body name spot step s) (λ s. stepped two down other_body name spot step s)
      stepped_agrees name spot steps.Unknown s = λ good. (good, refl)
      stepped_agrees name spot (steps.Value value) s = λ good. (good, refl)
      stepped_agrees name spot (steps.Exit text) s = λ good. (good, refl)
      stepped_agrees name spot (steps.Each rule items filter) s =
          either_agrees filter _ _ _ _ (λ later. filtered_agrees rule items spot later) (λ later. transformed_agrees rule [] items spot later) s

      told_agrees : (name : Text) (spot : Spot) (s : State R) (t : Told NativeStep R) → EndsIn roots (told setting deep body name spot s t)
          → EndsInTold roots s t × (told setting deep body name spot s t ≡ told two down other_body name spot s t)
      told_agrees name spot s (settings.answers step worlds now) = stepped_agrees name spot step (as_told worlds now s)
      told_agrees name spot s (settings.refuses cause worlds now) = λ good. (good, refl)

      native_agrees : (name : Text) (given : List Value) (spot : Spot) → Both (λ s. native_call setting deep body name given spot s) (λ s. native_call two down other_body name given spot s)
      native_agrees name given spot s = λ good.
          let one = told_agrees name spot s (native_answer setting name given spot.line s) good in
          let asked = show.native name given spot.line s one.0 in
          (asked.0, one.1 ∙ ap (λ t. told two down other_body name spot s t) asked.1)

      recorded_agrees : (name : Text) (spot : Spot) (s : State R) (t : Told Bool R) (next after : Bool → State R → Outcome R Value) → (EndsInTold roots s t → HasRoots roots s) → ((b : Bool) → Both (next b) (after b))
          → Agree roots s (recorded setting deep body name spot s t next) (recorded two down other_body name spot s t after)
      recorded_agrees name spot s (settings.answers true worlds now) next after back more = λ good. (back (more true (as_told worlds now s) good).0, (more true (as_told worlds now s) good).1)
      recorded_agrees name spot s (settings.answers false worlds now) next after back more = more false s
      recorded_agrees name spot s (settings.refuses cause worlds now) next after back more = λ good. (back good, refl)

      acted_at_agrees : (at : Option Key) (name : Text) (given : List Value) (spot : Spot) (next after : Bool → State R → Outcome R Value) → ((b : Bool) → Both (next b) (after b))
          → Both (λ s. acted_at setting deep body at name given spot s next) (λ s. acted_at two down other_body at name given spot s after)
      acted_at_agrees None name given spot next after more s = more false s
      acted_at_agrees (Some at) name given spot next after more s =
          recorded_agrees name spot s (acted_answer setting name given spot.line s) next after (show.records name given spot.line s) more

      bound_agrees : (rule : Rule) (name : Text) (bs : Option (List Binding)) (spot : Spot) → Both (λ s. bound_call setting deep body rule name bs spot s) (λ s. bound_call two down other_body rule name bs spot s)
      bound_agrees rule name None spot s = λ good. (good, refl)
      bound_agrees rule name (Some bs) spot s = value_agrees s _ _ (close_agrees s _ _ (bodies rule (with_scopes (bind_each bs) (with_scopes (enter_call rule.home) s))))

      called_agrees : (rule : Option Rule) (name : Text) (given : List Value) (spot : Spot) → Both (λ s. called setting deep body rule name given spot s) (λ s. called two down other_body rule name given spot s)
      called_agrees (Some rule) name given spot s =
          then_agrees s _ _ _ _ (bound_agrees rule name (call_binds rule.params given) spot s)
          (λ value later. acted_at_agrees (actions_place name later.worlds.now) name given spot _ _ (λ noted last good. (good, refl)) later)
      called_agrees None name given spot s =
          acted_at_agrees (actions_place name s.worlds.now) name given spot _ _
          (λ noted later. either_agrees noted _ _ _ _ (λ last good. (good, refl)) (λ last. native_agrees name given spot last) later) s

      applied_agrees : (name : Text) (given : List Value) (spot : Spot) → Both (λ s. applied setting deep body name given spot s) (λ s. applied two down other_body name given spot s)
      applied_agrees name given spot s = called_agrees (find_rule name s.worlds.now) name given spot s

    for_all_agrees : (texts : Value) (act after : Text → State R → Outcome R Flow) → ((text : Text) → Both (act text) (after text)) → Both (λ s. for_all texts act s) (λ s. for_all texts after s)
    for_all_agrees [] act after more s = λ good. (good, refl)
    for_all_agrees (text ∷ texts) act after more s = go_agrees s _ _ _ _ (more text s) (λ later. for_all_agrees texts act after more later)

    set_name_agrees : (how : Sign) (value : Value) (spot : Spot) (name : Text) → Both (λ s. set_name how value spot name s) (λ s. set_name how value spot name s)
    set_name_agrees sign.Set value spot name s = λ good. (good, refl)
    set_name_agrees sign.Add value spot name s = then_agrees s _ _ _ _ (joined_agrees (unwrap_or (assigned s.worlds.now.scopes name) []) value spot s) (λ longer later good. (good, refl))
    set_name_agrees sign.Fill value spot name s = either_agrees (is_empty (unwrap_or (assigned s.worlds.now.scopes name) [])) _ _ _ _ (λ later good. (good, refl)) (λ later good. (good, refl)) s

    set_own_agrees : (how : Sign) (value : Value) (spot : Spot) (target name : Text) → Both (λ s. set_own how value spot target name s) (λ s. set_own how value spot target name s)
    set_own_agrees sign.Set value spot target name s = λ good. (good, refl)
    set_own_agrees sign.Add value spot target name s = then_agrees s _ _ _ _ (joined_agrees (own_value target name s) value spot s) (λ longer later good. (good, refl))
    set_own_agrees sign.Fill value spot target name s = either_agrees (is_empty (own_value target name s)) _ _ _ _ (λ later good. (good, refl)) (λ later good. (good, refl)) s

    while_agrees : (most : ℕ) (spot : Spot) (test check : State R → Outcome R Bool) (round again : State R → Outcome R Flow) → Both test check → Both round again
        → Both (λ s. while_rounds most setting.budget spot test round s) (λ s. while_rounds most setting.budget spot check again s)
    while_agrees zero spot test check round again tests rounds s = λ good. (good, refl)
    while_agrees (suc most) spot test check round again tests rounds s =
        then_agrees s _ _ _ _ (tests s) (λ holds later. either_agrees holds _ _ _ _
        (λ last. turn_agrees spot _ _ (λ begun. go_agrees begun _ _ _ _ (rounds begun) (λ next. while_agrees most spot test check round again tests rounds next)) last)
        (λ last good. (good, refl)) later)

    for_agrees : (items : Value) (spot : Spot) (name : Text) (round again : State R → Outcome R Flow) → Both round again → Both (λ s. for_rounds items setting.budget spot name round s) (λ s. for_rounds items setting.budget spot name again s)
    for_agrees [] spot name round again more s = λ good. (good, refl)
    for_agrees (item ∷ items) spot name round again more s =
        turn_agrees spot _ _ (λ later. go_agrees later _ _ _ _ (more (with_scopes (assign name (item ∷ [])) later)) (λ next. for_agrees items spot name round again more next)) s

    loop_agrees : (own : Bool) (name : Text) (rounds again : State R → Outcome R Flow) → Both rounds again → Both (λ s. for_loop own name rounds s) (λ s. for_loop own name again s)
    loop_agrees true name rounds again more s = frame_agrees _ _ (λ later. more (with_scopes (bind name []) later)) s
    loop_agrees false name rounds again more s = more s

    local_agrees : (value : Option ArgTrees) (spot : Spot) → Both (λ s. local_value setting deep value spot s) (λ s. local_value two down value spot s)
    local_agrees None spot s = λ good. (good, refl)
    local_agrees (Some value) spot s = args_agree value spot s

    block_agrees : (trees : StmtTrees) (spot : Spot) → Both (λ s. block setting deep trees spot s) (λ s. block two down trees spot s)
    block_agrees trees spot s = frame_agrees _ _ (λ later. agree.stmts_agree trees spot.path spot later) s

    case_agrees : (text : Text) (cases : CaseTrees) (spot : Spot) → Both (λ s. first_case setting deep text cases spot s) (λ s. first_case two down text cases spot s)
    case_agrees text tree.NoCases spot s = λ good. (good, refl)
    case_agrees text (tree.CaseAnd pattern trees rest) spot s =
        either_agrees (setting.sight.matching pattern text) _ _ _ _ (λ later. block_agrees trees spot later) (λ later. case_agrees text rest spot later) s

    started_agrees : (line : ℕ) (spot : Spot) (act after : Spot → State R → Outcome R Flow) → ((at : Spot) → Both (act at) (after at)) → Both (λ s. started setting deep line spot act s) (λ s. started two down line spot after s)
    started_agrees line spot act after more s = turn_agrees _ _ _ (λ later. more _ later) s

    mutual
      form_agrees : (f : FormTree) (spot : Spot) → Both (λ s. form setting deep f spot s) (λ s. form two down f spot s)
      form_agrees (tree.Braces trees) spot s = block_agrees trees spot s
      form_agrees (tree.Local found value) spot s =
          then_agrees s _ _ _ _ (args_agree found spot s) (λ ns later. then_agrees later _ _ _ _ (local_agrees value spot later) (λ v last good. (good, refl)))
      form_agrees (tree.Assign target how value) spot s =
          then_agrees s _ _ _ _ (arg_agrees target spot s) (λ ns later. then_agrees later _ _ _ _ (args_agree value spot later)
          (λ v last. for_all_agrees ns _ _ (λ name next. set_name_agrees how v spot name next) last))
      form_agrees (tree.AssignOn target on how value) spot s =
          then_agrees s _ _ _ _ (arg_agrees target spot s) (λ ns first. then_agrees first _ _ _ _ (args_agree on spot first)
          (λ targets second. then_agrees second _ _ _ _ (args_agree value spot second)
          (λ v last. for_all_agrees targets _ _ (λ t next. for_all_agrees ns _ _ (λ name end. set_own_agrees how v spot t name end) next) last)))
      form_agrees (tree.Include found) spot s = then_agrees s _ _ _ _ (args_agree found spot s) (λ ns later. included_agrees ns spot later)
      form_agrees (tree.Return value) spot s = then_agrees s _ _ _ _ (args_agree value spot s) (λ v later good. (good, refl))
      form_agrees (tree.If test trees next) spot s =
          then_agrees s _ _ _ _ (expr_agrees test spot s) (λ holds later. either_agrees holds _ _ _ _ (λ last. block_agrees trees spot last) (λ last. other_agrees next spot last) later)
      form_agrees (tree.For own name items trees) spot s =
          then_agrees s _ _ _ _ (args_agree items spot s) (λ texts later. loop_agrees own name _ _ (λ last. for_agrees texts spot name _ _ (λ next. block_agrees trees spot next) last) later)
      form_agrees (tree.While test trees) spot s = while_agrees (suc s.left) spot _ _ _ _ (λ later. expr_agrees test spot later) (λ later. block_agrees trees spot later) s
      form_agrees (tree.Switch value cases) spot s =
          then_agrees s _ _ _ _ (args_agree value spot s) (λ texts later. case_agrees _ cases spot later)
      form_agrees (tree.Module name trees) spot s =
          then_agrees s _ _ _ _ (args_agree name spot s) (λ ns later. module_agrees _ _ _ (λ last. agree.stmts_agree trees spot.path spot last) later)
      form_agrees (tree.Rule name params trees) spot s = λ good. (good, refl)
      form_agrees (tree.Actions name t e q body) spot s = λ good. (good, refl)
      form_agrees (tree.On target line f) spot s =
          then_agrees s _ _ _ _ (arg_agrees target spot s) (λ targets later. target_agrees targets _ _ (λ last. started_agrees line spot _ _ (λ at next. form_agrees f at next) last) later)
      form_agrees (tree.Call head given) spot s = then_agrees s _ _ _ _ (call_of_agrees head given spot s) (λ value later good. (good, refl))

      other_agrees : (o : OtherTree) (spot : Spot) → Both (λ s. other setting deep o spot s) (λ s. other two down o spot s)
      other_agrees tree.Nothing spot s = λ good. (good, refl)
      other_agrees (tree.ElseBraces trees) spot s = block_agrees trees spot s
      other_agrees (tree.ElseIf line f) spot s = started_agrees line spot _ _ (λ at later. form_agrees f at later) s

    all_agree : (trees : StmtTrees) (path : Text) → Both (λ s. stmts setting deep trees path s) (λ s. stmts two down trees path s)
    all_agree tree.NoStmts path s = λ good. (good, refl)
    all_agree (tree.StmtAnd line f rest) path s =
        go_agrees s _ _ _ _ (started_agrees line (record { path = path; line = line }) _ _ (λ at later. form_agrees f at later) s) (λ later. all_agree rest path later)

    one_level_agrees : AgreeLevels (one_level setting deep) (one_level two down)
    one_level_agrees = record {
      stmts_agree = λ trees path spot s. all_agree trees path s;
      call_agree = λ name given spot s. applied_agrees (rule_body setting deep) (rule_body two down) (λ rule later. all_agree rule.block rule.path later) name given spot s;
      bracket_agree = λ i spot s. inner_agrees i spot s;
      bracket_call_agree = λ head first spot s. call_head_agrees head (first ∷ []) spot s;
    }

  levels_agree : (n : ℕ) → AgreeLevels (levels setting n) (levels two n)
  levels_agree zero = record {
    stmts_agree = λ trees path spot s good. (good, refl);
    call_agree = λ name given spot s good. (good, refl);
    bracket_agree = λ i spot s good. (good, refl);
    bracket_call_agree = λ head first spot s good. (good, refl);
  }
  levels_agree (suc n) = one_level_agrees (levels setting n) (levels two n) (levels_agree n)

  pub run_agrees : (path : Text) (trees : StmtTrees) (s : State R) → Agree roots s (run setting path trees s) (run (over setting folder names reading) path trees s)
  run_agrees path trees s =
      file_agrees (levels setting most_levels) (levels two most_levels) (levels_agree most_levels) s _ _
      (frame_agrees _ _ (λ later. all_agree (levels setting most_levels) (levels two most_levels) (levels_agree most_levels) trees path later) s)

  pub run_call_agrees : (name : Text) (given : List Value) (spot : Spot) (s : State R) → Agree roots s (run_call setting name given spot s) (run_call (over setting folder names reading) name given spot s)
  run_call_agrees name given spot s = call_agrees (levels setting most_levels) (levels two most_levels) (levels_agree most_levels) name given spot s
