-- What each change keeps, evaluation keeps: values and calls the tight relation, statements the loose one.
use Rattle.std.proofs.Common.{◌≡◌, ℕ, zero, suc, Bool, true, false, List, [], ◌∷◌, Option, Some, None, Result, Ok, Err, refl}
use Rattle.std.specs.Option.{unwrap_or}
use Rattle.b2_base.specs.declared.expand_fault.ExpandFault.{ExpandFault}
use Rattle.b2_base.specs.Segments.{path_from}
use Rattle.jam_grammar.specs.declared.tree.Sign.{Sign}
use Rattle.jam_grammar.specs.declared.tree.Sign.TheVariants as sign
use Rattle.jam_grammar.specs.Trees as tree
use Rattle.jam_grammar.specs.Trees.{ArgTree, InnerTree, ArgTrees, ListTrees, ExprTree, ExprTrees, FormTree, OtherTree, StmtTrees, CaseTrees}
use Rattle.jam_journal.specs.Tables.{Text, Key}
use Rattle.jam_journal.specs.Scopes.{Value, Binding, enter, enter_call, bind, bind_each, assign, assigned}
use Rattle.jam_meaning.specs.Faults.{Spot, include}
use Rattle.jam_scope.specs.Rules.{Rule}
use Rattle.jam_scope.specs.Changes.{set_on, freeze_roots}
use Rattle.jam_scope.specs.Lines.{find_rule, actions_place}
use Rattle.jam_meaning.specs.declared.native_answer.NativeStep.{NativeStep}
use Rattle.jam_meaning.specs.declared.native_answer.NativeStep.TheVariants as steps
use Rattle.jam_meaning.specs.States.{State, with_world, with_scopes}
use Rattle.jam_meaning.specs.Settings as settings
use Rattle.jam_meaning.specs.Settings.{Setting, Told, Reading}
use Rattle.jam_meaning.specs.Outcomes.{Outcome, gives, faults, Flow, goes_on, returns, then_do, then_go, either, fault_at, by_turns, take_turn, expanded, joined, close_frame, in_module, in_frame, own_bindings, on_target}
use Rattle.jam_meaning.specs.Levels.{Levels}
use Rattle.jam_meaning.specs.Params.{call_binds}
use Rattle.jam_meaning.specs.Args.{arg, args_after, args, lists, call, call_with, call_head, call_of, inner}
use Rattle.jam_meaning.specs.Conds.{compared, expr, any_of, all_of}
use Rattle.jam_meaning.specs.Includes.{is_in_roots, file_ended, read_so, included_at, included}
use Rattle.jam_meaning.specs.RuleCalls.{value_of, transformed, filtered, stepped, told, recorded, native_call, acted_at, bound_call, called, applied}
use Rattle.jam_meaning.specs.Forms.{done, is_empty, own_value, for_all, bind_names, set_name, set_own, while_rounds, for_rounds, for_loop, local_value, block, first_case, started, form, other, stmts}
use Rattle.jam_meaning.specs.Eval.{rule_body, one_level, levels, run, run_call, most_levels}
use Rattle.jam_meaning.specs.Kept.{Ends, EndsTold}
use Rattle.jam_meaning.proofs.IsKept.{IsKept}

module _ {R : Type 0} (Rel : State R → State R → Type 0) (chain : (a b c : State R) → Rel a b → Rel b c → Rel a c) where
  shift_by : {A : Type 0} (s middle : State R) (o : Outcome R A) → Rel s middle → Ends Rel middle o → Ends Rel s o
  shift_by s middle (gives a later) before after = chain s middle later before after
  shift_by s middle (faults fault later) before after = chain s middle later before after

  go_by : (o : Outcome R Flow) (next : State R → Outcome R Flow) (s : State R) → Ends Rel s o → ((later : State R) → Ends Rel later (next later)) → Ends Rel s (then_go o next)
  go_by (gives goes_on later) next s first more = shift_by s later (next later) first (more later)
  go_by (gives (returns value) later) next s first more = first
  go_by (faults fault later) next s first more = first

  either_by : {A : Type 0} (b : Bool) (f g : State R → Outcome R A) (s : State R) → ((later : State R) → Ends Rel later (f later)) → ((later : State R) → Ends Rel later (g later)) → Ends Rel s (either b f g s)
  either_by true f g s one two = one s
  either_by false f g s one two = two s

module _ {R : Type 0} (setting : Setting R) (Tight Loose : State R → State R → Type 0) (kept : IsKept setting Tight Loose) where
  pub shift : {A : Type 0} (s middle : State R) (o : Outcome R A) → Tight s middle → Ends Tight middle o → Ends Tight s o
  shift s middle o before after = shift_by Tight kept.chain s middle o before after

  pub shift_loose : {A : Type 0} (s middle : State R) (o : Outcome R A) → Loose s middle → Ends Loose middle o → Ends Loose s o
  shift_loose s middle o before after = shift_by Loose kept.chain_loose s middle o before after

  pub loosened : {A : Type 0} (o : Outcome R A) (s : State R) → Ends Tight s o → Ends Loose s o
  loosened (gives a later) s h = kept.loosen s later h
  loosened (faults fault later) s h = kept.loosen s later h

  pub then_ends : {A B : Type 0} (o : Outcome R A) (next : A → State R → Outcome R B) (s : State R) → Ends Tight s o → ((a : A) (later : State R) → Ends Tight later (next a later)) → Ends Tight s (then_do o next)
  then_ends (gives a later) next s first more = shift s later (next a later) first (more a later)
  then_ends (faults fault later) next s first more = first

  -- a value, and then a statement
  pub then_runs : {A B : Type 0} (o : Outcome R A) (next : A → State R → Outcome R B) (s : State R) → Ends Tight s o → ((a : A) (later : State R) → Ends Loose later (next a later)) → Ends Loose s (then_do o next)
  then_runs (gives a later) next s first more = shift_loose s later (next a later) (kept.loosen s later first) (more a later)
  then_runs (faults fault later) next s first more = kept.loosen s later first

  pub go_ends : (o : Outcome R Flow) (next : State R → Outcome R Flow) (s : State R) → Ends Tight s o → ((later : State R) → Ends Tight later (next later)) → Ends Tight s (then_go o next)
  go_ends o next s first more = go_by Tight kept.chain o next s first more

  pub go_runs : (o : Outcome R Flow) (next : State R → Outcome R Flow) (s : State R) → Ends Loose s o → ((later : State R) → Ends Loose later (next later)) → Ends Loose s (then_go o next)
  go_runs o next s first more = go_by Loose kept.chain_loose o next s first more

  pub either_ends : {A : Type 0} (b : Bool) (f g : State R → Outcome R A) (s : State R) → ((later : State R) → Ends Tight later (f later)) → ((later : State R) → Ends Tight later (g later)) → Ends Tight s (either b f g s)
  either_ends b f g s one two = either_by Tight kept.chain b f g s one two

  pub either_runs : {A : Type 0} (b : Bool) (f g : State R → Outcome R A) (s : State R) → ((later : State R) → Ends Loose later (f later)) → ((later : State R) → Ends Loose later (g later)) → Ends Loose s (either b f g s)
  either_runs b f g s one two = either_by Loose kept.chain_loose b f g s one two

  pub by_turns_ends : {A : Type 0} (n budget : ℕ) (spot : Spot) (s : State R) (next : State R → Outcome R A) → s.left ≡ n → ((later : State R) → Ends Tight later (next later)) → Ends Tight s (by_turns n budget spot s next)
  by_turns_ends zero budget spot s next is more = kept.same s
  by_turns_ends (suc n) budget spot s next is more = shift s (record s { left = n }) (next (record s { left = n })) (kept.turn s n is) (more (record s { left = n }))

  pub turn_ends : {A : Type 0} (budget : ℕ) (spot : Spot) (s : State R) (next : State R → Outcome R A) → ((later : State R) → Ends Tight later (next later)) → Ends Tight s (take_turn budget spot s next)
  turn_ends budget spot s next more = by_turns_ends s.left budget spot s next refl more

  pub by_turns_runs : {A : Type 0} (n budget : ℕ) (spot : Spot) (s : State R) (next : State R → Outcome R A) → s.left ≡ n → ((later : State R) → Ends Loose later (next later)) → Ends Loose s (by_turns n budget spot s next)
  by_turns_runs zero budget spot s next is more = kept.loosen s s (kept.same s)
  by_turns_runs (suc n) budget spot s next is more = shift_loose s (record s { left = n }) (next (record s { left = n })) (kept.loosen s _ (kept.turn s n is)) (more (record s { left = n }))

  pub turn_runs : {A : Type 0} (budget : ℕ) (spot : Spot) (s : State R) (next : State R → Outcome R A) → ((later : State R) → Ends Loose later (next later)) → Ends Loose s (take_turn budget spot s next)
  turn_runs budget spot s next more = by_turns_runs s.left budget spot s next refl more

  pub expanded_ends : (r : Result Value ExpandFault) (spot : Spot) (s : State R) → Ends Tight s (expanded r spot s)
  expanded_ends (Ok value) spot s = kept.same s
  expanded_ends (Err fault) spot s = kept.same s

  pub joined_ends : (found value : Value) (spot : Spot) (s : State R) → Ends Tight s (joined found value spot s)
  joined_ends found value spot s = expanded_ends _ spot s

  pub close_ends : {A : Type 0} (owner : Text) (o : Outcome R A) (s : State R) → Ends Loose (with_scopes (enter owner) s) o → Ends Tight s (close_frame o)
  close_ends owner (gives a later) s h = kept.frame owner s later h
  close_ends owner (faults fault later) s h = kept.frame owner s later h

  pub close_call_ends : {A : Type 0} (owner : Text) (o : Outcome R A) (s : State R) → Ends Loose (with_scopes (enter_call owner) s) o → Ends Tight s (close_frame o)
  close_call_ends owner (gives a later) s h = kept.call_frame owner s later h
  close_call_ends owner (faults fault later) s h = kept.call_frame owner s later h

  pub module_ends : {A : Type 0} (owner : Text) (act : State R → Outcome R A) (s : State R) → ((later : State R) → Ends Loose later (act later)) → Ends Tight s (in_module owner act s)
  module_ends owner act s more = close_ends owner (act (with_scopes (enter owner) s)) s (more (with_scopes (enter owner) s))

  pub frame_ends : {A : Type 0} (act : State R → Outcome R A) (s : State R) → ((later : State R) → Ends Loose later (act later)) → Ends Tight s (in_frame act s)
  frame_ends act s more = module_ends _ act s more

  pub bind_each_keeps : (bs : List Binding) (s : State R) → Loose s (with_scopes (bind_each bs) s)
  bind_each_keeps [] s = kept.loosen s s (kept.same s)
  bind_each_keeps (b ∷ bs) s = kept.chain_loose s (with_scopes (bind b.0 b.1) s) _ (kept.binds b.0 b.1 s) (bind_each_keeps bs (with_scopes (bind b.0 b.1) s))

  pub bind_names_keeps : (names value : Value) (s : State R) → Loose s (with_scopes (bind_names names value) s)
  bind_names_keeps [] value s = kept.loosen s s (kept.same s)
  bind_names_keeps (name ∷ names) value s = kept.chain_loose s (with_scopes (bind name value) s) _ (kept.binds name value s) (bind_names_keeps names value (with_scopes (bind name value) s))

  pub target_ends : {A : Type 0} (targets : Value) (act : State R → Outcome R A) (s : State R) → ((later : State R) → Ends Loose later (act later)) → Ends Tight s (on_target targets act s)
  target_ends targets act s more =
      frame_ends (λ later. act (with_scopes (bind_each (own_bindings targets s)) later)) s
      (λ later. shift_loose later (with_scopes (bind_each (own_bindings targets s)) later) _ (bind_each_keeps (own_bindings targets s) later) (more _))

  pub record KeptLevels (deep : Levels R) : Type 0 where
    pub stmts_end : (trees : StmtTrees) (path : Text) (spot : Spot) (s : State R) → Ends Loose s (deep.stmts trees path spot s)
    pub call_ends : (name : Text) (given : List Value) (spot : Spot) (s : State R) → Ends Tight s (deep.call name given spot s)
    pub bracket_ends : (i : InnerTree) (spot : Spot) (s : State R) → Ends Tight s (deep.bracket i spot s)
    pub bracket_call_ends : (head first : Value) (spot : Spot) (s : State R) → Ends Tight s (deep.bracket_call head first spot s)

  module _ (budget : ℕ) (deep : Levels R) (down : KeptLevels deep) where
    pub arg_ends : (a : ArgTree) (spot : Spot) (s : State R) → Ends Tight s (arg budget deep a spot s)
    arg_ends (tree.Word text) spot s = expanded_ends _ spot s
    arg_ends (tree.Bracket i) spot s = down.bracket_ends i spot s

    pub args_after_ends : (found : Value) (trees : ArgTrees) (spot : Spot) (s : State R) → Ends Tight s (args_after budget deep found trees spot s)
    args_after_ends found tree.NoArgs spot s = kept.same s
    args_after_ends found (tree.ArgAnd first rest) spot s =
        then_ends _ _ s (arg_ends first spot s) (λ value later. then_ends _ _ later (joined_ends found value spot later) (λ more last. args_after_ends more rest spot last))

    pub args_ends : (trees : ArgTrees) (spot : Spot) (s : State R) → Ends Tight s (args budget deep trees spot s)
    args_ends trees spot s = args_after_ends [] trees spot s

    pub lists_ends : (trees : ListTrees) (spot : Spot) (s : State R) → Ends Tight s (lists budget deep trees spot s)
    lists_ends tree.NoLists spot s = kept.same s
    lists_ends (tree.ListAnd first rest) spot s =
        then_ends _ _ s (args_ends first spot s) (λ value later. then_ends _ _ later (lists_ends rest spot later) (λ more last. kept.same last))

    pub call_ends' : (name : Text) (given : List Value) (spot : Spot) (s : State R) → Ends Tight s (call budget deep name given spot s)
    call_ends' name given spot s = turn_ends budget spot s _ (λ later. down.call_ends name given spot later)

    pub call_with_ends : (name : Text) (more : Value) (given : List Value) (spot : Spot) (s : State R) → Ends Tight s (call_with budget deep name more given spot s)
    call_with_ends name more [] spot s = call_ends' name (more ∷ []) spot s
    call_with_ends name more (first ∷ rest) spot s =
        then_ends _ _ s (joined_ends more first spot s) (λ value later. call_ends' name (value ∷ rest) spot later)

    pub call_head_ends : (head : Value) (given : List Value) (spot : Spot) (s : State R) → Ends Tight s (call_head budget deep head given spot s)
    call_head_ends [] given spot s = kept.same s
    call_head_ends (name ∷ more) given spot s = call_with_ends name more given spot s

    pub call_of_ends : (head : ArgTree) (given : ListTrees) (spot : Spot) (s : State R) → Ends Tight s (call_of budget deep head given spot s)
    call_of_ends head given spot s =
        then_ends _ _ s (arg_ends head spot s) (λ names later. then_ends _ _ later (lists_ends given spot later) (λ values last. call_head_ends names values spot last))

    pub inner_ends : (i : InnerTree) (spot : Spot) (s : State R) → Ends Tight s (inner budget deep i spot s)
    inner_ends (tree.CallOf head given) spot s = call_of_ends head given spot s
    inner_ends (tree.OnInner target more) spot s =
        then_ends _ _ s (arg_ends target spot s) (λ targets later. target_ends targets _ later (λ last. loosened _ last (inner_ends more spot last)))
    inner_ends (tree.OnReturn target value) spot s =
        then_ends _ _ s (arg_ends target spot s) (λ targets later. target_ends targets _ later (λ last. loosened _ last (args_ends value spot last)))

    pub compared_ends : (test : Value → Value → Bool) (left : Outcome R Value) (right : State R → Outcome R Value) (s : State R) → Ends Tight s left → ((later : State R) → Ends Tight later (right later)) → Ends Tight s (compared budget deep test left right)
    compared_ends test left right s one two = then_ends _ _ s one (λ a later. then_ends _ _ later (two later) (λ b last. kept.same last))

    mutual
      pub expr_ends : (e : ExprTree) (spot : Spot) (s : State R) → Ends Tight s (expr budget deep e spot s)
      expr_ends (tree.Or members) spot s = any_ends members spot s
      expr_ends (tree.And members) spot s = all_ends members spot s
      expr_ends (tree.Not e) spot s = then_ends _ _ s (expr_ends e spot s) (λ holds later. kept.same later)
      expr_ends (tree.Group e) spot s = expr_ends e spot s
      expr_ends (tree.Bare a) spot s = then_ends _ _ s (arg_ends a spot s) (λ value later. kept.same later)
      expr_ends (tree.Equal a b) spot s = compared_ends _ _ _ s (arg_ends a spot s) (λ later. arg_ends b spot later)
      expr_ends (tree.Differ a b) spot s = compared_ends _ _ _ s (arg_ends a spot s) (λ later. arg_ends b spot later)
      expr_ends (tree.Within a list) spot s = compared_ends _ _ _ s (arg_ends a spot s) (λ later. args_ends list spot later)

      pub any_ends : (es : ExprTrees) (spot : Spot) (s : State R) → Ends Tight s (any_of budget deep es spot s)
      any_ends tree.NoExprs spot s = kept.same s
      any_ends (tree.ExprAnd first rest) spot s =
          then_ends _ _ s (expr_ends first spot s) (λ holds later. either_ends holds _ _ later (λ last. kept.same last) (λ last. any_ends rest spot last))

      pub all_ends : (es : ExprTrees) (spot : Spot) (s : State R) → Ends Tight s (all_of budget deep es spot s)
      all_ends tree.NoExprs spot s = kept.same s
      all_ends (tree.ExprAnd first rest) spot s =
          then_ends _ _ s (expr_ends first spot s) (λ holds later. either_ends holds _ _ later (λ last. all_ends rest spot last) (λ last. kept.same last))

  module _ (deep : Levels R) (down : KeptLevels deep) where
    pub file_ends : (o : Outcome R Flow) (s : State R) → Ends Tight s o → Ends Tight s (file_ended o)
    file_ends (gives flow later) s h = h
    file_ends (faults fault later) s h = h

    pub read_ends : (reading : Reading) (path : Text) (spot : Spot) (s : State R) → Ends Tight s (read_so setting deep reading path spot s)
    read_ends settings.is_missing path spot s = kept.same s
    read_ends (settings.is_too_big size) path spot s = kept.same s
    read_ends (settings.has_no_tokens fault) path spot s = kept.same s
    read_ends (settings.has_no_tree line found) path spot s = kept.same s
    read_ends (settings.is_file trees) path spot s = then_ends _ _ s (file_ends _ s (frame_ends _ s (λ later. down.stmts_end trees path spot later))) (λ ended later. kept.same later)

    pub included_at_ends : (path : Text) (spot : Spot) (s : State R) → Ends Tight s (included_at setting deep path spot s)
    included_at_ends path spot s = either_ends (is_in_roots s.worlds.now path) (λ later. fault_at spot (include path) later) (λ later. read_so setting deep (setting.reading path) path spot later) s (λ later. kept.same later) (λ later. read_ends (setting.reading path) path spot later)

    pub included_ends : (names : Value) (spot : Spot) (s : State R) → Ends Tight s (included setting deep names spot s)
    included_ends [] spot s = kept.same s
    included_ends (name ∷ more) spot s = shift s (with_world freeze_roots s) (included_at setting deep (path_from s.worlds.now.place name) spot (with_world freeze_roots s)) (kept.roots s) (included_at_ends (path_from s.worlds.now.place name) spot (with_world freeze_roots s))

    pub value_ends : (o : Outcome R Flow) (s : State R) → Ends Tight s o → Ends Tight s (value_of o)
    value_ends (gives goes_on later) s h = h
    value_ends (gives (returns value) later) s h = h
    value_ends (faults fault later) s h = h

    module _ (body : Rule → State R → Outcome R Flow) (body_ends : (rule : Rule) (s : State R) → Ends Loose s (body rule s)) where
      pub transformed_ends : (rule found items : Value) (spot : Spot) (s : State R) → Ends Tight s (transformed setting deep body rule found items spot s)
      transformed_ends rule found [] spot s = kept.same s
      transformed_ends rule found (item ∷ items) spot s =
          then_ends _ _ s (down.bracket_call_ends rule (item ∷ []) spot s) (λ value later. then_ends _ _ later (joined_ends found value spot later) (λ more last. transformed_ends rule more items spot last))

      pub filtered_ends : (rule items : Value) (spot : Spot) (s : State R) → Ends Tight s (filtered setting deep body rule items spot s)
      filtered_ends rule [] spot s = kept.same s
      filtered_ends rule (item ∷ items) spot s =
          then_ends _ _ s (down.bracket_call_ends rule (item ∷ []) spot s) (λ value later. then_ends _ _ later (filtered_ends rule items spot later) (λ more last. kept.same last))

      pub stepped_ends : (name : Text) (spot : Spot) (step : NativeStep) (s : State R) → Ends Tight s (stepped setting deep body name spot step s)
      stepped_ends name spot steps.Unknown s = kept.same s
      stepped_ends name spot (steps.Value value) s = kept.same s
      stepped_ends name spot (steps.Exit text) s = kept.same s
      stepped_ends name spot (steps.Each rule items filter) s =
          either_ends filter _ _ s (λ later. filtered_ends rule items spot later) (λ later. transformed_ends rule [] items spot later)

      pub told_ends : (name : Text) (spot : Spot) (s : State R) (t : Told NativeStep R) → EndsTold Tight s t → Ends Tight s (told setting deep body name spot s t)
      told_ends name spot s (settings.answers step worlds now) h = shift s _ (stepped setting deep body name spot step _) h (stepped_ends name spot step _)
      told_ends name spot s (settings.refuses cause worlds now) h = h

      pub native_ends : (name : Text) (given : List Value) (spot : Spot) (s : State R) → Ends Tight s (native_call setting deep body name given spot s)
      native_ends name given spot s = told_ends name spot s _ (kept.native name given spot.line s)

      pub recorded_ends : (name : Text) (spot : Spot) (s : State R) (t : Told Bool R) (next : Bool → State R → Outcome R Value) → EndsTold Tight s t → ((b : Bool) (later : State R) → Ends Tight later (next b later)) → Ends Tight s (recorded setting deep body name spot s t next)
      recorded_ends name spot s (settings.answers true worlds now) next h more = shift s _ (next true _) h (more true _)
      recorded_ends name spot s (settings.answers false worlds now) next h more = more false s
      recorded_ends name spot s (settings.refuses cause worlds now) next h more = h

      pub acted_at_ends : (at : Option Key) (name : Text) (given : List Value) (spot : Spot) (s : State R) (next : Bool → State R → Outcome R Value) → ((b : Bool) (later : State R) → Ends Tight later (next b later)) → Ends Tight s (acted_at setting deep body at name given spot s next)
      acted_at_ends None name given spot s next more = more false s
      acted_at_ends (Some at) name given spot s next more = recorded_ends name spot s _ next (kept.records name given spot.line s) more

      pub bound_ends : (rule : Rule) (name : Text) (bs : Option (List Binding)) (spot : Spot) (s : State R) → Ends Tight s (bound_call setting deep body rule name bs spot s)
      bound_ends rule name None spot s = kept.same s
      bound_ends rule name (Some bs) spot s =
          value_ends _ s (close_call_ends rule.home _ s (shift_loose (with_scopes (enter_call rule.home) s) _ _ (bind_each_keeps bs (with_scopes (enter_call rule.home) s)) (body_ends rule _)))

      pub called_ends : (rule : Option Rule) (name : Text) (given : List Value) (spot : Spot) (s : State R) → Ends Tight s (called setting deep body rule name given spot s)
      called_ends (Some rule) name given spot s =
          then_ends _ _ s (bound_ends rule name (call_binds rule.params given) spot s) (λ value later. acted_at_ends (actions_place name later.worlds.now) name given spot later _ (λ recorded last. kept.same last))
      called_ends None name given spot s =
          acted_at_ends (actions_place name s.worlds.now) name given spot s _ (λ recorded later. either_ends recorded _ _ later (λ last. kept.same last) (λ last. native_ends name given spot last))

      pub applied_ends : (name : Text) (given : List Value) (spot : Spot) (s : State R) → Ends Tight s (applied setting deep body name given spot s)
      applied_ends name given spot s = called_ends (find_rule name s.worlds.now) name given spot s

    pub for_all_ends : (texts : Value) (act : Text → State R → Outcome R Flow) (s : State R) → ((text : Text) (later : State R) → Ends Tight later (act text later)) → Ends Tight s (for_all texts act s)
    for_all_ends [] act s more = kept.same s
    for_all_ends (text ∷ texts) act s more = go_ends _ _ s (more text s) (λ later. for_all_ends texts act later more)

    pub set_name_ends : (how : Sign) (value : Value) (spot : Spot) (name : Text) (s : State R) → Ends Tight s (set_name how value spot name s)
    set_name_ends sign.Set value spot name s = kept.assigns name value s
    set_name_ends sign.Add value spot name s = then_ends (joined (unwrap_or (assigned s.worlds.now.scopes name) []) value spot s) (λ longer later. done (with_scopes (assign name longer) later)) s (joined_ends (unwrap_or (assigned s.worlds.now.scopes name) []) value spot s) (λ longer later. kept.assigns name longer later)
    set_name_ends sign.Fill value spot name s = either_ends (is_empty (unwrap_or (assigned s.worlds.now.scopes name) [])) (λ later. done (with_scopes (assign name value) later)) done s (λ later. kept.assigns name value later) (λ later. kept.same later)

    pub set_own_ends : (how : Sign) (value : Value) (spot : Spot) (target name : Text) (s : State R) → Ends Tight s (set_own how value spot target name s)
    set_own_ends sign.Set value spot target name s = kept.sets_own target name value s
    set_own_ends sign.Add value spot target name s = then_ends (joined (own_value target name s) value spot s) (λ longer later. done (with_world (set_on target name longer) later)) s (joined_ends (own_value target name s) value spot s) (λ longer later. kept.sets_own target name longer later)
    set_own_ends sign.Fill value spot target name s = either_ends (is_empty (own_value target name s)) (λ later. done (with_world (set_on target name value) later)) done s (λ later. kept.sets_own target name value later) (λ later. kept.same later)

    pub while_ends : (most budget : ℕ) (spot : Spot) (test : State R → Outcome R Bool) (round : State R → Outcome R Flow) (s : State R) → ((later : State R) → Ends Tight later (test later)) → ((later : State R) → Ends Tight later (round later)) → Ends Tight s (while_rounds most budget spot test round s)
    while_ends zero budget spot test round s one two = kept.same s
    while_ends (suc most) budget spot test round s one two =
        then_ends _ _ s (one s) (λ holds later. either_ends holds _ _ later
        (λ last. turn_ends budget spot last _ (λ begun. go_ends _ _ begun (two begun) (λ next. while_ends most budget spot test round next one two)))
        (λ last. kept.same last))

    pub for_ends : (items : Value) (budget : ℕ) (spot : Spot) (name : Text) (round : State R → Outcome R Flow) (s : State R) → ((later : State R) → Ends Tight later (round later)) → Ends Tight s (for_rounds items budget spot name round s)
    for_ends [] budget spot name round s more = kept.same s
    for_ends (item ∷ items) budget spot name round s more =
        turn_ends budget spot s _ (λ later. go_ends _ _ later (shift later _ _ (kept.assigns name (item ∷ []) later) (more _)) (λ next. for_ends items budget spot name round next more))

    pub loop_ends : (own : Bool) (name : Text) (rounds : State R → Outcome R Flow) (s : State R) → ((later : State R) → Ends Tight later (rounds later)) → Ends Tight s (for_loop own name rounds s)
    loop_ends true name rounds s more = frame_ends _ s (λ later. shift_loose later _ _ (kept.binds name [] later) (loosened _ _ (more _)))
    loop_ends false name rounds s more = more s

    pub local_ends : (value : Option ArgTrees) (spot : Spot) (s : State R) → Ends Tight s (local_value setting deep value spot s)
    local_ends None spot s = kept.same s
    local_ends (Some value) spot s = args_ends setting.budget deep down value spot s

    pub block_ends : (trees : StmtTrees) (spot : Spot) (s : State R) → Ends Tight s (block setting deep trees spot s)
    block_ends trees spot s = frame_ends _ s (λ later. down.stmts_end trees spot.path spot later)

    pub case_ends : (text : Text) (cases : CaseTrees) (spot : Spot) (s : State R) → Ends Tight s (first_case setting deep text cases spot s)
    case_ends text tree.NoCases spot s = kept.same s
    case_ends text (tree.CaseAnd pattern trees rest) spot s =
        either_ends _ _ _ s (λ later. block_ends trees spot later) (λ later. case_ends text rest spot later)

    pub started_ends : (line : ℕ) (spot : Spot) (act : Spot → State R → Outcome R Flow) (s : State R) → ((at : Spot) (later : State R) → Ends Loose later (act at later)) → Ends Loose s (started setting deep line spot act s)
    started_ends line spot act s more = turn_runs setting.budget _ s _ (λ later. more _ later)

    mutual
      pub form_ends : (f : FormTree) (spot : Spot) (s : State R) → Ends Loose s (form setting deep f spot s)
      form_ends (tree.Braces trees) spot s = loosened _ s (block_ends trees spot s)
      form_ends (tree.Local names value) spot s =
          then_runs _ _ s (args_ends setting.budget deep down names spot s) (λ ns later. then_runs _ _ later (local_ends value spot later) (λ v last. bind_names_keeps ns v last))
      form_ends (tree.Assign target how value) spot s = loosened _ s
          (then_ends _ _ s (arg_ends setting.budget deep down target spot s) (λ names later. then_ends _ _ later (args_ends setting.budget deep down value spot later)
          (λ v last. for_all_ends names _ last (λ name next. set_name_ends how v spot name next))))
      form_ends (tree.AssignOn target on how value) spot s = loosened _ s
          (then_ends _ _ s (arg_ends setting.budget deep down target spot s) (λ names one. then_ends _ _ one (args_ends setting.budget deep down on spot one)
          (λ targets two. then_ends _ _ two (args_ends setting.budget deep down value spot two)
          (λ v last. for_all_ends targets _ last (λ t next. for_all_ends names _ next (λ name end. set_own_ends how v spot t name end))))))
      form_ends (tree.Include names) spot s = loosened _ s
          (then_ends _ _ s (args_ends setting.budget deep down names spot s) (λ ns later. included_ends ns spot later))
      form_ends (tree.Return value) spot s = loosened _ s (then_ends _ _ s (args_ends setting.budget deep down value spot s) (λ v later. kept.same later))
      form_ends (tree.If test trees next) spot s =
          then_runs _ _ s (expr_ends setting.budget deep down test spot s)
          (λ holds later. either_runs holds _ _ later (λ last. loosened _ last (block_ends trees spot last)) (λ last. other_ends next spot last))
      form_ends (tree.For own name items trees) spot s = loosened _ s
          (then_ends _ _ s (args_ends setting.budget deep down items spot s)
          (λ texts later. loop_ends own name _ later (λ last. for_ends texts setting.budget spot name _ last (λ next. block_ends trees spot next))))
      form_ends (tree.While test trees) spot s = loosened _ s
          (while_ends (suc s.left) setting.budget spot _ _ s (λ later. expr_ends setting.budget deep down test spot later) (λ later. block_ends trees spot later))
      form_ends (tree.Switch value cases) spot s = loosened _ s
          (then_ends _ _ s (args_ends setting.budget deep down value spot s) (λ texts later. case_ends _ cases spot later))
      form_ends (tree.Module name trees) spot s = loosened _ s
          (then_ends _ _ s (args_ends setting.budget deep down name spot s) (λ names later. module_ends _ _ later (λ last. down.stmts_end trees spot.path spot last)))
      form_ends (tree.Rule name params trees) spot s = kept.loosen s _ (kept.rules name params trees spot.path spot.line s)
      form_ends (tree.Actions name t e q body) spot s = kept.loosen s _ (kept.actions name record { text = body; together = t; existing = e; quietly = q } s)
      form_ends (tree.On target line f) spot s = loosened _ s
          (then_ends _ _ s (arg_ends setting.budget deep down target spot s)
          (λ targets later. target_ends targets _ later (λ last. started_ends line spot _ last (λ at next. form_ends f at next))))
      form_ends (tree.Call head given) spot s = loosened _ s (then_ends _ _ s (call_of_ends setting.budget deep down head given spot s) (λ value later. kept.same later))

      pub other_ends : (o : OtherTree) (spot : Spot) (s : State R) → Ends Loose s (other setting deep o spot s)
      other_ends tree.Nothing spot s = kept.loosen s s (kept.same s)
      other_ends (tree.ElseBraces trees) spot s = loosened _ s (block_ends trees spot s)
      other_ends (tree.ElseIf line f) spot s = started_ends line spot _ s (λ at later. form_ends f at later)

    pub all_end : (trees : StmtTrees) (path : Text) (s : State R) → Ends Loose s (stmts setting deep trees path s)
    all_end tree.NoStmts path s = kept.loosen s s (kept.same s)
    all_end (tree.StmtAnd line f rest) path s =
        go_runs _ _ s (started_ends line (record { path = path; line = line }) (λ at later. form setting deep f at later) s (λ at later. form_ends f at later)) (λ later. all_end rest path later)

    pub one_level_kept : KeptLevels (one_level setting deep)
    one_level_kept = record {
      stmts_end = λ trees path spot s. all_end trees path s;
      call_ends = λ name given spot s. applied_ends (rule_body setting deep) (λ rule later. all_end rule.block rule.path later) name given spot s;
      bracket_ends = λ i spot s. inner_ends setting.budget deep down i spot s;
      bracket_call_ends = λ head first spot s. call_head_ends setting.budget deep down head (first ∷ []) spot s;
    }

  pub levels_kept : (n : ℕ) → KeptLevels (levels setting n)
  levels_kept zero = record {
    stmts_end = λ trees path spot s. kept.loosen s s (kept.same s);
    call_ends = λ name given spot s. kept.same s;
    bracket_ends = λ i spot s. kept.same s;
    bracket_call_ends = λ head first spot s. kept.same s;
  }
  levels_kept (suc n) = one_level_kept (levels setting n) (levels_kept n)

  pub run_keeps : (path : Text) (trees : StmtTrees) (s : State R) → Ends Tight s (run setting path trees s)
  run_keeps path trees s =
      file_ends (levels setting most_levels) (levels_kept most_levels) _ s (frame_ends _ s (λ later. all_end (levels setting most_levels) (levels_kept most_levels) trees path later))

  pub run_call_keeps : (name : Text) (given : List Value) (spot : Spot) (s : State R) → Ends Tight s (run_call setting name given spot s)
  run_call_keeps name given spot s = call_ends' setting.budget (levels setting most_levels) (levels_kept most_levels) name given spot s
