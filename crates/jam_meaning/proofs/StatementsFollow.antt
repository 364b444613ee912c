-- How statements, calls and brackets of the examples go.
use Rattle.std.proofs.Common.{◌≡◌, ℕ, suc, false, List, [], ◌∷◌, Some, None, Ok, refl, ap, ◌∙◌}
use Rattle.std.specs.List.{list_any}
use Rattle.std.specs.FinMap as map
use Rattle.jam_expand.specs.Expansions.{expansion}
use Rattle.jam_expand.specs.Limits.{within}
use Rattle.jam_grammar.specs.Trees as tree
use Rattle.jam_grammar.specs.Trees.{FormTree, ListTrees}
use Rattle.jam_journal.specs.Tables.{Text, key_cmp}
use Rattle.jam_journal.specs.Scopes.{Value, Binding, look, bind_each, enter, enter_call}
use Rattle.jam_scope.specs.Rules.{Rule}
use Rattle.jam_scope.specs.Lines.{is_dot}
use Rattle.jam_meaning.specs.Faults.{Spot}
use Rattle.jam_meaning.specs.States.{State, with_scopes, after_frame}
use Rattle.jam_meaning.specs.Settings.{Setting, Reading, is_missing}
use Rattle.jam_meaning.specs.Outcomes.{Outcome, gives, Flow, goes_on, returns, then_do, then_go, by_turns, expanded, close_frame}
use Rattle.jam_meaning.specs.Params.{call_binds}
use Rattle.jam_meaning.specs.Args.{call_of}
use Rattle.jam_meaning.specs.Args as eval
use Rattle.jam_meaning.specs.RuleCalls.{acted, value_of, native_call}
use Rattle.jam_meaning.specs.Forms.{done, form, stmts}
use Rattle.jam_meaning.specs.Eval.{levels, rule_body}
use Rattle.jam_meaning.specs.Examples.{Lines, setting_of, at_first, lines_from, asks}
use Rattle.jam_meaning.proofs.FoundInFlatWorlds.{IsFlat, native_called, rule_called, not_acted, call_is}

-- the first of some statements
pub first_is : {R : Type 0} (setting : Setting R) (more line : ℕ) (f : FormTree) (forms : List FormTree) (path : Text) (s : State R) (left : ℕ) (o : Outcome R Flow) → s.left ≡ suc left
    → form setting (levels setting more) f (record { path = path; line = line }) (record s { left = left }) ≡ o
    → stmts setting (levels setting more) (lines_from line (f ∷ forms)) path s ≡ then_go o (stmts setting (levels setting more) (lines_from (suc line) forms) path)
first_is setting more line f forms path s left o turn first =
    ap (λ n. then_go (by_turns n setting.budget (record { path = path; line = line }) s (λ s₁. form setting (levels setting more) f (record { path = path; line = line }) s₁)) (stmts setting (levels setting more) (lines_from (suc line) forms) path)) turn
    ∙ ap (λ o. then_go o (stmts setting (levels setting more) (lines_from (suc line) forms) path)) first

-- a statement that goes on, and those after it
pub next : {R : Type 0} (setting : Setting R) (more line : ℕ) (f : FormTree) (forms : List FormTree) (path : Text) (s s₁ : State R) (left : ℕ) (o : Outcome R Flow) → s.left ≡ suc left
    → form setting (levels setting more) f (record { path = path; line = line }) (record s { left = left }) ≡ gives goes_on s₁ → stmts setting (levels setting more) (lines_from (suc line) forms) path s₁ ≡ o
    → stmts setting (levels setting more) (lines_from line (f ∷ forms)) path s ≡ o
next setting more line f forms path s s₁ left o turn first others = first_is setting more line f forms path s left (gives goes_on s₁) turn first ∙ others

module _ (budget : ℕ) (reading : Text → Reading) (more : ℕ) (name : Text) (spot : Spot) (s : State Lines) (left : ℕ) (turn : s.left ≡ suc left) (flat : IsFlat s.worlds.now)
    (plain : list_any is_dot name ≡ false) (named : expansion (look s.worlds.now.scopes) name ≡ Ok (name ∷ [])) where
  -- a native rule is called
  pub native_is : (given : ListTrees) (line : Value) → eval.lists budget (levels (setting_of budget reading) (suc more)) given spot s ≡ gives (line ∷ []) s → within line ≡ Ok line
      → map.get s.worlds.now.rules ([], name) ≡ None → map.get s.worlds.now.actions ([], name) ≡ None
      → form (setting_of budget reading) (levels (setting_of budget reading) (suc more)) (tree.Call (tree.Word name) given) spot s
      ≡ then_do (native_call (setting_of budget reading) (levels (setting_of budget reading) more) (rule_body (setting_of budget reading) (levels (setting_of budget reading) more)) name (line ∷ []) spot (record s { left = left }))
      (λ value s₁. done s₁)
  native_is given line values small rules actions =
      let setting : Setting Lines = setting_of budget reading in
      ap (λ o. then_do o (λ value s₁. done s₁))
      (call_is setting more name given line [] spot s left turn named values small
      ∙ native_called setting (levels setting more) (rule_body setting (levels setting more)) name (line ∷ []) spot (record s { left = left }) flat plain rules actions)

  -- a rule is called, and its statements give this
  pub rule_is : (given : ListTrees) (first : Value) (rest : List Value) (rule : Rule) (bs : List Binding) (flow : Outcome Lines Flow)
      → eval.lists budget (levels (setting_of budget reading) (suc more)) given spot s ≡ gives (first ∷ rest) s → within first ≡ Ok first
      → map.get s.worlds.now.rules ([], name) ≡ Some rule → call_binds rule.params (first ∷ rest) ≡ Some bs
      → stmts (setting_of budget reading) (levels (setting_of budget reading) more) rule.block rule.path (with_scopes (bind_each bs) (with_scopes (enter_call rule.home) (record s { left = left }))) ≡ flow
      → call_of budget (levels (setting_of budget reading) (suc more)) (tree.Word name) given spot s
      ≡ then_do (value_of (close_frame flow)) (λ value s₁. acted (setting_of budget reading) (levels (setting_of budget reading) more) (rule_body (setting_of budget reading) (levels (setting_of budget reading) more)) name (first ∷ rest) spot s₁
      (λ noted s₂. gives value s₂))
  rule_is given first rest rule bs flow values small rules bound body =
      let setting : Setting Lines = setting_of budget reading in
      call_is setting more name given first rest spot s left turn named values small
      ∙ rule_called setting (levels setting more) (rule_body setting (levels setting more)) name (first ∷ rest) spot (record s { left = left }) flat plain rule bs flow rules bound body

  -- its statements go on
  pub runs : (rule : Rule) (bs : List Binding) (later : State Lines) → map.get s.worlds.now.rules ([], name) ≡ Some rule → call_binds rule.params ([] ∷ []) ≡ Some bs
      → stmts (setting_of budget reading) (levels (setting_of budget reading) more) rule.block rule.path (with_scopes (bind_each bs) (with_scopes (enter_call rule.home) (record s { left = left }))) ≡ gives goes_on later
      → IsFlat (after_frame later).worlds.now → map.get (after_frame later).worlds.now.actions ([], name) ≡ None
      → form (setting_of budget reading) (levels (setting_of budget reading) (suc more)) (asks name ([] ∷ [])) spot s ≡ gives goes_on (after_frame later)
  runs rule bs later rules bound body flat_later actions =
      let setting : Setting Lines = setting_of budget reading in
      ap (λ o. then_do o (λ value s₁. done s₁))
      (rule_is (tree.ListAnd tree.NoArgs tree.NoLists) [] [] rule bs (gives goes_on later) refl refl rules bound body
      ∙ not_acted setting (levels setting more) (rule_body setting (levels setting more)) name ([] ∷ []) spot (after_frame later) flat_later plain [] actions)

  -- they return a value
  pub returns_so : (given : ListTrees) (first : Value) (rest : List Value) (rule : Rule) (bs : List Binding) (value : Value) (later : State Lines)
      → eval.lists budget (levels (setting_of budget reading) (suc more)) given spot s ≡ gives (first ∷ rest) s → within first ≡ Ok first
      → map.get s.worlds.now.rules ([], name) ≡ Some rule → call_binds rule.params (first ∷ rest) ≡ Some bs
      → stmts (setting_of budget reading) (levels (setting_of budget reading) more) rule.block rule.path (with_scopes (bind_each bs) (with_scopes (enter_call rule.home) (record s { left = left }))) ≡ gives (returns value) later
      → IsFlat (after_frame later).worlds.now → map.get (after_frame later).worlds.now.actions ([], name) ≡ None
      → call_of budget (levels (setting_of budget reading) (suc more)) (tree.Word name) given spot s ≡ gives value (after_frame later)
  returns_so given first rest rule bs value later values small rules bound body flat_later actions =
      let setting : Setting Lines = setting_of budget reading in
      rule_is given first rest rule bs (gives (returns value) later) values small rules bound body
      ∙ not_acted setting (levels setting more) (rule_body setting (levels setting more)) name (first ∷ rest) spot (after_frame later) flat_later plain value actions

-- `return` of a call in brackets
pub return_bracket : (setting : Setting Lines) (more : ℕ) (name : Text) (given : ListTrees) (spot : Spot) (s later : State Lines) (value : Value)
    → call_of setting.budget (levels setting more) (tree.Word name) given spot s ≡ gives value later → within value ≡ Ok value
    → form setting (levels setting (suc more)) (tree.Return (tree.ArgAnd (tree.Bracket (tree.CallOf (tree.Word name) given)) tree.NoArgs)) spot s ≡ gives (returns value) later
return_bracket setting more name given spot s later value is small =
    ap (λ o. then_do (then_do o (λ v s₁. then_do (expanded (within v) spot s₁) (λ found s₂. eval.args_after setting.budget (levels setting (suc more)) found tree.NoArgs spot s₂))) (λ v s₁. gives (returns v) s₁)) is
    ∙ ap (λ r. then_do (then_do (expanded r spot later) (λ found s₂. eval.args_after setting.budget (levels setting (suc more)) found tree.NoArgs spot s₂)) (λ v s₁. gives (returns v) s₁)) small

-- where a file's statements begin
abbrev pub in_file : ℕ → State Lines
in_file budget = with_scopes (enter []) (at_first budget)

abbrev pub no_file : Text → Reading
no_file path = is_missing

-- nothing stands in an empty table
pub none : {X : Type 0} (name : Text) → map.get (map.empty {X = X} {R = key_cmp}) ([], name) ≡ None
none {X} name = map.get-empty {X = X} key_cmp ([], name)
