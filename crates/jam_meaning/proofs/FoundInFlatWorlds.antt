-- What is found in worlds of a few rules and variables, where no module has one above it.
use Rattle.std.proofs.Common.{arith, ◌≡◌, ℕ, suc, false, List, [], ◌∷◌, ◌++◌, length, Option, Some, None, Ok, refl, sym, ap, ◌∙◌, if◌then◌else◌}
use Rattle.std.specs.declared.cmp.Ordering.{Ordering}
use Rattle.std.specs.List.{list_any, before_first, after_first}
use Rattle.std.specs.Cmp.{IsTotalOrder, then_total}
use Rattle.std.specs.Cmp.Lexicographic.{on_texts}
use Rattle.std.specs.FinMap as map
use Rattle.jam_expand.specs.Limits.{within}
use Rattle.jam_expand.specs.Expansions.{expansion}
use Rattle.jam_grammar.specs.Trees as tree
use Rattle.jam_grammar.specs.Trees.{ListTrees}
use Rattle.jam_journal.specs.Tables.{Text, Key, Table, key_cmp}
use Rattle.jam_journal.specs.Scopes.{Value, Binding, look, bind_each, enter_call}
use Rattle.jam_scope.specs.Rules.{Rule}
use Rattle.jam_scope.specs.Worlds.{World}
use Rattle.jam_scope.specs.Changes.{module_in}
use Rattle.jam_scope.specs.Lines.{line, line_by, is_dot, dotted, in_each, places_from, first_at, at_key, find_rule, actions_place}
use Rattle.jam_meaning.specs.Faults.{Spot}
use Rattle.jam_meaning.specs.States.{State, with_scopes}
use Rattle.jam_meaning.specs.Settings.{Setting}
use Rattle.jam_meaning.specs.Outcomes.{Outcome, gives, Flow, then_do, either, by_turns, expanded, close_frame}
use Rattle.jam_meaning.specs.Levels.{Levels}
use Rattle.jam_meaning.specs.Params.{call_binds}
use Rattle.jam_meaning.specs.Args.{args_after, lists, call, call_head, call_of}
use Rattle.jam_meaning.specs.RuleCalls.{value_of, called, bound_call, acted, acted_at, native_call, applied}
use Rattle.jam_meaning.specs.Eval.{levels, rule_body}
use Rattle.jam_meaning.specs.Examples.{list}

pub key_order : IsTotalOrder key_cmp
key_order = then_total (on_texts (λ (k : Key). k.0)) (on_texts (λ (k : Key). k.1))

-- no module is above another one, and the present one is the global one
pub record IsFlat (w : World) : Type 0 where
  pub parents : w.parents ≡ map.empty
  pub global : module_in w ≡ []

flat_line : (parents : Table Text) (owner : Text) → parents ≡ map.empty → line parents owner ≡ []
flat_line parents owner e = ap (λ (ps : Table Text). line ps owner) e ∙ ap (λ n. line_by n map.empty owner) (map.len-empty key_cmp Text)

flat_places : (parents : Table Text) (owner name : Text) → parents ≡ map.empty → owner ≡ [] → list_any is_dot name ≡ false → places_from parents owner name ≡ ([], name) ∷ ([], name) ∷ []
flat_places parents owner name above own plain =
    ap (λ line. in_each name (owner ∷ line) ++ (([], name) ∷ dotted name)) (flat_line parents owner above)
    ∙ ap (λ (o : Text). (o, name) ∷ ([], name) ∷ dotted name) own
    ∙ ap (λ b. ([], name) ∷ ([], name) ∷ (if b then (before_first is_dot name, after_first is_dot name) ∷ [] else [])) plain

twice_at : {X : Type 0} (table : Table X) (key : Key) (found : Option X) → map.get table key ≡ found → at_key table (first_at table (key ∷ key ∷ [])) ≡ found
twice_at table key None is = rw is refl
twice_at table key (Some x) is = rw is is

nowhere_at : {X : Type 0} (table : Table X) (key : Key) → map.get table key ≡ None → first_at table (key ∷ key ∷ []) ≡ None
nowhere_at table key is = rw is refl

pub flat_rule : (w : World) (name : Text) (rule : Option Rule) → IsFlat w → list_any is_dot name ≡ false → map.get w.rules ([], name) ≡ rule → find_rule name w ≡ rule
flat_rule w name rule flat plain is =
    ap (λ keys. at_key w.rules (first_at w.rules keys)) (flat_places w.parents (module_in w) name flat.parents flat.global plain) ∙ twice_at w.rules ([], name) rule is

pub no_actions : (w : World) (name : Text) → IsFlat w → list_any is_dot name ≡ false → map.get w.actions ([], name) ≡ None → actions_place name w ≡ None
no_actions w name flat plain is =
    ap (λ keys. first_at w.actions keys) (flat_places w.parents (module_in w) name flat.parents flat.global plain) ∙ nowhere_at w.actions ([], name) is

-- the entries of a table of none and of one
no_entries : {X : Type 0} (es : List X) → length es ≡ 0 → es ≡ []
no_entries [] e = refl
no_entries (x ∷ es) e = absurd (omega arith)

pub empty_entries : {K : Type 0} (order : K → K → Ordering) (X : Type 0) → map.entries (map.empty {X = X} {R = order}) ≡ []
empty_entries order X = no_entries _ (sym (map.len-entries (map.empty {X = X} {R = order})) ∙ map.len-empty order X)

pub one_entry : {K X : Type 0} (order : K → K → Ordering) → IsTotalOrder order → (key : K) (value : X) → map.entries (map.insert (map.empty {X = X} {R = order}) key value) ≡ (key, value) ∷ []
one_entry {X = X} order total key value = map.entries-insert total map.empty key value ∙ ap (map.put order key value) (empty_entries order X)

module _ {R : Type 0} (setting : Setting R) (deep : Levels R) (body : Rule → State R → Outcome R Flow) (name : Text) (given : List Value) (spot : Spot) (s : State R)
    (flat : IsFlat s.worlds.now) (plain : list_any is_dot name ≡ false) where
  -- where no rule and no actions stand, the native rule is called
  pub native_called : map.get s.worlds.now.rules ([], name) ≡ None → map.get s.worlds.now.actions ([], name) ≡ None
      → applied setting deep body name given spot s ≡ native_call setting deep body name given spot s
  native_called rules actions =
      ap (λ rule. called setting deep body rule name given spot s) (flat_rule s.worlds.now name None flat plain rules)
      ∙ ap (λ at. acted_at setting deep body at name given spot s (λ noted s₁. either noted (λ s₂. gives [] s₂) (λ s₂. native_call setting deep body name given spot s₂) s₁))
      (no_actions s.worlds.now name flat plain actions)

  -- a rule is called
  pub rule_called : (rule : Rule) (bs : List Binding) (o : Outcome R Flow) → map.get s.worlds.now.rules ([], name) ≡ Some rule → call_binds rule.params given ≡ Some bs
      → body rule (with_scopes (bind_each bs) (with_scopes (enter_call rule.home) s)) ≡ o
      → applied setting deep body name given spot s ≡ then_do (value_of (close_frame o)) (λ value s₁. acted setting deep body name given spot s₁ (λ noted s₂. gives value s₂))
  rule_called rule bs o rules bound runs =
      ap (λ found. called setting deep body found name given spot s) (flat_rule s.worlds.now name (Some rule) flat plain rules)
      ∙ ap (λ binds. then_do (bound_call setting deep body rule name binds spot s) (λ value s₁. acted setting deep body name given spot s₁ (λ noted s₂. gives value s₂))) bound
      ∙ ap (λ o. then_do (value_of (close_frame o)) (λ value s₁. acted setting deep body name given spot s₁ (λ noted s₂. gives value s₂))) runs

  -- a rule does not take the lists
  pub rule_refused : (rule : Rule) → map.get s.worlds.now.rules ([], name) ≡ Some rule → call_binds rule.params given ≡ None
      → applied setting deep body name given spot s ≡ then_do (bound_call setting deep body rule name None spot s) (λ value s₁. acted setting deep body name given spot s₁ (λ noted s₂. gives value s₂))
  rule_refused rule rules refused =
      ap (λ found. called setting deep body found name given spot s) (flat_rule s.worlds.now name (Some rule) flat plain rules)
      ∙ ap (λ binds. then_do (bound_call setting deep body rule name binds spot s) (λ value s₁. acted setting deep body name given spot s₁ (λ noted s₂. gives value s₂))) refused

  -- after a rule without actions its value is that of the call
  pub not_acted : (value : Value) → map.get s.worlds.now.actions ([], name) ≡ None → acted setting deep body name given spot s (λ noted s₂. gives value s₂) ≡ gives value s
  not_acted value actions = ap (λ at. acted_at setting deep body at name given spot s (λ noted s₂. gives value s₂)) (no_actions s.worlds.now name flat plain actions)

-- a list of one word
pub word_list : {R : Type 0} (budget : ℕ) (deep : Levels R) (text : Text) (value : Value) (spot : Spot) (s : State R) → expansion (look s.worlds.now.scopes) text ≡ Ok value → within value ≡ Ok value
    → lists budget deep (tree.ListAnd (list (text ∷ [])) tree.NoLists) spot s ≡ gives (value ∷ []) s
word_list budget deep text value spot s is small =
    ap (λ r. then_do (then_do (expanded r spot s) (λ v s₁. then_do (expanded (within v) spot s₁) (λ more s₂. args_after budget deep more tree.NoArgs spot s₂)))
    (λ v s₁. then_do (lists budget deep tree.NoLists spot s₁) (λ more s₂. gives (v ∷ more) s₂))) is
    ∙ ap (λ r. then_do (then_do (expanded r spot s) (λ more s₂. args_after budget deep more tree.NoArgs spot s₂))
    (λ v s₁. then_do (lists budget deep tree.NoLists spot s₁) (λ more s₂. gives (v ∷ more) s₂))) small

module _ {R : Type 0} (setting : Setting R) (more_levels : ℕ) (name : Text) (given : ListTrees) (first : Value) (rest : List Value) (spot : Spot) (s : State R) (left : ℕ) where
  -- a call takes its turn and opens its level
  pub call_is : s.left ≡ suc left → expansion (look s.worlds.now.scopes) name ≡ Ok (name ∷ []) → lists setting.budget (levels setting (suc more_levels)) given spot s ≡ gives (first ∷ rest) s → within first ≡ Ok first
      → call_of setting.budget (levels setting (suc more_levels)) (tree.Word name) given spot s
      ≡ applied setting (levels setting more_levels) (rule_body setting (levels setting more_levels)) name (first ∷ rest) spot (record s { left = left })
  call_is turn named values small =
      ap (λ r. then_do (expanded r spot s) (λ names s₁. then_do (lists setting.budget (levels setting (suc more_levels)) given spot s₁) (λ vs s₂. call_head setting.budget (levels setting (suc more_levels)) names vs spot s₂))) named
      ∙ ap (λ o. then_do o (λ vs s₂. call_head setting.budget (levels setting (suc more_levels)) (name ∷ []) vs spot s₂)) values
      ∙ ap (λ r. then_do (expanded r spot s) (λ v s₁. call setting.budget (levels setting (suc more_levels)) name (v ∷ rest) spot s₁)) small
      ∙ ap (λ n. by_turns n setting.budget spot s (λ s₁. applied setting (levels setting more_levels) (rule_body setting (levels setting more_levels)) name (first ∷ rest) spot s₁)) turn
