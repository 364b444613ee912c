-- What the functions on conditions do, exit by exit.
use Rattle.std.proofs.Common.{◌≡◌, Bool, true, false, not, List, [], ◌∷◌, Ok, Err, refl, sym, ap, ◌∙◌, subst}
use Rattle.jam_grammar.specs.declared.tree.Arg.{Arg}
use Rattle.jam_grammar.specs.declared.tree.Expr.{Expr}
use Rattle.jam_grammar.specs.Trees as tree
use Rattle.jam_grammar.specs.Trees.{ArgTree, ArgTrees, ExprTree, expr_tree, exprs_tree, arg_tree, args_tree}
use Rattle.jam_journal.specs.Scopes.{Value}
use Rattle.jam_meaning.specs.States.{State}
use Rattle.jam_meaning.specs.Settings.{Setting}
use Rattle.jam_meaning.specs.Outcomes.{Outcome, gives, faults, then_do, either, expanded}
use Rattle.jam_meaning.specs.Args.{arg, args}
use Rattle.jam_meaning.specs.Conds.{is_true, is_same, is_within, expr, any_of, all_of}
use Rattle.jam_effects.specs.declared.at.At.{At}
use Rattle.jam_effects.specs.declared.fault.EvalFault.{EvalFault}
use Rattle.jam_effects.specs.Spots.{spot_of}
use Rattle.jam_effects.specs.Lending.{IsLent, AreLent, IsTruthLent, AreSameLent, AreWithinLent}
use Rattle.jam_effects.specs.Machines.{Machine, state_of}
use Rattle.jam_effects.specs.Does.{Does, Leads}
use Rattle.jam_effects.specs.Views.{value, truth, What}
use Rattle.jam_interp.specs.FunctionParts.{arg_at, args_at, expr_at, any_of_at, all_of_at, bare_at, same_at, among_at, deep}
use Rattle.jam_meaning.specs.Kept.{Begins}
use Rattle.jam_meaning.proofs.RecordsOnlyGrow.{then_begins, same_begins, either_begins, any_begins, all_begins}
use Rattle.jam_effects.proofs.OrderedCallsDoAsDefined.{err_then, ok_then, led, leads_then, value_now}
use Rattle.jam_effects.proofs.AnswersDoAsDefined.{answer_at}
use Rattle.jam_interp.proofs.ArgumentsDoAsDefined.{does_by, one_word}

module _ {R : Type 0} where
  -- a condition by its tree
  abbrev pub test_at : ExprTree → At → What R Bool
  test_at e at = λ setting s. expr setting.budget (deep at setting) e (spot_of at) s

  -- what is made of an answer
  pub made_fails : {A : Type 0} (view : A → A) (what : Setting R → State R → Outcome R A) (make : A → Bool) (a b : Machine R) (e : EvalFault) → Does view what a b (Err e) → Does truth (λ setting s. then_do (what setting s) (λ v. λ s₁. gives (make v) s₁)) a b (Err e)
  made_fails view what make a b e h = err_then view truth what (λ setting v s₁. gives (make v) s₁) a b e (λ setting v later. same_begins setting (make v) later) h

  pub made_ends : {A : Type 0} (view : A → A) (what : Setting R → State R → Outcome R A) (make : A → Bool) (a b : Machine R) (v : A) (answer : Bool) → answer ≡ make (view v) → Does view what a b (Ok v) → Does truth (λ setting s. then_do (what setting s) (λ u. λ s₁. gives (make u) s₁)) a b (Ok answer)
  made_ends view what make a b v answer is h =
      led truth (λ setting s. then_do (what setting s) (λ u. λ s₁. gives (make u) s₁)) (λ setting s. gives (make (view v)) s) a b b (Ok answer) (ok_then view what (λ setting u s₁. gives (make u) s₁) a b v h)
      (value_now truth (λ setting s. gives (make (view v)) s) b answer (λ setting right. ap (λ x. gives x (state_of b)) (sym is)))

  -- two answers, one after the other
  abbrev pub both_of : (Value → Value → Bool) → What R Value → What R Value → What R Bool
  both_of test left right setting s = then_do (left setting s) (λ a. λ s₁. then_do (right setting s₁) (λ b. λ s₂. gives (test a b) s₂))

  pub left_fails : (test : Value → Value → Bool) (left right : What R Value) (a b : Machine R) (e : EvalFault) → ((setting : Setting R) (later : State R) → Begins setting later (right setting later)) → Does value left a b (Err e) → Does truth (both_of test left right) a b (Err e)
  left_fails test left right a b e more h =
      err_then value truth left (λ setting u s₁. then_do (right setting s₁) (λ v. λ s₂. gives (test u v) s₂)) a b e
      (λ setting u later. then_begins setting _ _ later (more setting later) (λ v last. same_begins setting (test u v) last)) h

  pub right_fails : (test : Value → Value → Bool) (left right : What R Value) (a b c : Machine R) (u : Value) (e : EvalFault) → Does value left a b (Ok u) → Does value right b c (Err e) → Does truth (both_of test left right) a c (Err e)
  right_fails test left right a b c u e one two =
      led truth (both_of test left right) (λ setting s₁. then_do (right setting s₁) (λ v. λ s₂. gives (test u v) s₂)) a b c (Err e)
      (ok_then value left (λ setting w s₁. then_do (right setting s₁) (λ v. λ s₂. gives (test w v) s₂)) a b u one)
      (err_then value truth right (λ setting v s₂. gives (test u v) s₂) b c e (λ setting v later. same_begins setting (test u v) later) two)

  pub both_end : (test : Value → Value → Bool) (left right : What R Value) (a b c : Machine R) (u v : Value) (answer : Bool) → answer ≡ test u v → Does value left a b (Ok u) → Does value right b c (Ok v) → Does truth (both_of test left right) a c (Ok answer)
  both_end test left right a b c u v answer is one two =
      led truth (both_of test left right) (λ setting s₁. then_do (right setting s₁) (λ w. λ s₂. gives (test u w) s₂)) a b c (Ok answer)
      (ok_then value left (λ setting w s₁. then_do (right setting s₁) (λ x. λ s₂. gives (test w x) s₂)) a b u one)
      (led truth (λ setting s₁. then_do (right setting s₁) (λ w. λ s₂. gives (test u w) s₂)) (λ setting s. gives (test u v) s) b c c (Ok answer)
      (ok_then value right (λ setting w s₂. gives (test u w) s₂) b c v two)
      (value_now truth (λ setting s. gives (test u v) s) c answer (λ setting right_. ap (λ x. gives x (state_of c)) (sym is))))

  -- ---- lists that are lent

  tree_lent : (setting : Setting R) (at : At) (t : ArgTree) (s : State R) (list : Value) → IsLent s.worlds.now.scopes t list → arg setting.budget (deep at setting) t (spot_of at) s ≡ gives list s
  tree_lent setting at (tree.Word text) s list h = ap (λ answer. expanded answer (spot_of at) s) h
  tree_lent setting at (tree.Bracket inner) s list h = absurd h

  trees_lent : (setting : Setting R) (at : At) (ts : ArgTrees) (s : State R) (list : Value) → AreLent s.worlds.now.scopes ts list → args setting.budget (deep at setting) ts (spot_of at) s ≡ gives list s
  trees_lent setting at tree.NoArgs s list h = absurd h
  trees_lent setting at (tree.ArgAnd (tree.Word text) tree.NoArgs) s list h = one_word setting at text s ∙ ap (λ answer. answer_at answer (spot_of at) s) h
  trees_lent setting at (tree.ArgAnd (tree.Bracket inner) tree.NoArgs) s list h = absurd h
  trees_lent setting at (tree.ArgAnd first (tree.ArgAnd second more)) s list h = absurd h

  arg_lent : (a : Arg) (at : At) (m : Machine R) (list : Value) → IsLent m.worlds.now.scopes (arg_tree a) list → Does value (arg_at a at) m m (Ok list)
  arg_lent a at m list h = value_now value (arg_at a at) m list (λ setting right. tree_lent setting at (arg_tree a) (state_of m) list h)

  args_lent : (list : List Arg) (at : At) (m : Machine R) (v : Value) → AreLent m.worlds.now.scopes (args_tree list) v → Does value (args_at list at) m m (Ok v)
  args_lent list at m v h = value_now value (args_at list at) m v (λ setting right. trees_lent setting at (args_tree list) (state_of m) v h)

  pub truth_lent : (a : Arg) (at : At) (m : Machine R) (holds : Bool) → IsTruthLent m.worlds.now.scopes (arg_tree a) holds → Does truth (bare_at a at) m m (Ok holds)
  truth_lent a at m holds (list, lends, is) = made_ends value (arg_at a at) is_true m m list holds is (arg_lent a at m list lends)

  pub same_lent : (a b : Arg) (at : At) (m : Machine R) (holds : Bool) → AreSameLent m.worlds.now.scopes (arg_tree a) (arg_tree b) holds → Does truth (same_at a b at) m m (Ok holds)
  same_lent a b at m holds (first, one, (second, two, is)) = both_end is_same (arg_at a at) (arg_at b at) m m m first second holds is (arg_lent a at m first one) (arg_lent b at m second two)

  pub within_lent : (a : Arg) (list : List Arg) (at : At) (m : Machine R) (holds : Bool) → AreWithinLent m.worlds.now.scopes (arg_tree a) (args_tree list) holds → Does truth (among_at a list at) m m (Ok holds)
  within_lent a list at m holds (texts, one, (others, two, is)) = both_end is_within (arg_at a at) (args_at list at) m m m texts others holds is (arg_lent a at m texts one) (args_lent list at m others two)

  -- ---- members of `||`

  pub any_fails : (what : What R Bool) (xs : List Expr) (one : Expr) (rest : List Expr) (at : At) (a b c : Machine R) (e : EvalFault) → xs ≡ one ∷ rest → Leads what (any_of_at xs at) a b → Does truth (expr_at one at) b c (Err e) → Does truth what a c (Err e)
  any_fails what xs one rest at a b c e is leads h =
      led truth what (any_of_at (one ∷ rest) at) a b c (Err e) (subst (λ l. Leads what (any_of_at l at) a b) is leads)
      (err_then truth truth (expr_at one at) (λ setting holds s₁. either holds (λ s₂. gives true s₂) (λ s₂. any_of setting.budget (deep at setting) (exprs_tree rest) (spot_of at) s₂) s₁) b c e
      (λ setting holds later. either_begins setting holds _ _ later (λ last. same_begins setting true last) (λ last. any_begins setting at.levels (exprs_tree rest) (spot_of at) last)) h)

  any_next : (what : What R Bool) (xs : List Expr) (one : Expr) (rest : List Expr) (at : At) (a b c : Machine R) (holds : Bool) → xs ≡ one ∷ rest → Leads what (any_of_at xs at) a b → Does truth (expr_at one at) b c (Ok holds)
      → Leads what (λ setting s. either holds (λ s₂. gives true s₂) (λ s₂. any_of setting.budget (deep at setting) (exprs_tree rest) (spot_of at) s₂) s) a c
  any_next what xs one rest at a b c holds is leads h =
      leads_then what (any_of_at (one ∷ rest) at) (λ setting s. either holds (λ s₂. gives true s₂) (λ s₂. any_of setting.budget (deep at setting) (exprs_tree rest) (spot_of at) s₂) s) a b c (subst (λ l. Leads what (any_of_at l at) a b) is leads)
      (ok_then truth (expr_at one at) (λ setting t s₁. either t (λ s₂. gives true s₂) (λ s₂. any_of setting.budget (deep at setting) (exprs_tree rest) (spot_of at) s₂) s₁) b c holds h)

  pub any_holds : (what : What R Bool) (xs : List Expr) (one : Expr) (rest : List Expr) (at : At) (a b c : Machine R) (holds : Bool) → xs ≡ one ∷ rest → holds ≡ true → Leads what (any_of_at xs at) a b → Does truth (expr_at one at) b c (Ok holds) → Does truth what a c (Ok true)
  any_holds what xs one rest at a b c holds is yes_ leads h =
      led truth what (λ setting s. either holds (λ s₂. gives true s₂) (λ s₂. any_of setting.budget (deep at setting) (exprs_tree rest) (spot_of at) s₂) s) a c c (Ok true) (any_next what xs one rest at a b c holds is leads h)
      (value_now truth (λ setting s. either holds (λ s₂. gives true s₂) (λ s₂. any_of setting.budget (deep at setting) (exprs_tree rest) (spot_of at) s₂) s) c true
      (λ setting right. ap (λ t. either t (λ s₂. gives true s₂) (λ s₂. any_of setting.budget (deep at setting) (exprs_tree rest) (spot_of at) s₂) (state_of c)) yes_))

  pub any_goes : (what : What R Bool) (xs : List Expr) (one : Expr) (rest : List Expr) (at : At) (a b c : Machine R) (holds : Bool) → xs ≡ one ∷ rest → holds ≡ false → Leads what (any_of_at xs at) a b → Does truth (expr_at one at) b c (Ok holds) → Leads what (any_of_at rest at) a c
  any_goes what xs one rest at a b c holds is not_ leads h =
      subst (λ t. Leads what (λ setting s. either t (λ s₂. gives true s₂) (λ s₂. any_of setting.budget (deep at setting) (exprs_tree rest) (spot_of at) s₂) s) a c) not_ (any_next what xs one rest at a b c holds is leads h)

  pub any_none : (what : What R Bool) (xs : List Expr) (at : At) (a b : Machine R) → xs ≡ [] → Leads what (any_of_at xs at) a b → Does truth what a b (Ok false)
  any_none what xs at a b is leads = led truth what (any_of_at [] at) a b b (Ok false) (subst (λ l. Leads what (any_of_at l at) a b) is leads) (value_now truth (any_of_at [] at) b false (λ setting right. refl))

  -- ---- members of `&&`

  pub all_fails : (what : What R Bool) (xs : List Expr) (one : Expr) (rest : List Expr) (at : At) (a b c : Machine R) (e : EvalFault) → xs ≡ one ∷ rest → Leads what (all_of_at xs at) a b → Does truth (expr_at one at) b c (Err e) → Does truth what a c (Err e)
  all_fails what xs one rest at a b c e is leads h =
      led truth what (all_of_at (one ∷ rest) at) a b c (Err e) (subst (λ l. Leads what (all_of_at l at) a b) is leads)
      (err_then truth truth (expr_at one at) (λ setting holds s₁. either holds (λ s₂. all_of setting.budget (deep at setting) (exprs_tree rest) (spot_of at) s₂) (λ s₂. gives false s₂) s₁) b c e
      (λ setting holds later. either_begins setting holds _ _ later (λ last. all_begins setting at.levels (exprs_tree rest) (spot_of at) last) (λ last. same_begins setting false last)) h)

  all_next : (what : What R Bool) (xs : List Expr) (one : Expr) (rest : List Expr) (at : At) (a b c : Machine R) (holds : Bool) → xs ≡ one ∷ rest → Leads what (all_of_at xs at) a b → Does truth (expr_at one at) b c (Ok holds)
      → Leads what (λ setting s. either holds (λ s₂. all_of setting.budget (deep at setting) (exprs_tree rest) (spot_of at) s₂) (λ s₂. gives false s₂) s) a c
  all_next what xs one rest at a b c holds is leads h =
      leads_then what (all_of_at (one ∷ rest) at) (λ setting s. either holds (λ s₂. all_of setting.budget (deep at setting) (exprs_tree rest) (spot_of at) s₂) (λ s₂. gives false s₂) s) a b c (subst (λ l. Leads what (all_of_at l at) a b) is leads)
      (ok_then truth (expr_at one at) (λ setting t s₁. either t (λ s₂. all_of setting.budget (deep at setting) (exprs_tree rest) (spot_of at) s₂) (λ s₂. gives false s₂) s₁) b c holds h)

  pub all_fail : (what : What R Bool) (xs : List Expr) (one : Expr) (rest : List Expr) (at : At) (a b c : Machine R) (holds : Bool) → xs ≡ one ∷ rest → holds ≡ false → Leads what (all_of_at xs at) a b → Does truth (expr_at one at) b c (Ok holds) → Does truth what a c (Ok false)
  all_fail what xs one rest at a b c holds is not_ leads h =
      led truth what (λ setting s. either holds (λ s₂. all_of setting.budget (deep at setting) (exprs_tree rest) (spot_of at) s₂) (λ s₂. gives false s₂) s) a c c (Ok false) (all_next what xs one rest at a b c holds is leads h)
      (value_now truth (λ setting s. either holds (λ s₂. all_of setting.budget (deep at setting) (exprs_tree rest) (spot_of at) s₂) (λ s₂. gives false s₂) s) c false
      (λ setting right. ap (λ t. either t (λ s₂. all_of setting.budget (deep at setting) (exprs_tree rest) (spot_of at) s₂) (λ s₂. gives false s₂) (state_of c)) not_))

  pub all_goes : (what : What R Bool) (xs : List Expr) (one : Expr) (rest : List Expr) (at : At) (a b c : Machine R) (holds : Bool) → xs ≡ one ∷ rest → holds ≡ true → Leads what (all_of_at xs at) a b → Does truth (expr_at one at) b c (Ok holds) → Leads what (all_of_at rest at) a c
  all_goes what xs one rest at a b c holds is yes_ leads h =
      subst (λ t. Leads what (λ setting s. either t (λ s₂. all_of setting.budget (deep at setting) (exprs_tree rest) (spot_of at) s₂) (λ s₂. gives false s₂) s) a c) yes_ (all_next what xs one rest at a b c holds is leads h)

  pub all_hold : (what : What R Bool) (xs : List Expr) (at : At) (a b : Machine R) → xs ≡ [] → Leads what (all_of_at xs at) a b → Does truth what a b (Ok true)
  all_hold what xs at a b is leads = led truth what (all_of_at [] at) a b b (Ok true) (subst (λ l. Leads what (all_of_at l at) a b) is leads) (value_now truth (all_of_at [] at) b true (λ setting right. refl))

  -- ---- what does not hold

  pub not_fails : (test : Expr) (at : At) (a b : Machine R) (e : EvalFault) → Does truth (expr_at test at) a b (Err e) → Does truth (test_at (tree.Not (expr_tree test)) at) a b (Err e)
  not_fails test at a b e h = made_fails truth (expr_at test at) not a b e h

  pub not_ends : (test : Expr) (at : At) (a b : Machine R) (holds answer : Bool) → answer ≡ not holds → Does truth (expr_at test at) a b (Ok holds) → Does truth (test_at (tree.Not (expr_tree test)) at) a b (Ok answer)
  not_ends test at a b holds answer is h = made_ends truth (expr_at test at) not a b holds answer is h

  differ_is : (o : Outcome R Value) (right : State R → Outcome R Value)
      → then_do o (λ a. λ s₁. then_do (right s₁) (λ b. λ s₂. gives (not (is_same a b)) s₂)) ≡ then_do (then_do o (λ a. λ s₁. then_do (right s₁) (λ b. λ s₂. gives (is_same a b) s₂))) (λ holds. λ s₁. gives (not holds) s₁)
  differ_is (gives v s) right = go (right s)
    where
      go : (p : Outcome R Value) → then_do p (λ b. λ s₂. gives (not (is_same v b)) s₂) ≡ then_do (then_do p (λ b. λ s₂. gives (is_same v b) s₂)) (λ holds. λ s₁. gives (not holds) s₁)
      go (gives b s₂) = refl
      go (faults f s₂) = refl
  differ_is (faults f s) right = refl

  pub differ_fails : (left right : Arg) (at : At) (a b : Machine R) (e : EvalFault) → Does truth (same_at left right at) a b (Err e) → Does truth (test_at (tree.Differ (arg_tree left) (arg_tree right)) at) a b (Err e)
  differ_fails left right at a b e h =
      does_by truth (test_at (tree.Differ (arg_tree left) (arg_tree right)) at) (λ setting s. then_do (same_at left right at setting s) (λ holds. λ s₁. gives (not holds) s₁)) a b (Err e)
      (λ setting is. differ_is (arg_at left at setting (state_of a)) (arg_at right at setting)) (made_fails truth (same_at left right at) not a b e h)

  pub differ_ends : (left right : Arg) (at : At) (a b : Machine R) (holds answer : Bool) → answer ≡ not holds → Does truth (same_at left right at) a b (Ok holds) → Does truth (test_at (tree.Differ (arg_tree left) (arg_tree right)) at) a b (Ok answer)
  differ_ends left right at a b holds answer same h =
      does_by truth (test_at (tree.Differ (arg_tree left) (arg_tree right)) at) (λ setting s. then_do (same_at left right at setting s) (λ t. λ s₁. gives (not t) s₁)) a b (Ok answer)
      (λ setting is. differ_is (arg_at left at setting (state_of a)) (arg_at right at setting)) (made_ends truth (same_at left right at) not a b holds answer same h)
