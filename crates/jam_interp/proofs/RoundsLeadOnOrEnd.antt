-- The rounds of the loops, by what the calls in them promise.
use Rattle.std.proofs.Common.{◌≡◌, ◌<◌, ◌+◌, ◌-◌, ℕ, suc, Bool, true, List, [], ◌∷◌, ◌++◌, Option, Ok, Err, refl, sym, ap, ◌∙◌, subst, arith}
use Rattle.b2_host.specs.Outside.{Outside}
use Rattle.jam_expand.specs.Limits.{within}
use Rattle.jam_grammar.specs.declared.tree.Arg.{Arg}
use Rattle.jam_grammar.specs.declared.tree.Expr.{Expr}
use Rattle.jam_grammar.specs.declared.tree.Block.{Block}
use Rattle.jam_grammar.specs.declared.tree.Stmt.{Stmt, out-Stmt}
use Rattle.jam_journal.specs.Tables.{Text}
use Rattle.jam_journal.specs.Scopes.{Value, assign}
use Rattle.jam_scope.specs.Worlds.{Worlds}
use Rattle.jam_scope.specs.Changes.{rescoped}
use Rattle.jam_meaning.specs.Faults.{turns}
use Rattle.jam_meaning.specs.Settings.{Meaning}
use Rattle.jam_meaning.specs.Conds.{is_true}
use Rattle.jam_meaning.specs.Outcomes.{Flow, then_go}
use Rattle.jam_meaning.specs.RuleCalls.{kept_if}
use Rattle.jam_effects.specs.declared.at.At.{At}
use Rattle.jam_effects.specs.declared.turns.Turns.{Turns}
use Rattle.jam_effects.specs.declared.fault.EvalFault.{EvalFault}
use Rattle.jam_effects.specs.declared.fault.EvalFault.TheVariants as fault
use Rattle.jam_effects.specs.Causes.{IsFault}
use Rattle.jam_effects.specs.Spots.{spot_of}
use Rattle.jam_effects.specs.Answers.{IsAnswered}
use Rattle.jam_effects.specs.Naming.{SameFrames}
use Rattle.jam_effects.specs.Machines.{Machine, machine}
use Rattle.jam_effects.specs.Does.{Does, Leads}
use Rattle.jam_effects.specs.Views.{value, truth, flow_of, What}
use Rattle.jam_interp.specs.FunctionParts.{arg_at, args_rest, bracket_call_at, transformed_rest, filtered_rest, expr_at, block_at, started_at, rounds_at, while_rest}
use Rattle.jam_interp.proofs.TargetBracketsDoAsDefined.{memory_led}
use Rattle.jam_interp.proofs.ArgumentsDoAsDefined.{args_arg_done, args_join_fails, args_goes}
use Rattle.jam_interp.proofs.CallsDoAsDefined.{transformed_called, transformed_large, transformed_goes, filtered_goes}
use Rattle.jam_interp.proofs.StatementsDoAsDefined.{started_no_turn, round_of, rounds_no_turn, rounds_turned, rounds_set}
use Rattle.jam_interp.proofs.FramedStatementsDoAsDefined.{round_then, while_no_turn, while_turned}

one_more : (most left : ℕ) → left < most → most ≡ suc (most - 1)
one_more most left h = omega (arith, h)

module _ {R : Type 0} where
  -- ---- arguments joined

  pub args_step_fails : {U : Type 0} (what : What R Value) (found : Value) (xs : List Arg) (one : Arg) (rest : List Arg) (v texts : Value) (at : At) (a b c : Machine R) (view : U → Value) (e : EvalFault)
      → xs ≡ one ∷ rest → texts ≡ v → Leads what (args_rest found xs at) a b → Does value (arg_at one at) b c (Ok v) → IsAnswered view (within (found ++ texts)) (spot_of at) (Err e) → Does value what a c (Err e)
  args_step_fails what found xs one rest v texts at a b c view e is same leads h answer =
      args_join_fails what found v rest at a c view e (args_arg_done what found xs one rest at a b c v is leads h)
      (subst (λ t. IsAnswered view (within (found ++ t)) (spot_of at) (Err e)) same answer)

  pub args_step_goes : {U : Type 0} (what : What R Value) (found : Value) (xs : List Arg) (one : Arg) (rest : List Arg) (v texts : Value) (at : At) (a b c : Machine R) (view : U → Value) (u : U)
      → xs ≡ one ∷ rest → texts ≡ v → Leads what (args_rest found xs at) a b → Does value (arg_at one at) b c (Ok v) → IsAnswered view (within (found ++ texts)) (spot_of at) (Ok u) → Leads what (args_rest (view u) rest at) a c
  args_step_goes what found xs one rest v texts at a b c view u is same leads h answer =
      args_goes what found v rest at a c view u (args_arg_done what found xs one rest at a b c v is leads h)
      (subst (λ t. IsAnswered view (within (found ++ t)) (spot_of at) (Ok u)) same answer)

  -- ---- values of calls, one for each item

  pub transformed_step_fails : {U : Type 0} (what : What R Value) (rule found xs : Value) (item : Text) (rest v texts : Value) (at : At) (a b c : Machine R) (view : U → Value) (e : EvalFault)
      → xs ≡ item ∷ rest → texts ≡ v → Leads what (transformed_rest rule found xs at) a b → Does value (bracket_call_at rule item at) b c (Ok v) → IsAnswered view (within (found ++ texts)) (spot_of at) (Err e) → Does value what a c (Err e)
  transformed_step_fails what rule found xs item rest v texts at a b c view e is same leads h answer =
      transformed_large what rule found v rest at a c view e (transformed_called what rule found xs item rest at a b c v is leads h)
      (subst (λ t. IsAnswered view (within (found ++ t)) (spot_of at) (Err e)) same answer)

  pub transformed_step_goes : {U : Type 0} (what : What R Value) (rule found xs : Value) (item : Text) (rest v texts : Value) (at : At) (a b c : Machine R) (view : U → Value) (u : U)
      → xs ≡ item ∷ rest → texts ≡ v → Leads what (transformed_rest rule found xs at) a b → Does value (bracket_call_at rule item at) b c (Ok v) → IsAnswered view (within (found ++ texts)) (spot_of at) (Ok u)
      → Leads what (transformed_rest rule (view u) rest at) a c
  transformed_step_goes what rule found xs item rest v texts at a b c view u is same leads h answer =
      transformed_goes what rule found v rest at a c view u (transformed_called what rule found xs item rest at a b c v is leads h)
      (subst (λ t. IsAnswered view (within (found ++ t)) (spot_of at) (Ok u)) same answer)

  pub filtered_step_goes : (what : What R Value) (rule kept new xs : Value) (item : Text) (rest v texts : Value) (holds : Bool) (at : At) (a b c : Machine R)
      → xs ≡ item ∷ rest → texts ≡ v → holds ≡ is_true texts → new ≡ kept ++ kept_if holds item [] → Leads what (filtered_rest rule kept xs at) a b → Does value (bracket_call_at rule item at) b c (Ok v)
      → Leads what (filtered_rest rule new rest at) a c
  filtered_step_goes what rule kept new xs item rest v texts holds at a b c is same held grown leads h =
      filtered_goes what rule kept new xs item rest at a b c v is (subst (λ t. new ≡ kept ++ kept_if t item []) (held ∙ ap is_true same) grown) leads h

  -- ---- rounds for the texts of a list

  pub rounds_ends_early : (what : What R Flow) (name : Text) (xs : Value) (item : Text) (rest : Value) (b : Block) (at : At) (a : Machine R) (ws : Worlds) (before after : Turns) (kept : R) (meaning : Option (Meaning R)) (outside : Outside) (e : EvalFault)
      → xs ≡ item ∷ rest → Leads what (rounds_at name xs b at) a (machine ws before kept meaning outside) → after ≡ before → before.left ≡ 0 → IsFault (spot_of at) (turns before.budget) e
      → Does flow_of what a (machine ws after kept meaning outside) (Err e)
  rounds_ends_early what name xs item rest b at a ws before after kept meaning outside e is leads same none h =
      subst (λ t. Does flow_of what a (machine ws t kept meaning outside) (Err e)) (sym same) (rounds_no_turn what name xs item rest b at a (machine ws before kept meaning outside) e is leads none h)

  -- a turn was taken, and the name is set
  pub rounds_begins : (what : What R Flow) (name : Text) (xs : Value) (item : Text) (rest : Value) (b : Block) (at : At) (a : Machine R) (ws set : Worlds) (before after : Turns) (kept : R) (meaning : Option (Meaning R)) (outside : Outside)
      → xs ≡ item ∷ rest → Leads what (rounds_at name xs b at) a (machine ws before kept meaning outside) → before.left ≡ after.left + 1 → after.budget ≡ before.budget → SameFrames ws set → set ≡ rescoped (assign name (item ∷ [])) ws
      → Leads what (λ setting s. then_go (block_at b at setting s) (rounds_at name rest b at setting)) a (machine set after kept meaning outside)
  rounds_begins what name xs item rest b at a ws set before after kept meaning outside is leads turn budget same now =
      rounds_set what name item rest b at a (machine ws after kept meaning outside) set same now
      (rounds_turned what name xs item rest b at a (machine ws before kept meaning outside) (machine ws after kept meaning outside) is leads turn budget refl)

  -- ---- rounds while a condition holds

  pub while_ends_early : (what : What R Flow) (most : ℕ) (test : Expr) (b : Block) (at : At) (a c : Machine R) (ws : Worlds) (before after : Turns) (kept : R) (meaning : Option (Meaning R)) (outside : Outside) (holds : Bool) (e : EvalFault)
      → holds ≡ true → Leads what (while_rest (suc most) test b at) a c → Does truth (expr_at test at) c (machine ws before kept meaning outside) (Ok holds) → after ≡ before → before.left ≡ 0 → IsFault (spot_of at) (turns before.budget) e
      → Does flow_of what a (machine ws after kept meaning outside) (Err e)
  while_ends_early what most test b at a c ws before after kept meaning outside holds e yes_ leads h same none f =
      subst (λ t. Does flow_of what a (machine ws t kept meaning outside) (Err e)) (sym same) (while_no_turn what most test b at a c (machine ws before kept meaning outside) holds e yes_ leads h none f)

  pub while_begins : (what : What R Flow) (most : ℕ) (test : Expr) (b : Block) (at : At) (a c : Machine R) (ws : Worlds) (before after : Turns) (kept : R) (meaning : Option (Meaning R)) (outside : Outside) (holds : Bool)
      → holds ≡ true → Leads what (while_rest (suc most) test b at) a c → Does truth (expr_at test at) c (machine ws before kept meaning outside) (Ok holds) → before.left ≡ after.left + 1 → after.budget ≡ before.budget
      → Leads what (round_then most test b at) a (machine ws after kept meaning outside)
  while_begins what most test b at a c ws before after kept meaning outside holds yes_ leads h turn budget =
      while_turned what most test b at a c (machine ws before kept meaning outside) (machine ws after kept meaning outside) holds yes_ leads h turn budget refl

  -- ---- statements

  pub started_ends_early : (stmt : Stmt) (path : Text) (n : ℕ) (ws : Worlds) (before after : Turns) (kept : R) (meaning : Option (Meaning R)) (outside : Outside) (e : EvalFault)
      → after ≡ before → before.left ≡ 0 → IsFault (record { path = path; line = (out-Stmt stmt).line }) (turns before.budget) e
      → Does flow_of (started_at stmt path n) (machine ws before kept meaning outside) (machine ws after kept meaning outside) (Err e)
  started_ends_early stmt path n ws before after kept meaning outside e same none h =
      subst (λ t. Does flow_of (started_at stmt path n) (machine ws before kept meaning outside) (machine ws t kept meaning outside) (Err e)) (sym same) (started_no_turn stmt path n (machine ws before kept meaning outside) e none h)

  -- memory ran out while the name of a round was set
  pub rounds_set_fails : (what : What R Flow) (name : Text) (xs : Value) (item : Text) (rest : Value) (b : Block) (at : At) (a : Machine R) (ws set : Worlds) (before after : Turns) (kept : R) (meaning : Option (Meaning R)) (outside : Outside) (e : EvalFault)
      → xs ≡ item ∷ rest → Leads what (rounds_at name xs b at) a (machine ws before kept meaning outside) → before.left ≡ after.left + 1 → after.budget ≡ before.budget → set ≡ ws → e ≡ fault.OutOfMemory
      → Does flow_of what a (machine set after kept meaning outside) (Err e)
  rounds_set_fails what name xs item rest b at a ws set before after kept meaning outside e is leads turn budget same oom =
      memory_led flow_of what (round_of name item rest b at) a (machine ws after kept meaning outside) set e
      (rounds_turned what name xs item rest b at a (machine ws before kept meaning outside) (machine ws after kept meaning outside) is leads turn budget refl) same oom

  -- a further round is counted where fewer turns are left
  pub while_more : (what : What R Flow) (most left : ℕ) (test : Expr) (b : Block) (at : At) (a c : Machine R) → left < most → Leads what (while_rest most test b at) a c → Leads what (while_rest (suc (most - 1)) test b at) a c
  while_more what most left test b at a c h leads = subst (λ n. Leads what (while_rest n test b at) a c) (one_more most left h) leads

  -- a round begins: the condition held, and a turn was taken
  pub round_begins : (what : What R Flow) (most left : ℕ) (test : Expr) (b : Block) (at : At) (a c : Machine R) (ws : Worlds) (before after : Turns) (kept : R) (meaning : Option (Meaning R)) (outside : Outside) (holds : Bool)
      → left < most → Leads what (while_rest most test b at) a c → holds ≡ true → Does truth (expr_at test at) c (machine ws before kept meaning outside) (Ok holds) → before.left ≡ after.left + 1 → after.budget ≡ before.budget
      → Leads what (round_then (most - 1) test b at) a (machine ws after kept meaning outside)
  round_begins what most left test b at a c ws before after kept meaning outside holds h leads yes_ does turn budget =
      while_begins what (most - 1) test b at a c ws before after kept meaning outside holds yes_ (while_more what most left test b at a c h leads) does turn budget
