-- What a statement does, by its form.
use Rattle.std.specs.Prelude.{ℕ, zero, suc, Bool, true, false, [], ◌∷◌, Option, Some, None}
use Rattle.std.specs.Option.{unwrap_or}
use Rattle.std.specs.FinMap as map
use Rattle.b2_base.specs.Lists.{first_of}
use Rattle.jam_grammar.specs.declared.tree.Sign.{Sign}
use Rattle.jam_grammar.specs.declared.tree.Sign.TheVariants as sign
use Rattle.jam_grammar.specs.Trees as tree
use Rattle.jam_grammar.specs.Trees.{ArgTree, ArgTrees, ExprTree, FormTree, OtherTree, StmtTrees, CaseTrees}
use Rattle.jam_journal.specs.Tables.{Text}
use Rattle.jam_journal.specs.Scopes.{Value, Scopes, bind, assign, assigned}
use Rattle.jam_meaning.specs.Faults.{Spot, turns}
use Rattle.jam_scope.specs.Changes.{define_rule, define_actions, set_on}
use Rattle.jam_meaning.specs.States.{State, with_world, with_scopes}
use Rattle.jam_meaning.specs.Settings.{Setting}
use Rattle.jam_meaning.specs.Outcomes.{Outcome, gives, Flow, goes_on, returns, then_do, then_go, either, take_turn, fault_at, joined, in_module, in_frame, on_target}
use Rattle.jam_meaning.specs.Levels.{Levels}
use Rattle.jam_meaning.specs.Args.{arg, args, call_of}
use Rattle.jam_meaning.specs.Conds.{expr}
use Rattle.jam_meaning.specs.Includes.{included}

abbrev pub is_empty : Value → Bool
is_empty [] = true
is_empty (text ∷ texts) = false

-- each name is bound in the newest frame
abbrev pub bind_names : Value → Value → Scopes → Scopes
bind_names [] value scopes = scopes
bind_names (name ∷ names) value scopes = bind_names names value (bind name value scopes)

module _ {R : Type 0} where
  -- the next statement follows
  abbrev pub done : State R → Outcome R Flow
  done s = gives goes_on s

  -- each of some texts in order
  abbrev pub for_all : Value → (Text → State R → Outcome R Flow) → State R → Outcome R Flow
  for_all [] act s = done s
  for_all (text ∷ texts) act s = then_go (act text s) (for_all texts act)

  -- a name is set: in the innermost frame of this module that binds it, else as the module's variable; `+=` sets what
  -- stands there with the list after it, and `?=` sets where the empty list stands there
  abbrev pub set_name : Sign → Value → Spot → Text → State R → Outcome R Flow
  set_name sign.Set value spot name s = done (with_scopes (assign name value) s)
  set_name sign.Add value spot name s =
      then_do (joined (unwrap_or (assigned s.worlds.now.scopes name) []) value spot s) (λ longer. λ s₁. done (with_scopes (assign name longer) s₁))
  set_name sign.Fill value spot name s =
      either (is_empty (unwrap_or (assigned s.worlds.now.scopes name) [])) (λ s₁. done (with_scopes (assign name value) s₁)) done s

  -- an own value of a target, or the empty list
  abbrev pub own_value : Text → Text → State R → Value
  own_value target name s = unwrap_or (map.get s.worlds.now.own (target, name)) []

  -- an own value is set: `+=` adds to it, and `?=` sets where there is none or it is empty
  abbrev pub set_own : Sign → Value → Spot → Text → Text → State R → Outcome R Flow
  set_own sign.Set value spot target name s = done (with_world (set_on target name value) s)
  set_own sign.Add value spot target name s =
      then_do (joined (own_value target name s) value spot s) (λ longer. λ s₁. done (with_world (set_on target name longer) s₁))
  set_own sign.Fill value spot target name s =
      either (is_empty (own_value target name s)) (λ s₁. done (with_world (set_on target name value) s₁)) done s

  -- rounds while a test holds, of which there are no more than so many: each takes its turn after the test held
  abbrev pub while_rounds : ℕ → ℕ → Spot → (State R → Outcome R Bool) → (State R → Outcome R Flow) → State R → Outcome R Flow
  while_rounds zero budget spot test round s = fault_at spot (turns budget) s
  while_rounds (suc most) budget spot test round s =
      then_do (test s) (λ holds. λ s₁. either holds (λ s₂. take_turn budget spot s₂ (λ s₃. then_go (round s₃) (while_rounds most budget spot test round))) done s₁)

  -- a round for each item, to which the name is set first
  abbrev pub for_rounds : Value → ℕ → Spot → Text → (State R → Outcome R Flow) → State R → Outcome R Flow
  for_rounds [] budget spot name round s = done s
  for_rounds (item ∷ items) budget spot name round s =
      take_turn budget spot s (λ s₁. then_go (round (with_scopes (assign name (item ∷ [])) s₁)) (for_rounds items budget spot name round))

  -- with `local` the name is bound in a frame of the loop
  abbrev pub for_loop : Bool → Text → (State R → Outcome R Flow) → State R → Outcome R Flow
  for_loop true name rounds s = in_frame (λ s₁. rounds (with_scopes (bind name []) s₁)) s
  for_loop false name rounds s = rounds s

module _ {R : Type 0} (setting : Setting R) (deep : Levels R) where
  -- the list of `local`, or the empty one
  abbrev pub local_value : Option ArgTrees → Spot → State R → Outcome R Value
  local_value None spot s = gives [] s
  local_value (Some value) spot s = args setting.budget deep value spot s

  -- a block runs one level deeper, in a frame of its own
  abbrev pub block : StmtTrees → Spot → State R → Outcome R Flow
  block stmts spot s = in_frame (λ s₁. deep.stmts stmts spot.path spot s₁) s

  -- the first case whose pattern matches
  abbrev pub first_case : Text → CaseTrees → Spot → State R → Outcome R Flow
  first_case text tree.NoCases spot s = done s
  first_case text (tree.CaseAnd pattern stmts rest) spot s =
      either (setting.sight.matching pattern text) (λ s₁. block stmts spot s₁) (λ s₁. first_case text rest spot s₁) s

  abbrev pub at_line : ℕ → Spot → Spot
  at_line line spot = record spot { line = line }

  -- a statement takes its turn when it starts, and what it does is at its own line
  abbrev pub started : ℕ → Spot → (Spot → State R → Outcome R Flow) → State R → Outcome R Flow
  started line spot act s = take_turn setting.budget (at_line line spot) s (act (at_line line spot))

  -- a value, and what is done with it
  abbrev pub with_arg : ArgTree → Spot → (Value → State R → Outcome R Flow) → State R → Outcome R Flow
  with_arg a spot next s = then_do (arg setting.budget deep a spot s) next

  abbrev pub with_args : ArgTrees → Spot → (Value → State R → Outcome R Flow) → State R → Outcome R Flow
  with_args list spot next s = then_do (args setting.budget deep list spot s) next

  abbrev pub with_test : ExprTree → Spot → (Bool → State R → Outcome R Flow) → State R → Outcome R Flow
  with_test test spot next s = then_do (expr setting.budget deep test spot s) next

  abbrev mutual
    pub form : FormTree → Spot → State R → Outcome R Flow
    form (tree.Braces stmts) spot s = block stmts spot s
    form (tree.Local names value) spot s =
        with_args names spot (λ ns. λ s₁. then_do (local_value value spot s₁) (λ v. λ s₂. done (with_scopes (bind_names ns v) s₂))) s
    form (tree.Assign target how value) spot s =
        with_arg target spot (λ names. λ s₁. with_args value spot (λ v. λ s₂. for_all names (set_name how v spot) s₂) s₁) s
    form (tree.AssignOn target on how value) spot s =
        with_arg target spot (λ names. λ s₁. with_args on spot (λ targets. λ s₂. with_args value spot (λ v. λ s₃.
        for_all targets (λ t. λ s₄. for_all names (λ name. λ s₅. set_own how v spot t name s₅) s₄) s₃) s₂) s₁) s
    form (tree.Include names) spot s = with_args names spot (λ ns. λ s₁. included setting deep ns spot s₁) s
    form (tree.Return value) spot s = with_args value spot (λ v. λ s₁. gives (returns v) s₁) s
    form (tree.If test stmts next) spot s =
        with_test test spot (λ holds. λ s₁. either holds (λ s₂. block stmts spot s₂) (λ s₂. other next spot s₂) s₁) s
    form (tree.For own name items stmts) spot s =
        with_args items spot (λ texts. λ s₁. for_loop own name (λ s₂. for_rounds texts setting.budget spot name (λ s₃. block stmts spot s₃) s₂) s₁) s
    form (tree.While test stmts) spot s =
        while_rounds (suc s.left) setting.budget spot (λ s₁. expr setting.budget deep test spot s₁) (λ s₁. block stmts spot s₁) s
    form (tree.Switch value cases) spot s = with_args value spot (λ texts. λ s₁. first_case (first_of texts) cases spot s₁) s
    form (tree.Module name stmts) spot s =
        with_args name spot (λ names. λ s₁. in_module (first_of names) (λ s₂. deep.stmts stmts spot.path spot s₂) s₁) s
    form (tree.Rule name params stmts) spot s = done (with_world (define_rule name params stmts spot.path spot.line) s)
    form (tree.Actions name t e q body) spot s = done (with_world (define_actions name record { text = body; together = t; existing = e; quietly = q }) s)
    form (tree.On target line f) spot s =
        with_arg target spot (λ targets. λ s₁. on_target targets (λ s₂. started line spot (λ at. λ s₃. form f at s₃) s₂) s₁) s
    form (tree.Call head lists) spot s = then_do (call_of setting.budget deep head lists spot s) (λ value. λ s₁. done s₁)

    pub other : OtherTree → Spot → State R → Outcome R Flow
    other tree.Nothing spot s = done s
    other (tree.ElseBraces stmts) spot s = block stmts spot s
    other (tree.ElseIf line f) spot s = started line spot (λ at. λ s₁. form f at s₁) s

  -- statements of a file, in order
  abbrev pub stmts : StmtTrees → Text → State R → Outcome R Flow
  stmts tree.NoStmts path s = done s
  stmts (tree.StmtAnd line f rest) path s =
      then_go (started line (record { path = path; line = line }) (λ at. λ s₁. form f at s₁) s) (stmts rest path)
