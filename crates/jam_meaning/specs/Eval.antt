-- Evaluation: of statements, of calls, and of a whole file.
use Rattle.std.specs.Prelude.{ℕ, zero, suc, List, [], ◌∷◌}
use Rattle.jam_grammar.specs.Trees.{StmtTrees}
use Rattle.jam_journal.specs.Tables.{Text}
use Rattle.jam_journal.specs.Scopes.{Value}
use Rattle.jam_meaning.specs.Faults.{Spot}
use Rattle.jam_scope.specs.Rules.{Rule}
use Rattle.jam_meaning.specs.States.{State}
use Rattle.jam_meaning.specs.Settings.{Setting}
use Rattle.jam_meaning.specs.Outcomes.{Outcome, Flow, in_frame}
use Rattle.jam_meaning.specs.Levels.{Levels, no_level}
use Rattle.jam_meaning.specs.Args.{inner, call, call_head}
use Rattle.jam_meaning.specs.RuleCalls.{applied}
use Rattle.jam_meaning.specs.Forms.{stmts}
use Rattle.jam_meaning.specs.Includes.{file_ended}

-- the most levels that are open at once
abbrev pub most_levels : ℕ
most_levels = 256

module _ {R : Type 0} (setting : Setting R) where
  -- a rule's statements
  abbrev pub rule_body : Levels R → Rule → State R → Outcome R Flow
  rule_body deep rule s = stmts setting deep rule.block rule.path s

  -- one level is open, and what may be done in it where this may be done one level deeper
  abbrev pub one_level : Levels R → Levels R
  one_level deep = record {
    stmts = λ tree path spot s. stmts setting deep tree path s;
    call = λ name lists spot s. applied setting deep (rule_body deep) name lists spot s;
    bracket = λ tree spot s. inner setting.budget deep tree spot s;
    bracket_call = λ head first spot s. call_head setting.budget deep head (first ∷ []) spot s;
  }

  -- what may be done where so many levels more may be opened
  abbrev pub levels : ℕ → Levels R
  levels zero = no_level
  levels (suc more) = one_level (levels more)

  -- A file in a frame of the present module. It is no level itself.
  abbrev pub run : Text → StmtTrees → State R → Outcome R (Unit {0})
  run path tree s = file_ended (in_frame (λ s₁. stmts setting (levels most_levels) tree path s₁) s)

  -- a call from outside any statement
  abbrev pub run_call : Text → List Value → Spot → State R → Outcome R Value
  run_call name lists spot s = call setting.budget (levels most_levels) name lists spot s
