-- What may be done one level deeper.
use Rattle.std.specs.Prelude.{List}
use Rattle.jam_grammar.specs.Trees.{InnerTree, StmtTrees}
use Rattle.jam_journal.specs.Tables.{Text}
use Rattle.jam_journal.specs.Scopes.{Value}
use Rattle.jam_meaning.specs.Faults.{Spot, depth}
use Rattle.jam_meaning.specs.States.{State}
use Rattle.jam_meaning.specs.Outcomes.{Outcome, Flow, fault_at}

-- each opens one level more: statements of a block or of a file with this path; a call of a name with lists; what stands in
-- brackets; and brackets with a call in them, whose rule and first list are given
pub record Levels (R : Type 0) : Type 0 where
  pub stmts : StmtTrees → Text → Spot → State R → Outcome R Flow
  pub call : Text → List Value → Spot → State R → Outcome R Value
  pub bracket : InnerTree → Spot → State R → Outcome R Value
  pub bracket_call : Value → Value → Spot → State R → Outcome R Value

-- no level more may be opened
abbrev pub no_level : {R : Type 0} → Levels R
no_level = record {
  stmts = λ tree path spot s. fault_at spot depth s;
  call = λ name lists spot s. fault_at spot depth s;
  bracket = λ inner spot s. fault_at spot depth s;
  bracket_call = λ head first spot s. fault_at spot depth s;
}
