-- Rules, as plain data.
use Rattle.std.specs.Prelude.{ℕ, Bool, List}
use Rattle.jam_grammar.specs.declared.tree.Param.{Param}
use Rattle.jam_grammar.specs.Trees.{StmtTrees}
use Rattle.jam_journal.specs.Tables.{Text}

-- what a rule does: the lists of its parameters, its statements, and where it stands
pub record Body : Type 0 where
  pub params : List (List Param)
  pub block : StmtTrees
  pub path : Text
  pub line : ℕ

-- the same with its home, the module in which it was defined
pub record Rule : Type 0 where
  pub home : Text
  pub params : List (List Param)
  pub block : StmtTrees
  pub path : Text
  pub line : ℕ

abbrev pub rule_of : Text → Body → Rule
rule_of home body = record { home = home; params = body.params; block = body.block; path = body.path; line = body.line }

-- what actions are: the text between the braces, and their modifiers
pub record Actions : Type 0 where
  pub text : Text
  pub together : Bool
  pub existing : Bool
  pub quietly : Bool
