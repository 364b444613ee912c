-- What the build text of tests defines: the rules and actions of its modules, one after another.
use Rattle.std.specs.Prelude.{◌≡◌, ℕ, List, [], ◌∷◌, ◌++◌, codes}
use Rattle.jam_grammar.specs.Trees.{ArgTrees, Word, ArgAnd, FormTree, Module, Rule, Actions, StmtTrees, NoStmts, StmtAnd}
use Rattle.jam_journal.specs.Tables.{Text}
use Rattle.jam_journal.specs.Scopes.{enter, leave}
use Rattle.jam_scope.specs.Worlds.{World, Worlds}
use Rattle.jam_scope.specs.Changes.{changed, rescoped, define_rule, define_actions}
use Rattle.b2_testing_text.specs.Trees.{testing_tree}

-- a statement of a module: the module, and what the statement changes while this is the present one
pub record Definition : Type 0 where
  pub owner : Text
  pub change : World → World

-- it is made in a frame of its module
abbrev pub made : Definition → Worlds → Worlds
made d ws = rescoped leave (changed d.change (rescoped (enter d.owner) ws))

-- several, in order
abbrev pub all_made : List Definition → Worlds → Worlds
all_made [] ws = ws
all_made (d ∷ more) ws = all_made more (made d ws)

-- what a statement defines that stands on a line of a file; any other one changes nothing here
abbrev pub change_of : Text → ℕ → FormTree → World → World
change_of path line (Rule name params block) w = define_rule name params block path line w
change_of path line (Actions name t e q body) w = define_actions name record { text = body; together = t; existing = e; quietly = q } w
change_of path line _ w = w

-- what the statements of a module define
abbrev pub of_block : Text → Text → StmtTrees → List Definition
of_block path owner NoStmts = []
of_block path owner (StmtAnd line form rest) = record { owner = owner; change = change_of path line form } ∷ of_block path owner rest

-- the name of a module that is a word
abbrev pub owner_of : ArgTrees → Text
owner_of (ArgAnd (Word text) rest) = text
owner_of _ = []

-- what the modules of a file define
abbrev pub of_form : Text → FormTree → List Definition
of_form path (Module name block) = of_block path (owner_of name) block
of_form path _ = []

abbrev pub of_tree : Text → StmtTrees → List Definition
of_tree path NoStmts = []
of_tree path (StmtAnd line form rest) = of_form path form ++ of_tree path rest

-- the definitions of the build text, of which there are six, and what it makes of some worlds
unfoldable pub definitions : List Definition
definitions = of_tree (codes "gcc") testing_tree

abbrev pub equipped : Worlds → Worlds
equipped ws = all_made definitions ws

-- all but rules and actions is as before
abbrev pub KeepsRest : Worlds → Worlds → Type 0
KeepsRest before after = after ≡ record before { now = record before.now { rules = after.now.rules; actions = after.now.actions } }

-- A first part of some definitions was made.
pub record IsPart (all : List Definition) (before after : Worlds) : Type 0 where
  pub done : List Definition
  pub rest : List Definition
  pub split : all ≡ done ++ rest
  pub leaves : after ≡ all_made done before
