-- The tree of the project file of a drill.
use Rattle.std.specs.Prelude.{ℕ, zero, suc, ◌/◌, false, List, [], ◌∷◌, length, codes}
use Rattle.b2_drill.specs.Drills.{source_name, target_name}
use Rattle.jam_grammar.specs.Trees.{ArgTrees, NoArgs, ArgAnd, Word, NoLists, ListAnd, FormTree, Actions, Call, StmtTrees, NoStmts, StmtAnd}

-- what a target is made of, as texts
abbrev pub source_list : ℕ → List (List ℕ)
source_list zero = source_name 0 ∷ []
source_list (suc i) = source_name (suc i) ∷ target_name (suc i / 2) ∷ []

-- words as arguments
abbrev pub words_tree : List (List ℕ) → ArgTrees
words_tree [] = NoArgs
words_tree (text ∷ texts) = ArgAnd (Word text) (words_tree texts)

-- the statement that declares a target
abbrev pub make_form : ℕ → FormTree
make_form i =
    Call (Word (codes "make")) (ListAnd (words_tree (target_name i ∷ [])) (ListAnd (words_tree (source_list i)) (ListAnd (words_tree (codes "@join" ∷ [])) NoLists)))

-- the statement that says how each target is made
abbrev pub join_form : FormTree
join_form = Actions (codes "join") false false false (codes " cat $(>) > $(<) ")

-- The statements of targets, on these lines, before others. The line of the last target comes first, so that there are as many
-- targets as lines.
abbrev pub make_stmts : List ℕ → StmtTrees → StmtTrees
make_stmts [] rest = rest
make_stmts (line ∷ lines) rest = make_stmts lines (StmtAnd line (make_form (length lines)) rest)

-- the whole file, whose first statement stands on this line
abbrev pub drill_tree : ℕ → List ℕ → StmtTrees
drill_tree line lines = StmtAnd line join_form (make_stmts lines NoStmts)
