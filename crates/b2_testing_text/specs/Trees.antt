-- The tree of the build text of tests.
use Rattle.std.specs.Prelude.{ℕ, false, List, [], ◌∷◌, Some, codes}
use Rattle.jam_grammar.specs.declared.tree.Param.{Param}
use Rattle.jam_grammar.specs.declared.tree.Sign.TheVariants as signs
use Rattle.jam_grammar.specs.Trees.{ArgTrees, Word, Bracket, CallOf, NoArgs, ArgAnd, NoLists, ListAnd, AssignOn, Return, Module, Rule, Actions, Call, FormTree, StmtTrees, NoStmts, StmtAnd}

-- one word as arguments
abbrev pub one : List ℕ → ArgTrees
one text = ArgAnd (Word text) NoArgs

-- a list of one parameter, with its mark
abbrev pub marked : List ℕ → ℕ → List Param
marked name mark = record { name = name; mark = Some mark } ∷ []

-- the rule that gives the command of the compiler
abbrev pub command_rule : FormTree
command_rule = Rule (codes "command") [] (StmtAnd 1 (Return (one (codes "$(COMMAND)"))) NoStmts)

-- the rule that readies the marker of `compile-fail`
abbrev pub compile_fail_rule : FormTree
compile_fail_rule =
    Rule (codes "compile-fail") (marked (codes "t") 43 ∷ marked (codes "s") 43 ∷ marked (codes "p") 42 ∷ [])
    (StmtAnd 6 (Call (Word (codes "gcc.compile.c++")) (ListAnd (one (codes "$(t)")) (ListAnd (one (codes "$(s)")) (ListAnd (one (codes "$(p)")) NoLists))))
    (StmtAnd 7 (AssignOn (Word (codes "COMMAND")) (one (codes "$(t)")) signs.Set (ArgAnd (Bracket (CallOf (Word (codes "gcc.command")) (ListAnd NoArgs NoLists))) NoArgs)) NoStmts))

-- actions without modifiers
abbrev pub actions : List ℕ → List ℕ → FormTree
actions name body = Actions name false false false body

-- the tree, whose statements stand on these lines
unfoldable pub testing_tree : StmtTrees
testing_tree =
    StmtAnd 1 (Module (one (codes "gcc")) (StmtAnd 1 command_rule NoStmts))
    (StmtAnd 2 (Module (one (codes "testing"))
    (StmtAnd 4 compile_fail_rule
    (StmtAnd 9 (actions (codes "pass") (codes " echo passed > \"$(<)\" "))
    (StmtAnd 10 (actions (codes "compile-fail") (codes " if $(COMMAND) $(OPTIONS) -D$(DEFINES) -I\"$(DIRS)\" -fsyntax-only \"$(>)\" ; then exit 1 ; else echo passed > \"$(<)\" ; fi "))
    (StmtAnd 11 (actions (codes "run") (codes " \"./$(>)\" > /dev/null 2>&1 && echo passed > \"$(<)\" "))
    (StmtAnd 12 (actions (codes "run-fail") (codes " if \"./$(>)\" > /dev/null 2>&1 ; then exit 1 ; else echo passed > \"$(<)\" ; fi "))
    NoStmts))))))
    NoStmts)
