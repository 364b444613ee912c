-- Small files, and what evaluating them gives.
use Rattle.std.specs.Prelude.{◌≡◌, ℕ, zero, suc, Bool, true, false, List, [], ◌∷◌, ◌++◌, Option, Some, None, codes}
use Rattle.std.specs.Str.{bytes_eq}
use Rattle.b2_base.specs.declared.expand_fault.ExpandFault.TheVariants as expansion
use Rattle.b2_base.specs.Lists.{list_at, first_of}
use Rattle.jam_grammar.specs.declared.tree.Sign.TheVariants as signs
use Rattle.jam_grammar.specs.declared.tree.Param.{Param}
use Rattle.jam_grammar.specs.Trees as tree
use Rattle.jam_grammar.specs.Trees.{ArgTrees, ListTrees, FormTree, StmtTrees}
use Rattle.jam_journal.specs.Tables.{Text}
use Rattle.jam_journal.specs.Scopes.{Value, look}
use Rattle.jam_scope.specs.Worlds.{Worlds}
use Rattle.jam_scope.specs.Changes.{first_worlds}
use Rattle.jam_meaning.specs.declared.native_answer.NativeStep.{NativeStep}
use Rattle.jam_meaning.specs.declared.native_answer.NativeStep.TheVariants as steps
use Rattle.jam_meaning.specs.Faults.{Cause, turns, depth, arity, unknown_rule, expand, exit}
use Rattle.jam_meaning.specs.States.{State}
use Rattle.jam_meaning.specs.Settings.{Told, answers, Meaning, Setting, Reading, is_missing, is_file}
use Rattle.jam_meaning.specs.Outcomes.{Outcome, gives, faults, then_do, in_frame}
use Rattle.jam_meaning.specs.RuleCalls.{value_of}
use Rattle.jam_meaning.specs.Params.{params_bind}
use Rattle.jam_meaning.specs.Forms.{stmts}
use Rattle.jam_meaning.specs.Eval.{levels, most_levels, run}
use Rattle.jam_meaning.specs.Rolled.{call_rolled}

-- ---- natives and settings

-- natives that know ECHO and EXIT alone, and keep the lines of ECHO
abbrev pub Lines : Type 0
Lines = List Value

abbrev pub echo : Bool → Bool → Value → Worlds → Lines → Told NativeStep Lines
echo true ends line worlds lines = answers (steps.Value []) worlds (lines ++ line ∷ [])
echo false true line worlds lines = answers (steps.Exit (first_of line)) worlds lines
echo false false line worlds lines = answers steps.Unknown worlds lines

abbrev pub echoing : Meaning Lines
echoing = record {
  call = λ name given line sight refused worlds lines. echo (bytes_eq name (codes "ECHO")) (bytes_eq name (codes "EXIT")) (list_at 0 given) worlds lines;
  acted = λ name given line worlds lines. answers false worlds lines;
}

-- with a number of turns, where files read so, and a pattern matches nothing but itself
abbrev pub setting_of : ℕ → (Text → Reading) → Setting Lines
setting_of budget reading = record {
  budget = budget;
  natives = echoing;
  sight = record { folder = λ path. None; names = λ dir. []; matching = bytes_eq };
  reading = reading;
  refused = None;
}

-- with a number of turns, and no files
abbrev pub with_turns : ℕ → Setting Lines
with_turns budget = setting_of budget (λ path. is_missing)

abbrev pub at_first : ℕ → State Lines
at_first budget = record { worlds = first_worlds; left = budget; kept = [] }

-- ---- trees

abbrev pub list : List Text → ArgTrees
list [] = tree.NoArgs
list (text ∷ texts) = tree.ArgAnd (tree.Word text) (list texts)

abbrev pub lists : List (List Text) → ListTrees
lists [] = tree.NoLists
lists (texts ∷ more) = tree.ListAnd (list texts) (lists more)

-- the call of a rule with lists
abbrev pub asks : Text → List (List Text) → FormTree
asks name given = tree.Call (tree.Word name) (lists given)

-- the same in brackets, as a list
abbrev pub bracket : Text → List (List Text) → ArgTrees
bracket name given = tree.ArgAnd (tree.Bracket (tree.CallOf (tree.Word name) (lists given))) tree.NoArgs

abbrev pub gives_back : List Text → FormTree
gives_back texts = tree.Return (list texts)

abbrev pub sets : Text → List Text → FormTree
sets name texts = tree.Assign (tree.Word name) signs.Set (list texts)

abbrev pub binds : Text → List Text → FormTree
binds name texts = tree.Local (list (name ∷ [])) (Some (list texts))

-- statements one below another, from a line on
abbrev pub lines_from : ℕ → List FormTree → StmtTrees
lines_from line [] = tree.NoStmts
lines_from line (form ∷ forms) = tree.StmtAnd line form (lines_from (suc line) forms)

abbrev pub lines : List FormTree → StmtTrees
lines = lines_from 1

-- ---- what is seen of an outcome

abbrev pub jamroot : Text
jamroot = codes "Jamroot"

-- the file is run in the first world
abbrev pub run_with : Setting Lines → StmtTrees → Outcome Lines (Unit {0})
run_with setting trees = run setting jamroot trees (at_first setting.budget)

-- these statements are those of a rule, whose value is asked for
abbrev pub given_by : Setting Lines → StmtTrees → Outcome Lines Value
given_by setting trees = value_of (in_frame (λ s. stmts setting (levels setting most_levels) trees jamroot s) (at_first setting.budget))

abbrev pub rule_gives : List FormTree → Outcome Lines Value
rule_gives forms = given_by (with_turns 9) (lines forms)

-- these lines were written, and so many turns are left
abbrev pub IsLeft : {A : Type 0} → Outcome Lines A → Lines → ℕ → Type 0
IsLeft (gives a s) lines left = (s.kept ≡ lines) × (s.left ≡ left)
IsLeft (faults fault s) lines left = ⊥

-- the value is this one
abbrev pub HasValue : {A : Type 0} → Outcome Lines A → A → Type 0
HasValue (gives a s) value = a ≡ value
HasValue (faults fault s) value = ⊥

-- the evaluation ends with a fault at a line of a file
abbrev pub FaultsAt : {A : Type 0} → Outcome Lines A → Text → ℕ → Cause → Type 0
FaultsAt (gives a s) path line cause = ⊥
FaultsAt (faults fault s) path line cause = fault ≡ record { spot = record { path = path; line = line }; cause = cause }

-- ---- turns

-- `{ ECHO a ; }` on lines 1 and 2 takes three turns: one for each statement, and one for the call
abbrev pub echo_in_braces : StmtTrees
echo_in_braces = tree.StmtAnd 1 (tree.Braces (lines_from 2 (asks (codes "ECHO") ((codes "a" ∷ []) ∷ []) ∷ []))) tree.NoStmts

abbrev pub ThreeTurns : Type 0
ThreeTurns = IsLeft (run_with (with_turns 3) echo_in_braces) ((codes "a" ∷ []) ∷ []) 0

-- the call has no turn where there are two, nor its statement where there is one
abbrev pub TwoRunOut : Type 0
TwoRunOut = FaultsAt (run_with (with_turns 2) echo_in_braces) jamroot 2 (turns 2)

abbrev pub OneRunsOut : Type 0
OneRunsOut = FaultsAt (run_with (with_turns 1) echo_in_braces) jamroot 2 (turns 1)

-- `X = a ;` and `ECHO $(X) ;` take three turns
abbrev pub set_and_echo : StmtTrees
set_and_echo = lines (sets (codes "X") (codes "a" ∷ []) ∷ asks (codes "ECHO") ((codes "$(X)" ∷ []) ∷ []) ∷ [])

abbrev pub ThreeAreEnough : Type 0
ThreeAreEnough = IsLeft (run_with (with_turns 3) set_and_echo) ((codes "a" ∷ []) ∷ []) 0

abbrev pub TwoAreNot : Type 0
TwoAreNot = FaultsAt (run_with (with_turns 2) set_and_echo) jamroot 2 (turns 2)

-- an argument's fault comes before the turn of the call: `return [ ECHO $(X[a]) ] ;` with one turn, which its statement takes
abbrev pub FaultBeforeTurns : Type 0
FaultBeforeTurns =
    FaultsAt (run_with (with_turns 1) (lines (tree.Return (bracket (codes "ECHO") ((codes "$(X[a])" ∷ []) ∷ [])) ∷ [])))
    jamroot 1 (expand (expansion.BadIndex (codes "a")))

-- ---- frames

-- the variable of `for local` ends with the loop: `local X = out ; for local X in a { } return $(X) ;`
abbrev pub LoopVariableEnds : Type 0
LoopVariableEnds =
    HasValue (rule_gives (binds (codes "X") (codes "out" ∷ []) ∷ tree.For true (codes "X") (list (codes "a" ∷ [])) tree.NoStmts ∷ gives_back (codes "$(X)" ∷ []) ∷ []))
    (codes "out" ∷ [])

-- so does what is bound in `on`: `local X = out ; on t local X = a ; return $(X) ;`
abbrev pub OnLocalEnds : Type 0
OnLocalEnds =
    HasValue (rule_gives (binds (codes "X") (codes "out" ∷ []) ∷ tree.On (tree.Word (codes "t")) 2 (binds (codes "X") (codes "a" ∷ [])) ∷ gives_back (codes "$(X)" ∷ []) ∷ []))
    (codes "out" ∷ [])

-- `X on t = a ; return [ on t return $(X) ] ;`
abbrev pub OwnValueIsSeen : Type 0
OwnValueIsSeen =
    HasValue (rule_gives (tree.AssignOn (tree.Word (codes "X")) (list (codes "t" ∷ [])) signs.Set (list (codes "a" ∷ []))
    ∷ tree.Return (tree.ArgAnd (tree.Bracket (tree.OnReturn (tree.Word (codes "t")) (list (codes "$(X)" ∷ [])))) tree.NoArgs) ∷ []))
    (codes "a" ∷ [])

-- each `+=` adds: `local X = a ; X += b ; X += c ; return $(X) ;`
abbrev pub EachAdds : Type 0
EachAdds =
    HasValue (rule_gives (binds (codes "X") (codes "a" ∷ []) ∷ tree.Assign (tree.Word (codes "X")) signs.Add (list (codes "b" ∷ []))
    ∷ tree.Assign (tree.Word (codes "X")) signs.Add (list (codes "c" ∷ [])) ∷ gives_back (codes "$(X)" ∷ []) ∷ []))
    (codes "a" ∷ codes "b" ∷ codes "c" ∷ [])

-- ---- blocks

-- the first case that matches: `switch b { case a : return one ; case b : return two ; }`
abbrev pub SecondCase : Type 0
SecondCase =
    HasValue (rule_gives (tree.Switch (list (codes "b" ∷ [])) (tree.CaseAnd (codes "a") (lines (gives_back (codes "one" ∷ []) ∷ []))
    (tree.CaseAnd (codes "b") (lines (gives_back (codes "two" ∷ []) ∷ [])) tree.NoCases)) ∷ []))
    (codes "two" ∷ [])

-- blocks within one another
abbrev pub nested : ℕ → StmtTrees
nested zero = tree.NoStmts
nested (suc more) = tree.StmtAnd 1 (tree.Braces (nested more)) tree.NoStmts

-- 256 levels may be open, and no more
abbrev pub DeepEnough : Type 0
DeepEnough = IsLeft (run_with (with_turns 256) (nested 256)) [] 0

abbrev pub TooDeep : Type 0
TooDeep = FaultsAt (run_with (with_turns 300) (nested 257)) jamroot 1 depth

-- ---- included files

-- each file holds `X = in ; return x ;`
abbrev pub included_file : Text → Reading
included_file path = is_file (lines (sets (codes "X") (codes "in" ∷ []) ∷ gives_back (codes "x" ∷ []) ∷ []))

-- an included file runs in the present module, and `return` ends it alone: `module m { local X = out ; include g.jam ; return $(X) ; }`
abbrev pub IncludeGoesOn : Type 0
IncludeGoesOn =
    HasValue (given_by (setting_of 9 included_file) (lines (tree.Module (list (codes "m" ∷ [])) (lines (binds (codes "X") (codes "out" ∷ [])
    ∷ tree.Include (list (codes "g.jam" ∷ [])) ∷ gives_back (codes "$(X)" ∷ []) ∷ [])) ∷ [])))
    (codes "in" ∷ [])

-- ---- calls

abbrev pub param : Text → Option ℕ → Param
param name mark = record { name = name; mark = mark }

-- `a ? : b + : c *` with `: x y`, and with nothing for `b` (63 is `?`, 43 `+`, 42 `*`)
abbrev pub marked_params : List (List Param)
marked_params = (param (codes "a") (Some 63) ∷ []) ∷ (param (codes "b") (Some 43) ∷ []) ∷ (param (codes "c") (Some 42) ∷ []) ∷ []

abbrev pub MarksTake : Type 0
MarksTake = params_bind marked_params ([] ∷ (codes "x" ∷ codes "y" ∷ []) ∷ []) ≡ Some ((codes "a", []) ∷ (codes "b", codes "x" ∷ codes "y" ∷ []) ∷ (codes "c", []) ∷ [])

abbrev pub MarksRefuse : Type 0
MarksRefuse = (params_bind marked_params ((codes "x" ∷ []) ∷ []) ≡ None) × (params_bind marked_params ((codes "x" ∷ codes "y" ∷ []) ∷ (codes "z" ∷ []) ∷ []) ≡ None)

-- `rule f { rule f { ECHO second ; } ECHO first ; }`, and `f ;` twice: a call runs the rule that it found
abbrev pub redefined : StmtTrees
redefined =
    lines (tree.Rule (codes "f") [] (lines (tree.Rule (codes "f") [] (lines (asks (codes "ECHO") ((codes "second" ∷ []) ∷ []) ∷ []))
    ∷ asks (codes "ECHO") ((codes "first" ∷ []) ∷ []) ∷ []))
    ∷ asks (codes "f") ([] ∷ []) ∷ asks (codes "f") ([] ∷ []) ∷ [])

abbrev pub RedefinedRule : Type 0
RedefinedRule = IsLeft (run_with (with_turns 20) redefined) ((codes "first" ∷ []) ∷ (codes "second" ∷ []) ∷ []) 10

-- `rule show { ECHO $(V) ; }`, `rule outer { local V = inner ; show ; }`, `V = global ;`, `outer ;`, `show ;`: what is bound is
-- seen in the rules that are called
abbrev pub dynamic : StmtTrees
dynamic =
    lines (tree.Rule (codes "show") [] (lines (asks (codes "ECHO") ((codes "$(V)" ∷ []) ∷ []) ∷ []))
    ∷ tree.Rule (codes "outer") [] (lines (binds (codes "V") (codes "inner" ∷ []) ∷ asks (codes "show") ([] ∷ []) ∷ []))
    ∷ sets (codes "V") (codes "global" ∷ []) ∷ asks (codes "outer") ([] ∷ []) ∷ asks (codes "show") ([] ∷ []) ∷ [])

abbrev pub DynamicScope : Type 0
DynamicScope = IsLeft (run_with (with_turns 20) dynamic) ((codes "inner" ∷ []) ∷ (codes "global" ∷ []) ∷ []) 6

-- `V = global ;` and `rule bad { local V = x ; W = y ; EXIT no ; }`: a call of `bad` that is rolled back ends with the text `no`,
-- and leaves both variables as they were
abbrev pub bad_rule : StmtTrees
bad_rule =
    lines (sets (codes "V") (codes "global" ∷ [])
    ∷ tree.Rule (codes "bad") [] (lines (binds (codes "V") (codes "x" ∷ []) ∷ sets (codes "W") (codes "y" ∷ []) ∷ asks (codes "EXIT") ((codes "no" ∷ []) ∷ []) ∷ []))
    ∷ [])

abbrev pub Exits : {A : Type 0} → Outcome Lines A → Text → Value → Value → Type 0
Exits (gives a s) text first second = ⊥
Exits (faults fault s) text first second =
    (fault.cause ≡ exit text) × (look s.worlds.now.scopes (codes "V") ≡ first) × (look s.worlds.now.scopes (codes "W") ≡ second)

abbrev pub DynamicScopeRolled : Type 0
DynamicScopeRolled =
    Exits (then_do (run_with (with_turns 20) bad_rule) (λ ended. λ s. call_rolled (with_turns 20) (codes "bad") [] s)) (codes "no") (codes "global" ∷ []) []

-- `rule f ( x ) { }` and `f ;`: what is missing is the fault of the call's line
abbrev pub ArityAtCall : Type 0
ArityAtCall =
    FaultsAt (run_with (with_turns 9) (lines (tree.Rule (codes "f") ((param (codes "x") None ∷ []) ∷ []) tree.NoStmts ∷ asks (codes "f") ([] ∷ []) ∷ [])))
    jamroot 2 (arity (codes "f"))

-- a file with `rule f { none ; }`, whose statement stands on line 5; a fault of a rule's statement stands at the rule's file and line
abbrev pub file_of_rule : Text → Reading
file_of_rule path = is_file (lines_from 4 (tree.Rule (codes "f") [] (lines_from 5 (asks (codes "none") ([] ∷ []) ∷ [])) ∷ []))

abbrev pub FaultInRule : Type 0
FaultInRule =
    FaultsAt (run_with (setting_of 9 file_of_rule) (lines (tree.Include (list (codes "lib.jam" ∷ [])) ∷ asks (codes "f") ([] ∷ []) ∷ [])))
    (codes "lib.jam") 5 (unknown_rule (codes "none"))

-- `rule inner { return $(1) $(2) ; }`, `rule outer { return [ inner x ] ; }`, `return [ outer a : b ] ;`: an inner call sees no list
-- of an outer one
abbrev pub InnerCallHasItsLists : Type 0
InnerCallHasItsLists =
    HasValue (given_by (with_turns 20) (lines (tree.Rule (codes "inner") [] (lines (gives_back (codes "$(1)" ∷ codes "$(2)" ∷ []) ∷ []))
    ∷ tree.Rule (codes "outer") [] (lines (tree.Return (bracket (codes "inner") ((codes "x" ∷ []) ∷ [])) ∷ []))
    ∷ tree.Return (bracket (codes "outer") ((codes "a" ∷ []) ∷ (codes "b" ∷ []) ∷ [])) ∷ [])))
    (codes "x" ∷ [])
