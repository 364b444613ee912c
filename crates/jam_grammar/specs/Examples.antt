-- Tokens that the grammar is held against.
use Rattle.std.specs.Prelude.{true, false, ℕ, zero, suc, List, [], ◌∷◌, ◌++◌, codes, replicate, None, Some}
use Rattle.b2_base.specs.declared.token.Token.{Token}
use Rattle.b2_base.specs.declared.token.TokenKind.TheVariants as kinds
use Rattle.jam_grammar.specs.declared.tree.Sign.TheVariants as signs
use Rattle.jam_grammar.specs.Grammar.{Begins}
use Rattle.jam_grammar.specs.Trees.{Word, Bracket, CallOf, NoArgs, ArgAnd, NoLists, ListAnd, Or, And, Not, Bare, NoExprs, ExprAnd, Assign, If, Rule, Actions, On, Call, Nothing, NoStmts, StmtAnd}
use Rattle.jam_grammar.specs.Readings.{marks, ReadsTree, IsFirstFault}

-- tokens on a line
abbrev pub word : List ℕ → ℕ → Token
word text line = record { kind = kinds.Word; text = text; line = line; start = 0; end = 0 }

abbrev pub key : List ℕ → ℕ → Token
key text line = record { kind = kinds.Key; text = text; line = line; start = 0; end = 0 }

abbrev pub body : List ℕ → ℕ → Token
body text line = record { kind = kinds.Body; text = text; line = line; start = 0; end = 0 }

-- `X = a ;`
abbrev pub assignment : List Token
assignment = word (codes "X") 1 ∷ key (codes "=") 1 ∷ word (codes "a") 1 ∷ key (codes ";") 1 ∷ []

-- it reads as one assignment
abbrev pub AssignmentReads : Type 0
AssignmentReads = ReadsTree assignment (StmtAnd 1 (Assign (Word (codes "X")) signs.Set (ArgAnd (Word (codes "a")) NoArgs)) NoStmts)

-- without `;` it ends too early, and `; X` stops at its first token
abbrev pub UnendedFaults : Type 0
UnendedFaults = IsFirstFault (word (codes "X") 1 ∷ key (codes "=") 1 ∷ word (codes "a") 2 ∷ []) 2 []

abbrev pub SemicolonFaults : Type 0
SemicolonFaults = IsFirstFault (key (codes ";") 1 ∷ word (codes "X") 1 ∷ []) 1 (codes ";")

-- 64 braces may be open, and one more is the fault
abbrev pub braces : ℕ → List Token
braces n = replicate n (key (codes "{") 1)

abbrev pub SixtyFourBegin : Type 0
SixtyFourBegin = Begins (marks (braces 64))

abbrev pub OneMoreFaults : Type 0
OneMoreFaults = IsFirstFault (braces 64 ++ key (codes "{") 2 ∷ []) 2 (codes "{")

-- where 64 are open, `if` is itself the fault, since its block can never be opened; where 63 are, its `else if` is
abbrev pub IfTooDeep : Type 0
IfTooDeep = IsFirstFault (braces 64 ++ key (codes "if") 3 ∷ []) 3 (codes "if")

abbrev pub ElseIfTooDeep : Type 0
ElseIfTooDeep = IsFirstFault (braces 63 ++ key (codes "if") 2 ∷ word (codes "a") 2 ∷ key (codes "{") 2 ∷ key (codes "}") 2 ∷ key (codes "else") 2 ∷ key (codes "if") 4 ∷ []) 4 (codes "if")

-- each `on` before a statement counts as open
abbrev pub nested_on : ℕ → List Token
nested_on zero = []
nested_on (suc n) = key (codes "on") 1 ∷ word (codes "t") 1 ∷ nested_on n

abbrev pub OnTooDeep : Type 0
OnTooDeep = IsFirstFault (nested_on 64 ++ key (codes "on") 5 ∷ []) 5 (codes "on")

-- a call has 9 lists at most
abbrev pub TenListsFault : Type 0
TenListsFault = IsFirstFault (word (codes "f") 1 ∷ (replicate 8 (key (codes ":") 1) ++ key (codes ":") 6 ∷ [])) 6 (codes ":")

-- after a parameter marked `*` none follows in its list, and `*` alone is the last list
abbrev pub rule_with : List Token → List Token
rule_with params = key (codes "rule") 1 ∷ word (codes "f") 1 ∷ key (codes "(") 1 ∷ params

abbrev pub MarkedIsLast : Type 0
MarkedIsLast = IsFirstFault (rule_with (word (codes "a") 1 ∷ word (codes "*") 1 ∷ word (codes "b") 1 ∷ [])) 1 (codes "b")

abbrev pub StarIsLast : Type 0
StarIsLast = IsFirstFault (rule_with (word (codes "*") 1 ∷ key (codes ":") 1 ∷ [])) 1 (codes ":")

abbrev pub MarkIsNoName : Type 0
MarkIsNoName = IsFirstFault (rule_with (word (codes "?") 1 ∷ [])) 1 (codes "?")

-- `rule f ( ) { }` has one empty list, `rule f ( a ? : * ) { }` has two, and `rule f { }` none
abbrev pub rule_tokens : List Token → List Token
rule_tokens params = key (codes "rule") 1 ∷ word (codes "f") 1 ∷ (params ++ key (codes "{") 1 ∷ key (codes "}") 1 ∷ [])

abbrev pub empty_list : List Token
empty_list = rule_tokens (key (codes "(") 1 ∷ key (codes ")") 1 ∷ [])

abbrev pub OneEmptyList : Type 0
OneEmptyList = ReadsTree empty_list (StmtAnd 1 (Rule (codes "f") ([] ∷ []) NoStmts) NoStmts)

abbrev pub no_lists : List Token
no_lists = rule_tokens []

abbrev pub NoParams : Type 0
NoParams = ReadsTree no_lists (StmtAnd 1 (Rule (codes "f") [] NoStmts) NoStmts)

abbrev pub two_lists : List Token
two_lists = rule_tokens (key (codes "(") 1 ∷ word (codes "a") 1 ∷ word (codes "?") 1 ∷ key (codes ":") 1 ∷ word (codes "*") 1 ∷ key (codes ")") 1 ∷ [])

abbrev pub TwoParams : Type 0
TwoParams = ReadsTree two_lists (StmtAnd 1 (Rule (codes "f") ((record { name = codes "a"; mark = Some 63 } ∷ []) ∷ (record { name = codes "*"; mark = None } ∷ []) ∷ []) NoStmts) NoStmts)

-- `if a || ! b && c { }`: `&&` binds before `||`, and `!` before both
abbrev pub condition : List Token
condition = key (codes "if") 1 ∷ word (codes "a") 1 ∷ key (codes "||") 1 ∷ key (codes "!") 1 ∷ word (codes "b") 1 ∷ key (codes "&&") 1 ∷ word (codes "c") 1 ∷ key (codes "{") 1 ∷ key (codes "}") 1 ∷ []

abbrev pub ConditionReads : Type 0
ConditionReads = ReadsTree condition
    (StmtAnd 1 (If (Or (ExprAnd (Bare (Word (codes "a"))) (ExprAnd (And (ExprAnd (Not (Bare (Word (codes "b")))) (ExprAnd (Bare (Word (codes "c"))) NoExprs))) NoExprs))) NoStmts Nothing) NoStmts)

-- `actions a {x}` and `on t [ f ] ;` on the next line
abbrev pub two_statements : List Token
two_statements = key (codes "actions") 1 ∷ word (codes "a") 1 ∷ key (codes "{") 1 ∷ body (codes "x") 1 ∷ key (codes "}") 1 ∷ key (codes "on") 2 ∷ word (codes "t") 2 ∷ key (codes "[") 3 ∷ word (codes "f") 3 ∷ key (codes "]") 3 ∷ key (codes ";") 3 ∷ []

abbrev pub ActionsRead : Type 0
ActionsRead = ReadsTree two_statements
    (StmtAnd 1 (Actions (codes "a") false false false (codes "x")) (StmtAnd 2 (On (Word (codes "t")) 3 (Call (Bracket (CallOf (Word (codes "f")) (ListAnd NoArgs NoLists))) (ListAnd NoArgs NoLists))) NoStmts))

-- `actions quietly together p {x}` and `actions existing together existing {y}`: modifiers in any order, and a name that is
-- the text of one
abbrev pub headings : List Token
headings = key (codes "actions") 1 ∷ word (codes "quietly") 1 ∷ word (codes "together") 1 ∷ word (codes "p") 1 ∷ key (codes "{") 1 ∷ body (codes "x") 1 ∷ key (codes "}") 1 ∷ key (codes "actions") 2 ∷ word (codes "existing") 2 ∷ word (codes "together") 2 ∷ word (codes "existing") 2 ∷ key (codes "{") 2 ∷ body (codes "y") 2 ∷ key (codes "}") 2 ∷ []

abbrev pub HeadingsRead : Type 0
HeadingsRead = ReadsTree headings
    (StmtAnd 1 (Actions (codes "p") true false true (codes "x")) (StmtAnd 2 (Actions (codes "existing") true true false (codes "y")) NoStmts))

-- after a word that is no modifier, or a modifier that stood, the body has to come
abbrev pub NameIsLast : Type 0
NameIsLast = IsFirstFault (key (codes "actions") 1 ∷ word (codes "p") 1 ∷ word (codes "q") 2 ∷ []) 2 (codes "q")

abbrev pub ModifiersStandOnce : Type 0
ModifiersStandOnce = IsFirstFault (key (codes "actions") 1 ∷ word (codes "together") 1 ∷ word (codes "together") 1 ∷ word (codes "q") 3 ∷ []) 3 (codes "q")
