-- How a tree is spelled.
use Rattle.std.specs.Prelude.{◌≡◌, ℕ, ◌==◌, List, [], ◌∷◌, ◌++◌, Bool, true, false, ◌&&◌, Option, Some, None, flat_map, IsTrue, codes, if◌then◌else◌}
use Rattle.std.specs.declared.vec.Vec.{Vec}
use Rattle.std.specs.declared.alloc.Global.{Global}
use Rattle.std.specs.Str.{bytes_eq}
use Rattle.b2_base.specs.declared.token.Token.{Token}
use Rattle.jam_grammar.specs.declared.mark.TokenMark.{TokenMark}
use Rattle.jam_grammar.specs.declared.mark.TokenMark.TheVariants as m
use Rattle.jam_grammar.specs.declared.tree.Sign.{Sign}
use Rattle.jam_grammar.specs.declared.tree.Sign.TheVariants as signs
use Rattle.jam_grammar.specs.declared.tree.Param.{Param}
use Rattle.jam_grammar.specs.declared.tree.Arg.{Arg}
use Rattle.jam_grammar.specs.declared.tree.Inner.{Inner}
use Rattle.jam_grammar.specs.declared.tree.Expr.{Expr}
use Rattle.jam_grammar.specs.declared.tree.Form.{Form}
use Rattle.jam_grammar.specs.declared.tree.Other.{Other}
use Rattle.jam_grammar.specs.declared.tree.Block.{Block}
use Rattle.jam_grammar.specs.declared.tree.Case.{Case}
use Rattle.jam_grammar.specs.declared.tree.Stmt.{Stmt}
use Rattle.jam_grammar.specs.declared.tree.Tree.{Tree}
use Rattle.jam_grammar.specs.Marks.{mark_of_token, is_word, is_name}
use Rattle.jam_grammar.specs.Trees.{ArgTree, Word, Bracket, InnerTree, CallOf, OnInner, OnReturn, ArgTrees, NoArgs, ArgAnd, ListTrees, NoLists, ListAnd, ExprTree, Or, And, Not, Group, Bare, Equal, Differ, Within, ExprTrees, NoExprs, ExprAnd, FormTree, Braces, Local, Assign, AssignOn, Include, Return}
use Rattle.jam_grammar.specs.Trees.{If, For, While, Switch, Module, Rule, Actions, On, Call, OtherTree, Nothing, ElseBraces, ElseIf, StmtTrees, NoStmts, StmtAnd, CaseTrees, NoCases, CaseAnd, arg_tree, inner_tree, args_tree, lists_tree, expr_tree, exprs_tree, form_tree, other_tree, block_tree, stmts_tree, case_before, cases_tree, whole_tree}

-- What a tree asks of the tokens, one after another.
pub data Sym : Type 0 where
  -- a key, or one of the words `?`, `*` and `+`, by its mark
  Key : TokenMark → Sym
  -- after the modifiers of actions that the first three tell (`together`, `existing`, `quietly`), words in any order with
  -- which the others have stood
  Heads : Bool → Bool → Bool → Bool → Bool → Bool → Sym
  -- a word of this text, whichever it is
  Says : List ℕ → Sym
  -- a word of this text that is none of `?`, `*` and `+`
  Named : List ℕ → Sym
  -- a body of this text
  Raw : List ℕ → Sym
  -- that the next token stands on this line
  From : ℕ → Sym
  -- what nothing spells, in trees that no tokens read as
  Never : Sym

-- arguments: `arg`, `[ .. ]`, `list`, and `list : list ..`
abbrev mutual
  pub spell_arg : ArgTree → List Sym
  spell_arg (Word text) = Says text ∷ []
  spell_arg (Bracket i) = Key m.SquareOpen ∷ (spell_inner i ++ Key m.SquareClose ∷ [])

  pub spell_inner : InnerTree → List Sym
  spell_inner (CallOf head lists) = spell_arg head ++ spell_lists lists
  spell_inner (OnInner target i) = Key m.On ∷ (spell_arg target ++ spell_inner i)
  spell_inner (OnReturn target value) = Key m.On ∷ (spell_arg target ++ (Key m.Return ∷ spell_args value))

  pub spell_args : ArgTrees → List Sym
  spell_args NoArgs = []
  spell_args (ArgAnd first rest) = spell_arg first ++ spell_args rest

  pub spell_lists : ListTrees → List Sym
  spell_lists NoLists = Never ∷ []
  spell_lists (ListAnd first rest) = spell_args first ++ spell_further rest

  pub spell_further : ListTrees → List Sym
  spell_further NoLists = []
  spell_further (ListAnd first rest) = Key m.Colon ∷ (spell_args first ++ spell_further rest)

-- where an expression may stand: anywhere, between two `||`, or between two `&&` and after `!`
pub data Level : Type 0 where
  Anywhere : Level
  WithinOr : Level
  WithinAnd : Level

-- members of `||` stand anywhere, those of `&&` not within `&&`
abbrev pub at_or : Level → List Sym → List Sym
at_or Anywhere syms = syms
at_or WithinOr syms = Never ∷ []
at_or WithinAnd syms = Never ∷ []

abbrev pub at_and : Level → List Sym → List Sym
at_and Anywhere syms = syms
at_and WithinOr syms = syms
at_and WithinAnd syms = Never ∷ []

-- a condition; `||` and `&&` stand between two members at least
abbrev mutual
  pub spell_expr : Level → ExprTree → List Sym
  spell_expr level (Or members) = at_or level (spell_pair WithinOr m.Or members)
  spell_expr level (And members) = at_and level (spell_pair WithinAnd m.And members)
  spell_expr level (Not e) = Key m.Not ∷ spell_expr WithinAnd e
  spell_expr level (Group e) = Key m.ParenOpen ∷ (spell_expr Anywhere e ++ Key m.ParenClose ∷ [])
  spell_expr level (Bare a) = spell_arg a
  spell_expr level (Equal a b) = spell_arg a ++ (Key m.Equals ∷ spell_arg b)
  spell_expr level (Differ a b) = spell_arg a ++ (Key m.NotEquals ∷ spell_arg b)
  spell_expr level (Within a list) = spell_arg a ++ (Key m.In ∷ spell_args list)

  pub spell_pair : Level → TokenMark → ExprTrees → List Sym
  spell_pair level mark NoExprs = Never ∷ []
  spell_pair level mark (ExprAnd first rest) = spell_expr level first ++ spell_second level mark rest

  pub spell_second : Level → TokenMark → ExprTrees → List Sym
  spell_second level mark NoExprs = Never ∷ []
  spell_second level mark (ExprAnd first rest) = Key mark ∷ (spell_expr level first ++ spell_joined level mark rest)

  pub spell_joined : Level → TokenMark → ExprTrees → List Sym
  spell_joined level mark NoExprs = []
  spell_joined level mark (ExprAnd first rest) = Key mark ∷ (spell_expr level first ++ spell_joined level mark rest)

-- a parameter: its name, and its mark if it has one
abbrev pub mark_syms : Option ℕ → List Sym
mark_syms None = []
mark_syms (Some c) =
    if c == 63 then Key m.Query ∷ []
    else if c == 42 then Key m.Star ∷ []
    else if c == 43 then Key m.Plus ∷ []
    else Never ∷ []

abbrev pub param_syms : Param → List Sym
param_syms param = Named param.name ∷ mark_syms param.mark

-- a list of parameters that takes all further arguments
abbrev pub no_mark : Option ℕ → Bool
no_mark None = true
no_mark (Some c) = false

abbrev pub takes_all : List Param → Bool
takes_all [] = false
takes_all (param ∷ []) = bytes_eq param.name (codes "*") && no_mark param.mark
takes_all (first ∷ second ∷ more) = false

abbrev pub plist_syms : List Param → List Sym
plist_syms list = if takes_all list then Key m.Star ∷ [] else flat_map param_syms list

abbrev pub further_params : List (List Param) → List Sym
further_params [] = []
further_params (first ∷ rest) = Key m.Colon ∷ (plist_syms first ++ further_params rest)

abbrev pub params_syms : List (List Param) → List Sym
params_syms [] = []
params_syms (first ∷ rest) = Key m.ParenOpen ∷ ((plist_syms first ++ further_params rest) ++ Key m.ParenClose ∷ [])

-- `=`, `+=`, `?=`
abbrev pub sign_mark : Sign → TokenMark
sign_mark signs.Set = m.Equals
sign_mark signs.Add = m.PlusEquals
sign_mark signs.Fill = m.QueryEquals

-- a value after its sign, up to the end of the statement
abbrev pub set_syms : TokenMark → List Sym → List Sym
set_syms mark value = Key mark ∷ (value ++ Key m.Semicolon ∷ [])

abbrev pub value_syms : Option ArgTrees → List Sym
value_syms None = Key m.Semicolon ∷ []
value_syms (Some value) = set_syms m.Equals (spell_args value)

abbrev pub local_syms : Bool → List Sym
local_syms true = Key m.Local ∷ []
local_syms false = []

-- in braces
abbrev pub braced : List Sym → List Sym
braced syms = Key m.BraceOpen ∷ (syms ++ Key m.BraceClose ∷ [])

-- an `if`, and no other form, stands after `else` without braces
abbrev pub is_if : FormTree → Bool
is_if (If test block next) = true
is_if _ = false

abbrev pub only : Bool → List Sym → List Sym
only true syms = syms
only false syms = Never ∷ []

-- statements
abbrev mutual
  pub spell_form : FormTree → List Sym
  spell_form (Braces block) = braced (spell_stmts block)
  spell_form (Local names value) = Key m.Local ∷ (spell_args names ++ value_syms value)
  spell_form (Assign target sign value) = spell_arg target ++ set_syms (sign_mark sign) (spell_args value)
  spell_form (AssignOn target on sign value) = spell_arg target ++ (Key m.On ∷ (spell_args on ++ set_syms (sign_mark sign) (spell_args value)))
  spell_form (Include names) = set_syms m.Include (spell_args names)
  spell_form (Return value) = set_syms m.Return (spell_args value)
  spell_form (If test block next) = Key m.If ∷ (spell_expr Anywhere test ++ (braced (spell_stmts block) ++ spell_other next))
  spell_form (For own name items block) = Key m.For ∷ (local_syms own ++ (Says name ∷ Key m.In ∷ (spell_args items ++ braced (spell_stmts block))))
  spell_form (While test block) = Key m.While ∷ (spell_expr Anywhere test ++ braced (spell_stmts block))
  spell_form (Switch value cases) = Key m.Switch ∷ (spell_args value ++ braced (spell_cases cases))
  spell_form (Module name block) = Key m.Module ∷ (spell_args name ++ braced (spell_stmts block))
  spell_form (Rule name params block) = Key m.Rule ∷ Says name ∷ (params_syms params ++ braced (spell_stmts block))
  spell_form (Actions name t e q body) = Key m.Actions ∷ Heads false false false t e q ∷ Says name ∷ braced (Raw body ∷ [])
  spell_form (On target line form) = Key m.On ∷ (spell_arg target ++ (From line ∷ spell_form form))
  spell_form (Call head lists) = spell_arg head ++ (spell_lists lists ++ Key m.Semicolon ∷ [])

  pub spell_other : OtherTree → List Sym
  spell_other Nothing = []
  spell_other (ElseBraces block) = Key m.Else ∷ braced (spell_stmts block)
  spell_other (ElseIf line form) = Key m.Else ∷ From line ∷ only (is_if form) (spell_form form)

  pub spell_stmts : StmtTrees → List Sym
  spell_stmts NoStmts = []
  spell_stmts (StmtAnd line form rest) = (From line ∷ spell_form form) ++ spell_stmts rest

  pub spell_cases : CaseTrees → List Sym
  spell_cases NoCases = []
  spell_cases (CaseAnd pattern block rest) = Key m.Case ∷ Says pattern ∷ Key m.Colon ∷ (spell_stmts block ++ spell_cases rest)

-- the same of the code's trees
abbrev pub arg_syms : Arg → List Sym
arg_syms a = spell_arg (arg_tree a)

abbrev pub inner_syms : Inner → List Sym
inner_syms i = spell_inner (inner_tree i)

abbrev pub args_syms : List Arg → List Sym
args_syms list = spell_args (args_tree list)

abbrev pub lists_syms : List (Vec Arg Global) → List Sym
lists_syms lists = spell_lists (lists_tree lists)

abbrev pub further_syms : List (Vec Arg Global) → List Sym
further_syms lists = spell_further (lists_tree lists)

abbrev pub expr_syms : Level → Expr → List Sym
expr_syms level e = spell_expr level (expr_tree e)

abbrev pub pair_syms : Level → TokenMark → List Expr → List Sym
pair_syms level mark members = spell_pair level mark (exprs_tree members)

abbrev pub joined_syms : Level → TokenMark → List Expr → List Sym
joined_syms level mark members = spell_joined level mark (exprs_tree members)

abbrev pub form_syms : Form → List Sym
form_syms form = spell_form (form_tree form)

abbrev pub other_syms : Other → List Sym
other_syms next = spell_other (other_tree next)

abbrev pub block_syms : Block → List Sym
block_syms block = spell_stmts (block_tree block)

abbrev pub stmt_syms : Stmt → List Sym
stmt_syms stmt = From stmt.line ∷ form_syms stmt.form

abbrev pub stmts_syms : List Stmt → List Sym
stmts_syms stmts = spell_stmts (stmts_tree stmts)

abbrev pub case_syms : Case → List Sym
case_syms case = spell_cases (case_before case NoCases)

abbrev pub cases_syms : List Case → List Sym
cases_syms cases = spell_cases (cases_tree cases)

abbrev pub tree_syms : Tree → List Sym
tree_syms tree = spell_stmts (whole_tree tree)

-- a token is what a symbol asks for
abbrev pub Is : Sym → Token → Type 0
Is (Key mark) token = mark_of_token token ≡ mark
Is (Says text) token = IsTrue (is_word (mark_of_token token)) × (token.text ≡ text)
Is (Named text) token = IsTrue (is_name (mark_of_token token)) × (token.text ≡ text)
Is (Raw text) token = (mark_of_token token ≡ m.Body) × (token.text ≡ text)
Is (Heads a b c t e q) token = ⊥
Is (From line) token = ⊥
Is Never token = ⊥

-- the first of the tokens stands on the line
abbrev pub StartsOn : ℕ → List Token → Type 0
StartsOn line [] = ⊥
StartsOn line (token ∷ tokens) = token.line ≡ line

-- Modifiers of actions stand first, each once, in any order: from those that have stood (`together`, `existing`, `quietly`)
-- to those that have then; and the tokens after them.
pub data Switches : Bool → Bool → Bool → Bool → Bool → Bool → List Token → List Token → Type 0 where
  none : {a b c : Bool} {tokens : List Token} → Switches a b c a b c tokens tokens
  together : {b c t e q : Bool} {token : Token} {tokens left : List Token} → mark_of_token token ≡ m.Together → Switches true b c t e q tokens left → Switches false b c t e q (token ∷ tokens) left
  existing : {a c t e q : Bool} {token : Token} {tokens left : List Token} → mark_of_token token ≡ m.Existing → Switches a true c t e q tokens left → Switches a false c t e q (token ∷ tokens) left
  quietly : {a b t e q : Bool} {token : Token} {tokens left : List Token} → mark_of_token token ≡ m.Quietly → Switches a b true t e q tokens left → Switches a b false t e q (token ∷ tokens) left

-- The symbols are spelled by the first tokens, and after those stand the others.
abbrev pub Spells : List Token → List Sym → List Token → Type 0
Spells tokens [] after = tokens ≡ after
Spells tokens (From line ∷ syms) after = StartsOn line tokens × Spells tokens syms after
Spells tokens (Heads a b c t e q ∷ syms) after = (left : List Token) × Switches a b c t e q tokens left × Spells left syms after
Spells [] (Key mark ∷ syms) after = ⊥
Spells [] (Says text ∷ syms) after = ⊥
Spells [] (Named text ∷ syms) after = ⊥
Spells [] (Raw text ∷ syms) after = ⊥
Spells [] (Never ∷ syms) after = ⊥
Spells (token ∷ tokens) (Key mark ∷ syms) after = Is (Key mark) token × Spells tokens syms after
Spells (token ∷ tokens) (Says text ∷ syms) after = Is (Says text) token × Spells tokens syms after
Spells (token ∷ tokens) (Named text ∷ syms) after = Is (Named text) token × Spells tokens syms after
Spells (token ∷ tokens) (Raw text ∷ syms) after = Is (Raw text) token × Spells tokens syms after
Spells (token ∷ tokens) (Never ∷ syms) after = ⊥
