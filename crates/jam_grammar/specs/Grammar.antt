-- The grammar: what may stand for each part of a file, and which marks a file is made of.
use Rattle.std.specs.Prelude.{ℕ, suc, ◌+◌, ◌≤◌, List, [], ◌∷◌, ◌++◌, Bool, true, false, IsTrue}
use Rattle.jam_grammar.specs.declared.mark.TokenMark.{TokenMark}
use Rattle.jam_grammar.specs.declared.mark.TokenMark.TheVariants as m
use Rattle.jam_grammar.specs.Marks.{is_word, is_name, only_names}

-- The parts of a file.
pub data Part : Type 0 where
  -- a key, or another mark
  Key : TokenMark → Part
  -- any word, one that may name a parameter, and one that can only name the actions after these modifiers
  OneWord : Part
  OneName : Part
  LastWord : Bool → Bool → Bool → Part
  -- the end of what an `on`, a `!`, or an `else` before an `if` applies to, where no token stands
  Shut : Part
  -- statements, one statement, what stands in it after its first argument, and after `on` there
  Stmts : Part
  OneStmt : Part
  Tail : Part
  Assigned : Part
  -- what may stand after `local names`, after `for`, and after `rule name`
  LocalTail : Part
  ForTail : Part
  RuleTail : Part
  -- what may stand after a block of `if`, and after `else`
  OneElse : Part
  ElseTail : Part
  -- a block; cases in braces, and without them; a body in braces
  OneBlock : Part
  CaseBlock : Part
  Cases : Part
  BodyBlock : Part
  -- what stands between `actions` and the body after these modifiers (`together`, `existing`, `quietly`), and what may
  -- stand there behind the last of them, which is the name where nothing does
  Heading : Bool → Bool → Bool → Part
  Headed : Bool → Bool → Bool → Part
  -- parameters in parentheses, without them, and after the first list; names in a list; what may stand after a name
  ParamBlock : Part
  Params : Part
  MoreParams : Part
  Names : Part
  NameTail : Part
  -- an argument; what stands in brackets, and there after `on arg`; arguments; so many lists more, each after a colon
  OneArg : Part
  OneInner : Part
  InnerTail : Part
  Args : Part
  More : ℕ → Part
  -- a condition, of those between `||`, of those between `&&`; what may stand after each of these two, and after an
  -- argument
  OneExpr : Part
  Both : Part
  Single : Part
  OrTail : Part
  AndTail : Part
  Compared : Part

-- One line of the grammar: the parts may stand for the part.
pub data Line : Part → List Part → Type 0 where
  no_stmt : Line Stmts []
  more_stmts : Line Stmts (OneStmt ∷ Stmts ∷ [])
  -- `{ stmts }`
  in_braces : Line OneBlock (Key m.BraceOpen ∷ Stmts ∷ Key m.BraceClose ∷ [])
  -- a statement
  a_block : Line OneStmt (OneBlock ∷ [])
  a_local : Line OneStmt (Key m.Local ∷ Args ∷ LocalTail ∷ [])
  an_include : Line OneStmt (Key m.Include ∷ Args ∷ Key m.Semicolon ∷ [])
  a_return : Line OneStmt (Key m.Return ∷ Args ∷ Key m.Semicolon ∷ [])
  an_if : Line OneStmt (Key m.If ∷ OneExpr ∷ OneBlock ∷ OneElse ∷ [])
  a_for : Line OneStmt (Key m.For ∷ ForTail ∷ [])
  a_while : Line OneStmt (Key m.While ∷ OneExpr ∷ OneBlock ∷ [])
  a_switch : Line OneStmt (Key m.Switch ∷ Args ∷ CaseBlock ∷ [])
  a_module : Line OneStmt (Key m.Module ∷ Args ∷ OneBlock ∷ [])
  a_rule : Line OneStmt (Key m.Rule ∷ OneWord ∷ RuleTail ∷ [])
  an_action : Line OneStmt (Key m.Actions ∷ Heading false false false ∷ BodyBlock ∷ [])
  an_on : Line OneStmt (Key m.On ∷ OneArg ∷ OneStmt ∷ Shut ∷ [])
  by_arg : Line OneStmt (OneArg ∷ Tail ∷ [])
  -- after the first argument: `= list ;` with one of three signs, `on list` before that, or `lists ;`
  set : Line Tail (Key m.Equals ∷ Args ∷ Key m.Semicolon ∷ [])
  add : Line Tail (Key m.PlusEquals ∷ Args ∷ Key m.Semicolon ∷ [])
  fill : Line Tail (Key m.QueryEquals ∷ Args ∷ Key m.Semicolon ∷ [])
  on_target : Line Tail (Key m.On ∷ Args ∷ Assigned ∷ [])
  a_call : Line Tail (Args ∷ More 8 ∷ Key m.Semicolon ∷ [])
  set_on : Line Assigned (Key m.Equals ∷ Args ∷ Key m.Semicolon ∷ [])
  add_on : Line Assigned (Key m.PlusEquals ∷ Args ∷ Key m.Semicolon ∷ [])
  fill_on : Line Assigned (Key m.QueryEquals ∷ Args ∷ Key m.Semicolon ∷ [])
  -- `local names ;` and `local names = list ;`
  no_value : Line LocalTail (Key m.Semicolon ∷ [])
  a_value : Line LocalTail (Key m.Equals ∷ Args ∷ Key m.Semicolon ∷ [])
  -- `for name in list block`, with `local` before the name or not
  for_local : Line ForTail (Key m.Local ∷ OneWord ∷ Key m.In ∷ Args ∷ OneBlock ∷ [])
  for_name : Line ForTail (OneWord ∷ Key m.In ∷ Args ∷ OneBlock ∷ [])
  -- `else block`, `else if ..`, or nothing
  no_else : Line OneElse []
  an_else : Line OneElse (Key m.Else ∷ ElseTail ∷ [])
  else_block : Line ElseTail (OneBlock ∷ [])
  else_if : Line ElseTail (Key m.If ∷ OneExpr ∷ OneBlock ∷ OneElse ∷ Shut ∷ [])
  -- `{ case name : stmts .. }`
  case_braces : Line CaseBlock (Key m.BraceOpen ∷ Cases ∷ Key m.BraceClose ∷ [])
  no_case : Line Cases []
  more_cases : Line Cases (Key m.Case ∷ OneWord ∷ Key m.Colon ∷ Stmts ∷ Cases ∷ [])
  -- modifiers, each at most once, and a name, which may be the text of a modifier too
  the_name : {t e q : Bool} → Line (Heading t e q) (LastWord t e q ∷ [])
  together : {e q : Bool} → Line (Heading false e q) (Key m.Together ∷ Headed true e q ∷ [])
  existing : {t q : Bool} → Line (Heading t false q) (Key m.Existing ∷ Headed t true q ∷ [])
  quietly : {t e : Bool} → Line (Heading t e false) (Key m.Quietly ∷ Headed t e true ∷ [])
  no_word : {t e q : Bool} → Line (Headed t e q) []
  more_words : {t e q : Bool} → Line (Headed t e q) (Heading t e q ∷ [])
  body_braces : Line BodyBlock (Key m.BraceOpen ∷ Key m.Body ∷ Key m.BraceClose ∷ [])
  -- `( params ) block` or a block alone
  with_params : Line RuleTail (ParamBlock ∷ OneBlock ∷ [])
  without_params : Line RuleTail (OneBlock ∷ [])
  param_parens : Line ParamBlock (Key m.ParenOpen ∷ Params ∷ Key m.ParenClose ∷ [])
  -- `*` alone is the last list
  all_further : Line Params (Key m.Star ∷ [])
  a_list : Line Params (Names ∷ MoreParams ∷ [])
  no_more_params : Line MoreParams []
  more_params : Line MoreParams (Key m.Colon ∷ Params ∷ [])
  -- names, each with `?` after it or not; `*` or `+` stands after the last one alone
  no_name : Line Names []
  a_name : Line Names (OneName ∷ NameTail ∷ [])
  unmarked : Line NameTail (Names ∷ [])
  optional : Line NameTail (Key m.Query ∷ Names ∷ [])
  any_rest : Line NameTail (Key m.Star ∷ [])
  some_rest : Line NameTail (Key m.Plus ∷ [])
  -- an argument: a word, or `[ .. ]`
  a_word : Line OneArg (OneWord ∷ [])
  a_bracket : Line OneArg (Key m.SquareOpen ∷ OneInner ∷ Key m.SquareClose ∷ [])
  -- in brackets: `arg lists`, or `on arg` and then a call or `return list`
  inner_call : Line OneInner (OneArg ∷ Args ∷ More 8 ∷ [])
  inner_on : Line OneInner (Key m.On ∷ OneArg ∷ InnerTail ∷ Shut ∷ [])
  on_inner : Line InnerTail (OneInner ∷ [])
  on_return : Line InnerTail (Key m.Return ∷ Args ∷ [])
  -- lists with colons between them
  no_arg : Line Args []
  more_args : Line Args (OneArg ∷ Args ∷ [])
  no_list : {n : ℕ} → Line (More n) []
  more_lists : {n : ℕ} → Line (More (suc n)) (Key m.Colon ∷ Args ∷ More n ∷ [])
  -- conditions
  an_or : Line OneExpr (Both ∷ OrTail ∷ [])
  no_or : Line OrTail []
  more_or : Line OrTail (Key m.Or ∷ Both ∷ OrTail ∷ [])
  an_and : Line Both (Single ∷ AndTail ∷ [])
  no_and : Line AndTail []
  more_and : Line AndTail (Key m.And ∷ Single ∷ AndTail ∷ [])
  negated : Line Single (Key m.Not ∷ Single ∷ Shut ∷ [])
  in_parens : Line Single (Key m.ParenOpen ∷ OneExpr ∷ Key m.ParenClose ∷ [])
  of_arg : Line Single (OneArg ∷ Compared ∷ [])
  bare : Line Compared []
  equal : Line Compared (Key m.Equals ∷ OneArg ∷ [])
  differ : Line Compared (Key m.NotEquals ∷ OneArg ∷ [])
  within : Line Compared (Key m.In ∷ Args ∷ [])

-- how many are open, by what will close them
abbrev pub closes : Part → ℕ
closes (Key m.BraceClose) = 1
closes (Key m.SquareClose) = 1
closes (Key m.ParenClose) = 1
closes Shut = 1
closes _ = 0

abbrev pub opens : List Part → ℕ
opens [] = 0
opens (part ∷ rest) = closes part + opens rest

-- These marks stand for these parts, one after another, and at each of them no more than 64 are open, a mark that opens or
-- closes one included. A key stands for itself, the parts of words for words, and any other part for what a line gives.
pub data Derives : List Part → List TokenMark → Type 0 where
  nothing : Derives [] []
  key : {mark : TokenMark} {parts : List Part} {marks : List TokenMark} → opens (Key mark ∷ parts) ≤ 64 → Derives parts marks → Derives (Key mark ∷ parts) (mark ∷ marks)
  word : {mark : TokenMark} {parts : List Part} {marks : List TokenMark} → IsTrue (is_word mark) → opens parts ≤ 64 → Derives parts marks → Derives (OneWord ∷ parts) (mark ∷ marks)
  name : {mark : TokenMark} {parts : List Part} {marks : List TokenMark} → IsTrue (is_name mark) → opens parts ≤ 64 → Derives parts marks → Derives (OneName ∷ parts) (mark ∷ marks)
  last : {t e q : Bool} {mark : TokenMark} {parts : List Part} {marks : List TokenMark} → IsTrue (only_names t e q mark) → opens parts ≤ 64 → Derives parts marks → Derives (LastWord t e q ∷ parts) (mark ∷ marks)
  shut : {parts : List Part} {marks : List TokenMark} → opens (Shut ∷ parts) ≤ 64 → Derives parts marks → Derives (Shut ∷ parts) marks
  by_line : {part : Part} {by parts : List Part} {marks : List TokenMark} → Line part by → Derives (by ++ parts) marks → Derives (part ∷ parts) marks

-- a file
abbrev pub IsFile : List TokenMark → Type 0
IsFile marks = Derives (Stmts ∷ []) marks

-- what a file may begin with
abbrev pub Begins : List TokenMark → Type 0
Begins marks = (more : List TokenMark) × IsFile (marks ++ more)
