-- Which marks may come next, from what is still to be read.
use Rattle.std.specs.Prelude.{ℕ, zero, suc, ◌+◌, List, [], ◌∷◌, ◌++◌, Option, Some, None, Bool, true, false, nat_le, if◌then◌else◌}
use Rattle.b2_base.specs.declared.token.Token.{Token}
use Rattle.jam_grammar.specs.declared.mark.TokenMark.{TokenMark}
use Rattle.jam_grammar.specs.declared.mark.TokenMark.TheVariants as m
use Rattle.jam_grammar.specs.Marks.{mark_of_token, is_word, is_name, only_names, same_mark}
use Rattle.jam_grammar.specs.Grammar.{Part, Key, OneWord, OneName, LastWord, Shut, Stmts, OneStmt, Tail, Assigned, LocalTail, ForTail, RuleTail, OneElse, ElseTail, OneBlock, CaseBlock, Cases, BodyBlock, Heading, Headed, ParamBlock, Params, MoreParams, Names, NameTail, OneArg, OneInner, InnerTail, Args, More, OneExpr, Both, Single, OrTail, AndTail, Compared, opens}

-- What a mark does to the part that is to be read first.
pub data Move : Type 0 where
  -- it is read, and these parts take the part's place
  Take : List Part → Move
  -- the same, where so many more can be open
  Room : ℕ → List Part → Move
  -- the part is empty, and the mark is for those after it
  Skip : Move
  -- it cannot come
  Refuse : Move

-- a part and others after it
abbrev pub before : Move → List Part → Move
before (Take parts) more = Take (parts ++ more)
before (Room n parts) more = Room n (parts ++ more)
before Skip more = Skip
before Refuse more = Refuse

-- a part that may be empty
abbrev pub or_skip : Move → Move
or_skip (Take parts) = Take parts
or_skip (Room n parts) = Room n parts
or_skip Skip = Skip
or_skip Refuse = Skip

abbrev pub move_key : Bool → Move
move_key true = Take []
move_key false = Refuse

-- arguments
abbrev pub move_arg : TokenMark → Move
move_arg m.Plain = Take []
move_arg m.Query = Take []
move_arg m.Star = Take []
move_arg m.Plus = Take []
move_arg m.Together = Take []
move_arg m.Existing = Take []
move_arg m.Quietly = Take []
move_arg m.SquareOpen = Room 1 (OneInner ∷ Key m.SquareClose ∷ [])
move_arg _ = Refuse

abbrev pub move_inner : TokenMark → Move
move_inner m.On = Room 1 (OneArg ∷ InnerTail ∷ Shut ∷ [])
move_inner mark = before (move_arg mark) (Args ∷ More 8 ∷ [])

abbrev pub move_inner_tail : TokenMark → Move
move_inner_tail m.Return = Take (Args ∷ [])
move_inner_tail mark = move_inner mark

abbrev pub move_colon : ℕ → Move
move_colon zero = Skip
move_colon (suc n) = Take (Args ∷ More n ∷ [])

abbrev pub move_more : ℕ → TokenMark → Move
move_more n m.Colon = move_colon n
move_more n _ = Skip

-- blocks
abbrev pub move_block : TokenMark → Move
move_block m.BraceOpen = Room 1 (Stmts ∷ Key m.BraceClose ∷ [])
move_block _ = Refuse

abbrev pub move_case_block : TokenMark → Move
move_case_block m.BraceOpen = Room 1 (Cases ∷ Key m.BraceClose ∷ [])
move_case_block _ = Refuse

abbrev pub move_cases : TokenMark → Move
move_cases m.Case = Take (OneWord ∷ Key m.Colon ∷ Stmts ∷ Cases ∷ [])
move_cases _ = Skip

abbrev pub move_body_block : TokenMark → Move
move_body_block m.BraceOpen = Room 1 (Key m.Body ∷ Key m.BraceClose ∷ [])
move_body_block _ = Refuse

abbrev pub move_word : Bool → List Part → Move
move_word true more = Take more
move_word false more = Refuse

-- headings of actions: a modifier that has stood is the name
abbrev pub move_modifier : Bool → Part → Move
move_modifier false next = Take (next ∷ [])
move_modifier true next = Take []

abbrev pub move_heading : Bool → Bool → Bool → TokenMark → Move
move_heading t e q m.Together = move_modifier t (Headed true e q)
move_heading t e q m.Existing = move_modifier e (Headed t true q)
move_heading t e q m.Quietly = move_modifier q (Headed t e true)
move_heading t e q mark = move_word (is_word mark) []

-- statements: where what they need can never be opened, their first mark cannot come
abbrev pub move_stmt : TokenMark → Move
move_stmt m.BraceOpen = move_block m.BraceOpen
move_stmt m.Local = Take (Args ∷ LocalTail ∷ [])
move_stmt m.Include = Take (Args ∷ Key m.Semicolon ∷ [])
move_stmt m.Return = Take (Args ∷ Key m.Semicolon ∷ [])
move_stmt m.If = Room 1 (OneExpr ∷ OneBlock ∷ OneElse ∷ [])
move_stmt m.For = Room 1 (ForTail ∷ [])
move_stmt m.While = Room 1 (OneExpr ∷ OneBlock ∷ [])
move_stmt m.Switch = Room 1 (Args ∷ CaseBlock ∷ [])
move_stmt m.Module = Room 1 (Args ∷ OneBlock ∷ [])
move_stmt m.Rule = Room 1 (OneWord ∷ RuleTail ∷ [])
move_stmt m.Actions = Room 1 (Heading false false false ∷ BodyBlock ∷ [])
move_stmt m.On = Room 1 (OneArg ∷ OneStmt ∷ Shut ∷ [])
move_stmt mark = before (move_arg mark) (Tail ∷ [])

abbrev pub move_assigned : TokenMark → Move
move_assigned m.Equals = Take (Args ∷ Key m.Semicolon ∷ [])
move_assigned m.PlusEquals = Take (Args ∷ Key m.Semicolon ∷ [])
move_assigned m.QueryEquals = Take (Args ∷ Key m.Semicolon ∷ [])
move_assigned _ = Refuse

abbrev pub move_tail : TokenMark → Move
move_tail m.Equals = move_assigned m.Equals
move_tail m.PlusEquals = move_assigned m.PlusEquals
move_tail m.QueryEquals = move_assigned m.QueryEquals
move_tail m.On = Take (Args ∷ Assigned ∷ [])
move_tail m.Colon = Take (Args ∷ More 7 ∷ Key m.Semicolon ∷ [])
move_tail m.Semicolon = Take []
move_tail mark = before (move_arg mark) (Args ∷ More 8 ∷ Key m.Semicolon ∷ [])

abbrev pub move_local_tail : TokenMark → Move
move_local_tail m.Semicolon = Take []
move_local_tail m.Equals = Take (Args ∷ Key m.Semicolon ∷ [])
move_local_tail _ = Refuse

abbrev pub move_for_tail : TokenMark → Move
move_for_tail m.Local = Take (OneWord ∷ Key m.In ∷ Args ∷ OneBlock ∷ [])
move_for_tail mark = move_word (is_word mark) (Key m.In ∷ Args ∷ OneBlock ∷ [])

abbrev pub move_else : TokenMark → Move
move_else m.Else = Room 1 (ElseTail ∷ [])
move_else _ = Skip

abbrev pub move_else_tail : TokenMark → Move
move_else_tail m.If = Room 2 (OneExpr ∷ OneBlock ∷ OneElse ∷ Shut ∷ [])
move_else_tail mark = move_block mark

-- parameters
abbrev pub move_param_block : TokenMark → Move
move_param_block m.ParenOpen = Room 1 (Params ∷ Key m.ParenClose ∷ [])
move_param_block _ = Refuse

abbrev pub move_rule_tail : TokenMark → Move
move_rule_tail m.ParenOpen = Room 1 (Params ∷ Key m.ParenClose ∷ OneBlock ∷ [])
move_rule_tail mark = move_block mark

abbrev pub move_params : TokenMark → Move
move_params m.Star = Take []
move_params m.Plain = Take (NameTail ∷ MoreParams ∷ [])
move_params m.Together = Take (NameTail ∷ MoreParams ∷ [])
move_params m.Existing = Take (NameTail ∷ MoreParams ∷ [])
move_params m.Quietly = Take (NameTail ∷ MoreParams ∷ [])
move_params m.Colon = Take (Params ∷ [])
move_params _ = Skip

abbrev pub move_more_params : TokenMark → Move
move_more_params m.Colon = Take (Params ∷ [])
move_more_params _ = Skip

abbrev pub move_names : TokenMark → Move
move_names m.Plain = Take (NameTail ∷ [])
move_names m.Together = Take (NameTail ∷ [])
move_names m.Existing = Take (NameTail ∷ [])
move_names m.Quietly = Take (NameTail ∷ [])
move_names _ = Skip

abbrev pub move_name_tail : TokenMark → Move
move_name_tail m.Query = Take (Names ∷ [])
move_name_tail m.Star = Take []
move_name_tail m.Plus = Take []
move_name_tail mark = move_names mark

-- conditions
abbrev pub move_single : TokenMark → Move
move_single m.Not = Room 1 (Single ∷ Shut ∷ [])
move_single m.ParenOpen = Room 1 (OneExpr ∷ Key m.ParenClose ∷ [])
move_single mark = before (move_arg mark) (Compared ∷ [])

abbrev pub move_or_tail : TokenMark → Move
move_or_tail m.Or = Take (Both ∷ OrTail ∷ [])
move_or_tail _ = Skip

abbrev pub move_and_tail : TokenMark → Move
move_and_tail m.And = Take (Single ∷ AndTail ∷ [])
move_and_tail _ = Skip

abbrev pub move_compared : TokenMark → Move
move_compared m.Equals = Take (OneArg ∷ [])
move_compared m.NotEquals = Take (OneArg ∷ [])
move_compared m.In = Take (Args ∷ [])
move_compared _ = Skip

-- what a mark does to a part
abbrev pub move : Part → TokenMark → Move
move (Key want) mark = move_key (same_mark want mark)
move OneWord mark = move_word (is_word mark) []
move OneName mark = move_word (is_name mark) []
move (LastWord t e q) mark = move_word (only_names t e q mark) []
move Shut mark = Skip
move Stmts mark = or_skip (before (move_stmt mark) (Stmts ∷ []))
move OneStmt mark = move_stmt mark
move Tail mark = move_tail mark
move Assigned mark = move_assigned mark
move LocalTail mark = move_local_tail mark
move ForTail mark = move_for_tail mark
move RuleTail mark = move_rule_tail mark
move OneElse mark = move_else mark
move ElseTail mark = move_else_tail mark
move OneBlock mark = move_block mark
move CaseBlock mark = move_case_block mark
move Cases mark = move_cases mark
move BodyBlock mark = move_body_block mark
move (Heading t e q) mark = move_heading t e q mark
move (Headed t e q) mark = or_skip (move_heading t e q mark)
move ParamBlock mark = move_param_block mark
move Params mark = move_params mark
move MoreParams mark = move_more_params mark
move Names mark = move_names mark
move NameTail mark = move_name_tail mark
move OneArg mark = move_arg mark
move OneInner mark = move_inner mark
move InnerTail mark = move_inner_tail mark
move Args mark = or_skip (before (move_arg mark) (Args ∷ []))
move (More n) mark = move_more n mark
move OneExpr mark = before (move_single mark) (AndTail ∷ OrTail ∷ [])
move Both mark = before (move_single mark) (AndTail ∷ [])
move Single mark = move_single mark
move OrTail mark = move_or_tail mark
move AndTail mark = move_and_tail mark
move Compared mark = move_compared mark

-- the parts that may be empty
abbrev pub may_be_empty : Part → Bool
may_be_empty Shut = true
may_be_empty Stmts = true
may_be_empty OneElse = true
may_be_empty Cases = true
may_be_empty (Headed t e q) = true
may_be_empty Params = true
may_be_empty MoreParams = true
may_be_empty Names = true
may_be_empty NameTail = true
may_be_empty Args = true
may_be_empty (More n) = true
may_be_empty OrTail = true
may_be_empty AndTail = true
may_be_empty Compared = true
may_be_empty _ = false

-- what is left to be read by a move, before these
abbrev pub by_move : Move → List Part → (TokenMark → Option (List Part)) → TokenMark → Option (List Part)
by_move (Take parts) more skipped mark = Some (parts ++ more)
by_move (Room n parts) more skipped mark = if nat_le (n + opens more) 64 then Some (parts ++ more) else None
by_move Skip more skipped mark = skipped mark
by_move Refuse more skipped mark = None

-- what is still to be read after a mark, if it may come
abbrev pub feed : List Part → TokenMark → Option (List Part)
feed [] mark = None
feed (part ∷ more) mark = by_move (move part mark) more (feed more) mark

-- whether nothing has to be read any more
abbrev pub may_end : List Part → Bool
may_end [] = true
may_end (part ∷ more) = if may_be_empty part then may_end more else false

-- how reading ends: with all read, or at the first of these tokens
pub data Outcome : Type 0 where
  Whole : Outcome
  Bad : List Token → Outcome

abbrev pub ended : Bool → Outcome
ended true = Whole
ended false = Bad []

abbrev pub go_on : Option (List Part) → (List Part → Outcome) → List Token → Outcome
go_on None go tokens = Bad tokens
go_on (Some parts) go tokens = go parts

-- reading the tokens as these parts
abbrev pub run : List Token → List Part → Outcome
run [] parts = ended (may_end parts)
run (token ∷ tokens) parts = go_on (feed parts (mark_of_token token)) (run tokens) (token ∷ tokens)

-- whether a mark is read
abbrev pub is_read : Move → Bool
is_read (Take parts) = true
is_read (Room n parts) = true
is_read Skip = false
is_read Refuse = false

-- whether the first token may be read as the part's first
abbrev pub starts : Part → List Token → Bool
starts part [] = false
starts part (token ∷ tokens) = is_read (move part (mark_of_token token))
