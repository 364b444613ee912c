-- A mark and then what the machine leaves to be read after it are what was to be read before.
use Rattle.std.proofs.Common.{◌≡◌, ℕ, zero, suc, ◌+◌, ◌≤◌, List, [], ◌∷◌, ◌++◌, Bool, true, false, Some, None, IsTrue, nat_le, if◌then◌else◌, refl, sym, subst, arith, append_assoc}
use Rattle.jam_grammar.specs.declared.mark.TokenMark.{TokenMark}
use Rattle.jam_grammar.specs.declared.mark.TokenMark.TheVariants as m
use Rattle.jam_grammar.specs.Marks.{same_mark, is_word, is_name, only_names}
use Rattle.jam_grammar.specs.Grammar.{Part, Key, OneWord, OneName, LastWord, Shut, Stmts, OneStmt, Tail, Assigned, LocalTail, ForTail, RuleTail, OneElse, ElseTail, OneBlock, CaseBlock, Cases, BodyBlock, Heading, Headed, ParamBlock, Params, MoreParams, Names, NameTail, OneArg, OneInner, InnerTail, Args, More, OneExpr, Both, Single, OrTail, AndTail, Compared, closes, opens, Line, Derives}
use Rattle.jam_grammar.specs.Grammar as g
use Rattle.jam_grammar.specs.Machine.{Move, Take, Room, Skip, Refuse, move, before, or_skip, move_key, move_word, move_modifier, move_heading, move_arg, move_inner, move_inner_tail, move_colon, move_block, move_stmt, move_assigned, move_tail, move_for_tail, move_else_tail, move_rule_tail, move_name_tail, move_single, by_move, feed}
use Rattle.jam_grammar.proofs.EveryMarkIsTested.{same_mark_true}
use Rattle.jam_grammar.proofs.WhatIsReadHasRoom.{needs, HasRoom, rooms, room_opens}

-- a key that closes nothing, and a word
pub read_key : {parts : List Part} {marks : List TokenMark} (mark : TokenMark) → closes (Key mark) ≡ 0 → Derives parts marks → Derives (Key mark ∷ parts) (mark ∷ marks)
read_key {parts} mark h d = g.key (omega (arith, h, room_opens parts (rooms d))) d

pub read_word : {parts : List Part} {marks : List TokenMark} (mark : TokenMark) → IsTrue (is_word mark) → Derives parts marks → Derives (OneWord ∷ parts) (mark ∷ marks)
read_word {parts} mark h d = g.word h (room_opens parts (rooms d)) d

pub read_name : {parts : List Part} {marks : List TokenMark} (mark : TokenMark) → IsTrue (is_name mark) → Derives parts marks → Derives (OneName ∷ parts) (mark ∷ marks)
read_name {parts} mark h d = g.name h (room_opens parts (rooms d)) d

pub read_last : {parts : List Part} {marks : List TokenMark} (t e q : Bool) (mark : TokenMark) → IsTrue (only_names t e q mark) → Derives parts marks → Derives (LastWord t e q ∷ parts) (mark ∷ marks)
read_last {parts} t e q mark h d = g.last h (room_opens parts (rooms d)) d

-- what closes something needs it to be open
abbrev pub Allowed : Part → List Part → Type 0
Allowed (Key mark) more = opens (Key mark ∷ more) ≤ 64
Allowed Shut more = opens (Shut ∷ more) ≤ 64
Allowed _ more = Unit {0}

allowed : (part : Part) (more : List Part) → needs part + opens more ≤ 64 → Allowed part more
allowed (Key mark) more h = h
allowed Shut more h = h
allowed _ more h = tt

-- a part is derived again, a mark before what is left of it
abbrev pub Sound : Part → TokenMark → Move → Type 0
Sound part mark (Take by) = (more : List Part) (marks : List TokenMark) → Allowed part more → Derives (by ++ more) marks → Derives (part ∷ more) (mark ∷ marks)
Sound part mark (Room n by) = (more : List Part) (marks : List TokenMark) → Allowed part more → Derives (by ++ more) marks → Derives (part ∷ more) (mark ∷ marks)
Sound part mark Skip = (more : List Part) (marks : List TokenMark) → Allowed part more → Derives more marks → Derives (part ∷ more) marks
Sound part mark Refuse = Unit {0}

-- by a line that begins with a part that the mark is read as
sound_before : (part first : Part) (mark : TokenMark) (rest : List Part) (v : Move) → Line part (first ∷ rest) → ((more : List Part) → Allowed first more) → Sound first mark v → (v ≡ Skip → ⊥) → Sound part mark (before v rest)
sound_before part first mark rest (Take by) line free s never = λ more marks h d.
    g.by_line line (s (rest ++ more) marks (free (rest ++ more)) (subst (λ x. Derives x marks) (append_assoc by rest more) d))
sound_before part first mark rest (Room n by) line free s never = λ more marks h d.
    g.by_line line (s (rest ++ more) marks (free (rest ++ more)) (subst (λ x. Derives x marks) (append_assoc by rest more) d))
sound_before part first mark rest Skip line free s never = absurd (never refl)
sound_before part first mark rest Refuse line free s never = tt

sound_or_skip : (part : Part) (mark : TokenMark) (v : Move) → ((more : List Part) (marks : List TokenMark) → Derives more marks → Derives (part ∷ more) marks) → Sound part mark v → Sound part mark (or_skip v)
sound_or_skip part mark (Take by) skip s = s
sound_or_skip part mark (Room n by) skip s = s
sound_or_skip part mark Skip skip s = s
sound_or_skip part mark Refuse skip s = λ more marks h d. skip more marks d

-- by a line that begins with a key, or is a part
sound_key : (mark : TokenMark) (part : Part) (rest more : List Part) (marks : List TokenMark) → closes (Key mark) ≡ 0 → Line part (Key mark ∷ rest) → Derives (rest ++ more) marks → Derives (part ∷ more) (mark ∷ marks)
sound_key mark part rest more marks h line d = g.by_line line (read_key mark h d)

sound_arg : (mark : TokenMark) → Sound OneArg mark (move_arg mark)
sound_arg m.Plain = λ more marks h d. g.by_line g.a_word (read_word m.Plain refl d)
sound_arg m.Query = λ more marks h d. g.by_line g.a_word (read_word m.Query refl d)
sound_arg m.Star = λ more marks h d. g.by_line g.a_word (read_word m.Star refl d)
sound_arg m.Plus = λ more marks h d. g.by_line g.a_word (read_word m.Plus refl d)
sound_arg m.Together = λ more marks h d. g.by_line g.a_word (read_word m.Together refl d)
sound_arg m.Existing = λ more marks h d. g.by_line g.a_word (read_word m.Existing refl d)
sound_arg m.Quietly = λ more marks h d. g.by_line g.a_word (read_word m.Quietly refl d)
sound_arg m.SquareOpen = λ more marks h d. sound_key m.SquareOpen OneArg _ more marks refl g.a_bracket d
sound_arg _ = tt

never_skip : (mark : TokenMark) → move_arg mark ≡ Skip → ⊥
never_skip m.Plain h = cc
never_skip m.Query h = cc
never_skip m.Star h = cc
never_skip m.Plus h = cc
never_skip m.Together h = cc
never_skip m.Existing h = cc
never_skip m.Quietly h = cc
never_skip m.SquareOpen h = cc
never_skip _ h = cc

-- by a line that begins with an argument
sound_by_arg : (part : Part) (mark : TokenMark) (rest : List Part) → Line part (OneArg ∷ rest) → Sound part mark (before (move_arg mark) rest)
sound_by_arg part mark rest line = sound_before part OneArg mark rest (move_arg mark) line (λ more. tt) (sound_arg mark) (never_skip mark)

sound_inner : (mark : TokenMark) → Sound OneInner mark (move_inner mark)
sound_inner m.On = λ more marks h d. sound_key m.On OneInner _ more marks refl g.inner_on d
sound_inner mark = sound_by_arg OneInner mark (Args ∷ More 8 ∷ []) g.inner_call

-- one that is another part alone
sound_as : (part first : Part) (mark : TokenMark) (v : Move) → Line part (first ∷ []) → ((more : List Part) → Allowed first more) → Sound first mark v → Sound part mark v
sound_as part first mark (Take by) line free s = λ more marks h d. g.by_line line (s more marks (free more) d)
sound_as part first mark (Room n by) line free s = λ more marks h d. g.by_line line (s more marks (free more) d)
sound_as part first mark Skip line free s = λ more marks h d. g.by_line line (s more marks (free more) d)
sound_as part first mark Refuse line free s = tt

sound_inner_tail : (mark : TokenMark) → Sound InnerTail mark (move_inner_tail mark)
sound_inner_tail m.Return = λ more marks h d. sound_key m.Return InnerTail _ more marks refl g.on_return d
sound_inner_tail mark = sound_as InnerTail OneInner mark (move_inner mark) g.on_inner (λ more. tt) (sound_inner mark)

sound_block : (mark : TokenMark) → Sound OneBlock mark (move_block mark)
sound_block m.BraceOpen = λ more marks h d. sound_key m.BraceOpen OneBlock _ more marks refl g.in_braces d
sound_block _ = tt

sound_stmt : (mark : TokenMark) → Sound OneStmt mark (move_stmt mark)
sound_stmt m.BraceOpen = sound_as OneStmt OneBlock m.BraceOpen (move_block m.BraceOpen) g.a_block (λ more. tt) (sound_block m.BraceOpen)
sound_stmt m.Local = λ more marks h d. sound_key m.Local OneStmt _ more marks refl g.a_local d
sound_stmt m.Include = λ more marks h d. sound_key m.Include OneStmt _ more marks refl g.an_include d
sound_stmt m.Return = λ more marks h d. sound_key m.Return OneStmt _ more marks refl g.a_return d
sound_stmt m.If = λ more marks h d. sound_key m.If OneStmt _ more marks refl g.an_if d
sound_stmt m.For = λ more marks h d. sound_key m.For OneStmt _ more marks refl g.a_for d
sound_stmt m.While = λ more marks h d. sound_key m.While OneStmt _ more marks refl g.a_while d
sound_stmt m.Switch = λ more marks h d. sound_key m.Switch OneStmt _ more marks refl g.a_switch d
sound_stmt m.Module = λ more marks h d. sound_key m.Module OneStmt _ more marks refl g.a_module d
sound_stmt m.Rule = λ more marks h d. sound_key m.Rule OneStmt _ more marks refl g.a_rule d
sound_stmt m.Actions = λ more marks h d. sound_key m.Actions OneStmt _ more marks refl g.an_action d
sound_stmt m.On = λ more marks h d. sound_key m.On OneStmt _ more marks refl g.an_on d
sound_stmt mark = sound_by_arg OneStmt mark (Tail ∷ []) g.by_arg

stmt_never_skips : (mark : TokenMark) → move_stmt mark ≡ Skip → ⊥
stmt_never_skips m.Plain h = cc
stmt_never_skips m.Query h = cc
stmt_never_skips m.Star h = cc
stmt_never_skips m.Plus h = cc
stmt_never_skips m.Together h = cc
stmt_never_skips m.Existing h = cc
stmt_never_skips m.Quietly h = cc
stmt_never_skips m.SquareOpen h = cc
stmt_never_skips _ h = cc

sound_assigned : (mark : TokenMark) → Sound Assigned mark (move_assigned mark)
sound_assigned m.Equals = λ more marks h d. sound_key m.Equals Assigned _ more marks refl g.set_on d
sound_assigned m.PlusEquals = λ more marks h d. sound_key m.PlusEquals Assigned _ more marks refl g.add_on d
sound_assigned m.QueryEquals = λ more marks h d. sound_key m.QueryEquals Assigned _ more marks refl g.fill_on d
sound_assigned _ = tt

-- arguments and then lists begin with an argument
call_by_arg : (mark : TokenMark) → Sound Tail mark (before (move_arg mark) (Args ∷ More 8 ∷ Key m.Semicolon ∷ []))
call_by_arg mark = by (move_arg mark) (sound_arg mark) (never_skip mark)
  where
    by : (v : Move) → Sound OneArg mark v → (v ≡ Skip → ⊥) → Sound Tail mark (before v (Args ∷ More 8 ∷ Key m.Semicolon ∷ []))
    by (Take own) s never = λ more marks h d.
        g.by_line g.a_call (g.by_line g.more_args (s (Args ∷ More 8 ∷ Key m.Semicolon ∷ more) marks tt (subst (λ x. Derives x marks) (append_assoc own (Args ∷ More 8 ∷ Key m.Semicolon ∷ []) more) d)))
    by (Room n own) s never = λ more marks h d.
        g.by_line g.a_call (g.by_line g.more_args (s (Args ∷ More 8 ∷ Key m.Semicolon ∷ more) marks tt (subst (λ x. Derives x marks) (append_assoc own (Args ∷ More 8 ∷ Key m.Semicolon ∷ []) more) d)))
    by Skip s never = absurd (never refl)
    by Refuse s never = tt

sound_tail : (mark : TokenMark) → Sound Tail mark (move_tail mark)
sound_tail m.Equals = λ more marks h d. sound_key m.Equals Tail _ more marks refl g.set d
sound_tail m.PlusEquals = λ more marks h d. sound_key m.PlusEquals Tail _ more marks refl g.add d
sound_tail m.QueryEquals = λ more marks h d. sound_key m.QueryEquals Tail _ more marks refl g.fill d
sound_tail m.On = λ more marks h d. sound_key m.On Tail _ more marks refl g.on_target d
sound_tail m.Colon = λ more marks h d. g.by_line g.a_call (g.by_line g.no_arg (sound_key m.Colon (More 8) (Args ∷ More 7 ∷ []) (Key m.Semicolon ∷ more) marks refl g.more_lists d))
sound_tail m.Semicolon = λ more marks h d. g.by_line g.a_call (g.by_line g.no_arg (g.by_line g.no_list (read_key m.Semicolon refl d)))
sound_tail mark = call_by_arg mark

sound_word : (part : Part) (mark : TokenMark) (rest : List Part) (b : Bool) → is_word mark ≡ b → Line part (OneWord ∷ rest) → Sound part mark (move_word b rest)
sound_word part mark rest true e line = λ more marks h d. g.by_line line (read_word mark e d)
sound_word part mark rest false e line = tt

sound_for_tail : (mark : TokenMark) → Sound ForTail mark (move_for_tail mark)
sound_for_tail m.Local = λ more marks h d. sound_key m.Local ForTail _ more marks refl g.for_local d
sound_for_tail mark = sound_word ForTail mark (Key m.In ∷ Args ∷ OneBlock ∷ []) (is_word mark) refl g.for_name

sound_else_tail : (mark : TokenMark) → Sound ElseTail mark (move_else_tail mark)
sound_else_tail m.If = λ more marks h d. sound_key m.If ElseTail _ more marks refl g.else_if d
sound_else_tail mark = sound_as ElseTail OneBlock mark (move_block mark) g.else_block (λ more. tt) (sound_block mark)

sound_rule_tail : (mark : TokenMark) → Sound RuleTail mark (move_rule_tail mark)
sound_rule_tail m.ParenOpen = λ more marks h d. g.by_line g.with_params (sound_key m.ParenOpen ParamBlock (Params ∷ Key m.ParenClose ∷ []) (OneBlock ∷ more) marks refl g.param_parens d)
sound_rule_tail mark = sound_as RuleTail OneBlock mark (move_block mark) g.without_params (λ more. tt) (sound_block mark)

sound_names : (mark : TokenMark) → Sound Names mark (move Names mark)
sound_names m.Plain = λ more marks h d. g.by_line g.a_name (read_name m.Plain refl d)
sound_names m.Together = λ more marks h d. g.by_line g.a_name (read_name m.Together refl d)
sound_names m.Existing = λ more marks h d. g.by_line g.a_name (read_name m.Existing refl d)
sound_names m.Quietly = λ more marks h d. g.by_line g.a_name (read_name m.Quietly refl d)
sound_names _ = λ more marks h d. g.by_line g.no_name d

sound_name_tail : (mark : TokenMark) → Sound NameTail mark (move_name_tail mark)
sound_name_tail m.Query = λ more marks h d. sound_key m.Query NameTail _ more marks refl g.optional d
sound_name_tail m.Star = λ more marks h d. sound_key m.Star NameTail _ more marks refl g.any_rest d
sound_name_tail m.Plus = λ more marks h d. sound_key m.Plus NameTail _ more marks refl g.some_rest d
sound_name_tail mark = sound_as NameTail Names mark (move Names mark) g.unmarked (λ more. tt) (sound_names mark)

sound_more_params : (mark : TokenMark) → Sound MoreParams mark (move MoreParams mark)
sound_more_params m.Colon = λ more marks h d. sound_key m.Colon MoreParams _ more marks refl g.more_params d
sound_more_params _ = λ more marks h d. g.by_line g.no_more_params d

sound_params : (mark : TokenMark) → Sound Params mark (move Params mark)
sound_params m.Star = λ more marks h d. sound_key m.Star Params _ more marks refl g.all_further d
sound_params m.Plain = λ more marks h d. g.by_line g.a_list (g.by_line g.a_name (read_name m.Plain refl d))
sound_params m.Together = λ more marks h d. g.by_line g.a_list (g.by_line g.a_name (read_name m.Together refl d))
sound_params m.Existing = λ more marks h d. g.by_line g.a_list (g.by_line g.a_name (read_name m.Existing refl d))
sound_params m.Quietly = λ more marks h d. g.by_line g.a_list (g.by_line g.a_name (read_name m.Quietly refl d))
sound_params m.Colon = λ more marks h d. g.by_line g.a_list (g.by_line g.no_name (sound_key m.Colon MoreParams (Params ∷ []) more marks refl g.more_params d))
sound_params _ = λ more marks h d. g.by_line g.a_list (g.by_line g.no_name (g.by_line g.no_more_params d))

sound_single : (mark : TokenMark) → Sound Single mark (move_single mark)
sound_single m.Not = λ more marks h d. sound_key m.Not Single _ more marks refl g.negated d
sound_single m.ParenOpen = λ more marks h d. sound_key m.ParenOpen Single _ more marks refl g.in_parens d
sound_single mark = sound_by_arg Single mark (Compared ∷ []) g.of_arg

single_never_skips : (mark : TokenMark) → move_single mark ≡ Skip → ⊥
single_never_skips m.Plain h = cc
single_never_skips m.Query h = cc
single_never_skips m.Star h = cc
single_never_skips m.Plus h = cc
single_never_skips m.Together h = cc
single_never_skips m.Existing h = cc
single_never_skips m.Quietly h = cc
single_never_skips m.SquareOpen h = cc
single_never_skips _ h = cc

sound_both : (mark : TokenMark) → Sound Both mark (before (move_single mark) (AndTail ∷ []))
sound_both mark = sound_before Both Single mark (AndTail ∷ []) (move_single mark) g.an_and (λ more. tt) (sound_single mark) (single_never_skips mark)

sound_expr : (mark : TokenMark) → Sound OneExpr mark (before (move_single mark) (AndTail ∷ OrTail ∷ []))
sound_expr mark = by (move_single mark) (sound_single mark) (single_never_skips mark)
  where
    by : (v : Move) → Sound Single mark v → (v ≡ Skip → ⊥) → Sound OneExpr mark (before v (AndTail ∷ OrTail ∷ []))
    by (Take own) s never = λ more marks h d.
        g.by_line g.an_or (g.by_line g.an_and (s (AndTail ∷ OrTail ∷ more) marks tt (subst (λ x. Derives x marks) (append_assoc own (AndTail ∷ OrTail ∷ []) more) d)))
    by (Room n own) s never = λ more marks h d.
        g.by_line g.an_or (g.by_line g.an_and (s (AndTail ∷ OrTail ∷ more) marks tt (subst (λ x. Derives x marks) (append_assoc own (AndTail ∷ OrTail ∷ []) more) d)))
    by Skip s never = absurd (never refl)
    by Refuse s never = tt

sound_or_tail : (mark : TokenMark) → Sound OrTail mark (move OrTail mark)
sound_or_tail m.Or = λ more marks h d. sound_key m.Or OrTail _ more marks refl g.more_or d
sound_or_tail _ = λ more marks h d. g.by_line g.no_or d

sound_and_tail : (mark : TokenMark) → Sound AndTail mark (move AndTail mark)
sound_and_tail m.And = λ more marks h d. sound_key m.And AndTail _ more marks refl g.more_and d
sound_and_tail _ = λ more marks h d. g.by_line g.no_and d

sound_compared : (mark : TokenMark) → Sound Compared mark (move Compared mark)
sound_compared m.Equals = λ more marks h d. sound_key m.Equals Compared _ more marks refl g.equal d
sound_compared m.NotEquals = λ more marks h d. sound_key m.NotEquals Compared _ more marks refl g.differ d
sound_compared m.In = λ more marks h d. sound_key m.In Compared _ more marks refl g.within d
sound_compared _ = λ more marks h d. g.by_line g.bare d

sound_else : (mark : TokenMark) → Sound OneElse mark (move OneElse mark)
sound_else m.Else = λ more marks h d. sound_key m.Else OneElse _ more marks refl g.an_else d
sound_else _ = λ more marks h d. g.by_line g.no_else d

sound_cases : (mark : TokenMark) → Sound Cases mark (move Cases mark)
sound_cases m.Case = λ more marks h d. sound_key m.Case Cases _ more marks refl g.more_cases d
sound_cases _ = λ more marks h d. g.by_line g.no_case d

sound_case_block : (mark : TokenMark) → Sound CaseBlock mark (move CaseBlock mark)
sound_case_block m.BraceOpen = λ more marks h d. sound_key m.BraceOpen CaseBlock _ more marks refl g.case_braces d
sound_case_block _ = tt

sound_body_block : (mark : TokenMark) → Sound BodyBlock mark (move BodyBlock mark)
sound_body_block m.BraceOpen = λ more marks h d. sound_key m.BraceOpen BodyBlock _ more marks refl g.body_braces d
sound_body_block _ = tt

-- headings of actions
sound_heading : (t e q : Bool) (mark : TokenMark) → Sound (Heading t e q) mark (move_heading t e q mark)
sound_heading t e q m.Together = by t
  where
    by : (b : Bool) → Sound (Heading b e q) m.Together (move_modifier b (Headed true e q))
    by false = λ more marks h d. sound_key m.Together (Heading false e q) _ more marks refl g.together d
    by true = λ more marks h d. g.by_line g.the_name (read_last true e q m.Together refl d)
sound_heading t e q m.Existing = by e
  where
    by : (b : Bool) → Sound (Heading t b q) m.Existing (move_modifier b (Headed t true q))
    by false = λ more marks h d. sound_key m.Existing (Heading t false q) _ more marks refl g.existing d
    by true = λ more marks h d. g.by_line g.the_name (read_last t true q m.Existing refl d)
sound_heading t e q m.Quietly = by q
  where
    by : (b : Bool) → Sound (Heading t e b) m.Quietly (move_modifier b (Headed t e true))
    by false = λ more marks h d. sound_key m.Quietly (Heading t e false) _ more marks refl g.quietly d
    by true = λ more marks h d. g.by_line g.the_name (read_last t e true m.Quietly refl d)
sound_heading t e q m.Plain = λ more marks h d. g.by_line g.the_name (read_last t e q m.Plain refl d)
sound_heading t e q m.Query = λ more marks h d. g.by_line g.the_name (read_last t e q m.Query refl d)
sound_heading t e q m.Star = λ more marks h d. g.by_line g.the_name (read_last t e q m.Star refl d)
sound_heading t e q m.Plus = λ more marks h d. g.by_line g.the_name (read_last t e q m.Plus refl d)
sound_heading t e q _ = tt

sound_headed : (t e q : Bool) (mark : TokenMark) → Sound (Headed t e q) mark (or_skip (move_heading t e q mark))
sound_headed t e q mark =
    sound_or_skip (Headed t e q) mark (move_heading t e q mark) (λ more marks d. g.by_line g.no_word d) (sound_as (Headed t e q) (Heading t e q) mark (move_heading t e q mark) g.more_words (λ more. tt) (sound_heading t e q mark))

sound_param_block : (mark : TokenMark) → Sound ParamBlock mark (move ParamBlock mark)
sound_param_block m.ParenOpen = λ more marks h d. sound_key m.ParenOpen ParamBlock _ more marks refl g.param_parens d
sound_param_block _ = tt

sound_local_tail : (mark : TokenMark) → Sound LocalTail mark (move LocalTail mark)
sound_local_tail m.Semicolon = λ more marks h d. sound_key m.Semicolon LocalTail _ more marks refl g.no_value d
sound_local_tail m.Equals = λ more marks h d. sound_key m.Equals LocalTail _ more marks refl g.a_value d
sound_local_tail _ = tt

sound_more : (n : ℕ) (mark : TokenMark) → Sound (More n) mark (move (More n) mark)
sound_more n m.Colon = by n
  where
    by : (n : ℕ) → Sound (More n) m.Colon (move_colon n)
    by zero = λ more marks h d. g.by_line g.no_list d
    by (suc n) = λ more marks h d. sound_key m.Colon (More (suc n)) (Args ∷ More n ∷ []) more marks refl g.more_lists d
sound_more n _ = λ more marks h d. g.by_line g.no_list d

sound_same : (want mark : TokenMark) (b : Bool) → same_mark want mark ≡ b → Sound (Key want) mark (move_key b)
sound_same want mark true e = λ more marks h d. subst (λ x. Derives (Key want ∷ more) (x ∷ marks)) (same_mark_true want mark e) (g.key h d)
sound_same want mark false e = tt

sound_a_word : (mark : TokenMark) (b : Bool) → is_word mark ≡ b → Sound OneWord mark (move_word b [])
sound_a_word mark true e = λ more marks h d. read_word mark e d
sound_a_word mark false e = tt

sound_a_name : (mark : TokenMark) (b : Bool) → is_name mark ≡ b → Sound OneName mark (move_word b [])
sound_a_name mark true e = λ more marks h d. read_name mark e d
sound_a_name mark false e = tt

sound_last : (t e q : Bool) (mark : TokenMark) (b : Bool) → only_names t e q mark ≡ b → Sound (LastWord t e q) mark (move_word b [])
sound_last t e q mark true is = λ more marks h d. read_last t e q mark is d
sound_last t e q mark false is = tt

pub sound : (part : Part) (mark : TokenMark) → Sound part mark (move part mark)
sound (Key want) mark = sound_same want mark (same_mark want mark) refl
sound OneWord mark = sound_a_word mark (is_word mark) refl
sound OneName mark = sound_a_name mark (is_name mark) refl
sound (LastWord t e q) mark = sound_last t e q mark (only_names t e q mark) refl
sound Shut mark = λ more marks h d. g.shut h d
sound Stmts mark = sound_or_skip Stmts mark (before (move_stmt mark) (Stmts ∷ [])) (λ more marks d. g.by_line g.no_stmt d) (sound_before Stmts OneStmt mark (Stmts ∷ []) (move_stmt mark) g.more_stmts (λ more. tt) (sound_stmt mark) (stmt_never_skips mark))
sound OneStmt mark = sound_stmt mark
sound Tail mark = sound_tail mark
sound Assigned mark = sound_assigned mark
sound LocalTail mark = sound_local_tail mark
sound ForTail mark = sound_for_tail mark
sound RuleTail mark = sound_rule_tail mark
sound OneElse mark = sound_else mark
sound ElseTail mark = sound_else_tail mark
sound OneBlock mark = sound_block mark
sound CaseBlock mark = sound_case_block mark
sound Cases mark = sound_cases mark
sound BodyBlock mark = sound_body_block mark
sound (Heading t e q) mark = sound_heading t e q mark
sound (Headed t e q) mark = sound_headed t e q mark
sound ParamBlock mark = sound_param_block mark
sound Params mark = sound_params mark
sound MoreParams mark = sound_more_params mark
sound Names mark = sound_names mark
sound NameTail mark = sound_name_tail mark
sound OneArg mark = sound_arg mark
sound OneInner mark = sound_inner mark
sound InnerTail mark = sound_inner_tail mark
sound Args mark = sound_or_skip Args mark (before (move_arg mark) (Args ∷ [])) (λ more marks d. g.by_line g.no_arg d) (sound_by_arg Args mark (Args ∷ []) g.more_args)
sound (More n) mark = sound_more n mark
sound OneExpr mark = sound_expr mark
sound Both mark = sound_both mark
sound Single mark = sound_single mark
sound OrTail mark = sound_or_tail mark
sound AndTail mark = sound_and_tail mark
sound Compared mark = sound_compared mark

-- one mark of what is derived
pub step : (parts : List Part) (mark : TokenMark) (next : List Part) (marks : List TokenMark) → feed parts mark ≡ Some next → HasRoom parts → Derives next marks → Derives parts (mark ∷ marks)
step [] mark next marks h r d = cc
step (part ∷ more) mark next marks h r d = by (move part mark) (sound part mark) h (λ again. step more mark next marks again r.1 d)
  where
    is_next : (own : List Part) → Some (own ++ more) ≡ Some next → Derives (own ++ more) marks
    is_next own e = let is : own ++ more ≡ next = cc in subst (λ x. Derives x marks) (sym is) d

    by : (v : Move) → Sound part mark v → by_move v more (feed more) mark ≡ Some next → (feed more mark ≡ Some next → Derives more (mark ∷ marks)) → Derives (part ∷ more) (mark ∷ marks)
    by (Take own) s h again = s more marks (allowed part more r.0) (is_next own h)
    by (Room n own) s h again = in_room (nat_le (n + opens more) 64) h
      where
        in_room : (b : Bool) → (if b then Some (own ++ more) else None) ≡ Some next → Derives (part ∷ more) (mark ∷ marks)
        in_room true e = s more marks (allowed part more r.0) (is_next own e)
        in_room false e = cc
    by Skip s h again = s more (mark ∷ marks) (allowed part more r.0) (again h)
    by Refuse s h again = cc

-- whatever is still to be read, some marks are a reading of it
word_then : {more : List Part} {marks : List TokenMark} → Derives more marks → Derives (OneArg ∷ more) (m.Plain ∷ marks)
word_then d = g.by_line g.a_word (read_word m.Plain refl d)

block_then : {more : List Part} {marks : List TokenMark} → 1 + opens more ≤ 64 → Derives more marks → Derives (OneBlock ∷ more) (m.BraceOpen ∷ m.BraceClose ∷ marks)
block_then r d = g.by_line g.in_braces (read_key m.BraceOpen refl (g.by_line g.no_stmt (g.key r d)))

tail_then : {more : List Part} {marks : List TokenMark} → Derives more marks → Derives (Tail ∷ more) (m.Semicolon ∷ marks)
tail_then d = g.by_line g.a_call (g.by_line g.no_arg (g.by_line g.no_list (read_key m.Semicolon refl d)))

inner_then : {more : List Part} {marks : List TokenMark} → Derives more marks → Derives (OneInner ∷ more) (m.Plain ∷ marks)
inner_then d = g.by_line g.inner_call (word_then (g.by_line g.no_arg (g.by_line g.no_list d)))

single_then : {more : List Part} {marks : List TokenMark} → Derives more marks → Derives (Single ∷ more) (m.Plain ∷ marks)
single_then d = g.by_line g.of_arg (word_then (g.by_line g.bare d))

both_then : {more : List Part} {marks : List TokenMark} → Derives more marks → Derives (Both ∷ more) (m.Plain ∷ marks)
both_then d = g.by_line g.an_and (single_then (g.by_line g.no_and d))

pub finish : (parts : List Part) → HasRoom parts → (marks : List TokenMark) × Derives parts marks
finish [] r = ([], g.nothing)
finish (Key mark ∷ k) r = let f = finish k r.1 in (mark ∷ f.0, g.key r.0 f.1)
finish (OneWord ∷ k) r = let f = finish k r.1 in (m.Plain ∷ f.0, read_word m.Plain refl f.1)
finish (OneName ∷ k) r = let f = finish k r.1 in (m.Plain ∷ f.0, read_name m.Plain refl f.1)
finish (LastWord t e q ∷ k) r = let f = finish k r.1 in (m.Plain ∷ f.0, read_last t e q m.Plain refl f.1)
finish (Shut ∷ k) r = let f = finish k r.1 in (f.0, g.shut r.0 f.1)
finish (Stmts ∷ k) r = let f = finish k r.1 in (f.0, g.by_line g.no_stmt f.1)
finish (OneStmt ∷ k) r = let f = finish k r.1 in (m.Plain ∷ m.Semicolon ∷ f.0, g.by_line g.by_arg (word_then (tail_then f.1)))
finish (Tail ∷ k) r = let f = finish k r.1 in (m.Semicolon ∷ f.0, tail_then f.1)
finish (Assigned ∷ k) r = let f = finish k r.1 in (m.Equals ∷ m.Semicolon ∷ f.0, g.by_line g.set_on (read_key m.Equals refl (g.by_line g.no_arg (read_key m.Semicolon refl f.1))))
finish (LocalTail ∷ k) r = let f = finish k r.1 in (m.Semicolon ∷ f.0, g.by_line g.no_value (read_key m.Semicolon refl f.1))
finish (ForTail ∷ k) r = let f = finish k r.1 in (m.Plain ∷ m.In ∷ m.BraceOpen ∷ m.BraceClose ∷ f.0, g.by_line g.for_name (read_word m.Plain refl (read_key m.In refl (g.by_line g.no_arg (block_then r.0 f.1)))))
finish (RuleTail ∷ k) r = let f = finish k r.1 in (m.BraceOpen ∷ m.BraceClose ∷ f.0, g.by_line g.without_params (block_then r.0 f.1))
finish (OneElse ∷ k) r = let f = finish k r.1 in (f.0, g.by_line g.no_else f.1)
finish (ElseTail ∷ k) r = let f = finish k r.1 in (m.BraceOpen ∷ m.BraceClose ∷ f.0, g.by_line g.else_block (block_then r.0 f.1))
finish (OneBlock ∷ k) r = let f = finish k r.1 in (m.BraceOpen ∷ m.BraceClose ∷ f.0, block_then r.0 f.1)
finish (CaseBlock ∷ k) r = let f = finish k r.1 in (m.BraceOpen ∷ m.BraceClose ∷ f.0, g.by_line g.case_braces (read_key m.BraceOpen refl (g.by_line g.no_case (g.key r.0 f.1))))
finish (Cases ∷ k) r = let f = finish k r.1 in (f.0, g.by_line g.no_case f.1)
finish (BodyBlock ∷ k) r = let f = finish k r.1 in (m.BraceOpen ∷ m.Body ∷ m.BraceClose ∷ f.0, g.by_line g.body_braces (read_key m.BraceOpen refl (read_key m.Body refl (g.key r.0 f.1))))
finish (Heading t e q ∷ k) r = let f = finish k r.1 in (m.Plain ∷ f.0, g.by_line g.the_name (read_last t e q m.Plain refl f.1))
finish (Headed t e q ∷ k) r = let f = finish k r.1 in (f.0, g.by_line g.no_word f.1)
finish (ParamBlock ∷ k) r = let f = finish k r.1 in (m.ParenOpen ∷ m.ParenClose ∷ f.0, g.by_line g.param_parens (read_key m.ParenOpen refl (g.by_line g.a_list (g.by_line g.no_name (g.by_line g.no_more_params (g.key r.0 f.1))))))
finish (Params ∷ k) r = let f = finish k r.1 in (f.0, g.by_line g.a_list (g.by_line g.no_name (g.by_line g.no_more_params f.1)))
finish (MoreParams ∷ k) r = let f = finish k r.1 in (f.0, g.by_line g.no_more_params f.1)
finish (Names ∷ k) r = let f = finish k r.1 in (f.0, g.by_line g.no_name f.1)
finish (NameTail ∷ k) r = let f = finish k r.1 in (f.0, g.by_line g.unmarked (g.by_line g.no_name f.1))
finish (OneArg ∷ k) r = let f = finish k r.1 in (m.Plain ∷ f.0, word_then f.1)
finish (OneInner ∷ k) r = let f = finish k r.1 in (m.Plain ∷ f.0, inner_then f.1)
finish (InnerTail ∷ k) r = let f = finish k r.1 in (m.Plain ∷ f.0, g.by_line g.on_inner (inner_then f.1))
finish (Args ∷ k) r = let f = finish k r.1 in (f.0, g.by_line g.no_arg f.1)
finish (More n ∷ k) r = let f = finish k r.1 in (f.0, g.by_line g.no_list f.1)
finish (OneExpr ∷ k) r = let f = finish k r.1 in (m.Plain ∷ f.0, g.by_line g.an_or (both_then (g.by_line g.no_or f.1)))
finish (Both ∷ k) r = let f = finish k r.1 in (m.Plain ∷ f.0, both_then f.1)
finish (Single ∷ k) r = let f = finish k r.1 in (m.Plain ∷ f.0, single_then f.1)
finish (OrTail ∷ k) r = let f = finish k r.1 in (f.0, g.by_line g.no_or f.1)
finish (AndTail ∷ k) r = let f = finish k r.1 in (f.0, g.by_line g.no_and f.1)
finish (Compared ∷ k) r = let f = finish k r.1 in (f.0, g.by_line g.bare f.1)
