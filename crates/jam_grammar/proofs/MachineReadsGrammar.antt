-- What the grammar derives the machine reads.
use Rattle.std.proofs.Common.{◌≡◌, ℕ, zero, suc, ◌+◌, ◌≤◌, List, [], ◌∷◌, ◌++◌, Bool, true, false, Option, Some, None, nat_le, if◌then◌else◌, refl, sym, ap, ◌∙◌, subst, arith}
use Rattle.jam_grammar.specs.declared.mark.TokenMark.{TokenMark}
use Rattle.jam_grammar.specs.declared.mark.TokenMark.TheVariants as m
use Rattle.jam_grammar.specs.Marks.{same_mark, is_word}
use Rattle.jam_grammar.specs.Grammar.{Part, Key, OneWord, OneName, LastWord, Shut, Stmts, OneStmt, Tail, Assigned, LocalTail, ForTail, RuleTail, OneElse, ElseTail, OneBlock, CaseBlock, Cases, BodyBlock, Heading, Headed, ParamBlock, Params, MoreParams, Names, NameTail, OneArg, OneInner, InnerTail, Args, More, OneExpr, Both, Single, OrTail, AndTail, Compared, opens, Line, Derives}
use Rattle.jam_grammar.specs.Grammar as g
use Rattle.jam_grammar.specs.Machine.{Move, Take, Room, Skip, Refuse, move, move_key, move_word, is_read, by_move, feed, may_end, may_be_empty}
use Rattle.jam_grammar.proofs.MovesCompose.{followed, lead, feed_lead}
use Rattle.jam_grammar.proofs.EveryMarkIsTested.{every_mark, at_each, both, first_true, second_true, same_mark_refl, same_mark_true}
use Rattle.jam_grammar.proofs.WhatIsReadHasRoom.{need, HasRoom, rooms, need_append, keeps}

-- whether marks are read, whole
abbrev pub and_then : Option (List Part) → (List Part → Bool) → Bool
and_then None go = false
and_then (Some parts) go = go parts

abbrev pub accepts : List TokenMark → List Part → Bool
accepts [] parts = may_end parts
accepts (mark ∷ marks) parts = and_then (feed parts mark) (accepts marks)

-- the marks that may begin what comes after a part only where the part cannot go on with them
abbrev begins_arg : TokenMark → Bool
begins_arg mark = is_read (move OneArg mark)

abbrev either : Bool → Bool → Bool
either true b = true
either false b = b

abbrev is_else : TokenMark → Bool
is_else mark = same_mark m.Else mark

abbrev is_colon : TokenMark → Bool
is_colon mark = same_mark m.Colon mark

abbrev compares : TokenMark → Bool
compares mark = either (is_read (move Compared mark)) (begins_arg mark)

abbrev joins : TokenMark → Bool
joins mark = either (same_mark m.And mark) (compares mark)

abbrev chooses : TokenMark → Bool
chooses mark = either (same_mark m.Or mark) (joins mark)

abbrev follows : TokenMark → Bool
follows mark = either (is_read (move OneStmt mark)) (is_else mark)

abbrev marks_name : TokenMark → Bool
marks_name mark = is_read (move NameTail mark)

abbrev pub goes_on : Part → TokenMark → Bool
goes_on Stmts mark = follows mark
goes_on OneStmt mark = is_else mark
goes_on OneElse mark = is_else mark
goes_on ElseTail mark = is_else mark
goes_on Cases mark = either (same_mark m.Case mark) (follows mark)
goes_on (Heading t e q) mark = is_word mark
goes_on (Headed t e q) mark = is_word mark
goes_on Params mark = either (is_colon mark) (marks_name mark)
goes_on MoreParams mark = either (is_colon mark) (marks_name mark)
goes_on Names mark = marks_name mark
goes_on NameTail mark = marks_name mark
goes_on OneInner mark = either (is_colon mark) (begins_arg mark)
goes_on InnerTail mark = either (is_colon mark) (begins_arg mark)
goes_on Args mark = begins_arg mark
goes_on (More n) mark = either (is_colon mark) (begins_arg mark)
goes_on OneExpr mark = chooses mark
goes_on Both mark = joins mark
goes_on Single mark = compares mark
goes_on OrTail mark = chooses mark
goes_on AndTail mark = joins mark
goes_on Compared mark = compares mark
goes_on _ mark = false

-- what comes after a part does not begin with them
abbrev pub Clash : Part → List Part → Type 0
Clash part more = (mark : TokenMark) → goes_on part mark ≡ true → feed more mark ≡ None

abbrev pub IsClear : List Part → Type 0
IsClear [] = Unit {0}
IsClear (part ∷ more) = Clash part more × IsClear more

-- seen from the parts alone
abbrev refuses_by : Move → Bool → Bool
refuses_by (Take own) next = false
refuses_by (Room n own) next = false
refuses_by Skip next = next
refuses_by Refuse next = true

abbrev refuses : Part → List Part → TokenMark → Bool
refuses part [] mark = goes_on part mark
refuses part (next ∷ rest) mark = refuses_by (move next mark) (refuses part rest mark)

abbrev implies : Bool → Bool → Bool
implies true b = b
implies false b = true

abbrev clear_before : Part → Part → List Part → Bool
clear_before part next rest = every_mark (λ mark. implies (goes_on next mark) (refuses part rest mark))

abbrev clear_parts : Part → List Part → Bool
clear_parts part [] = true
clear_parts part (next ∷ rest) = both (clear_before part next rest) (clear_parts part rest)

refused : (part : Part) (rest more : List Part) (mark : TokenMark) → Clash part more → refuses part rest mark ≡ true → feed (rest ++ more) mark ≡ None
refused part [] more mark clash h = clash mark h
refused part (next ∷ rest) more mark clash h = by (move next mark) h (λ again. refused part rest more mark clash again)
  where
    by : (v : Move) → refuses_by v (refuses part rest mark) ≡ true → (refuses part rest mark ≡ true → feed (rest ++ more) mark ≡ None) → by_move v (rest ++ more) (feed (rest ++ more)) mark ≡ None
    by (Take own) h again = cc
    by (Room n own) h again = cc
    by Skip h again = again h
    by Refuse h again = refl

implied : (a b : Bool) → implies a b ≡ true → a ≡ true → b ≡ true
implied true b h e = h
implied false b h e = cc

pub clear_append : (part : Part) (by more : List Part) → clear_parts part by ≡ true → Clash part more → IsClear more → IsClear (by ++ more)
clear_append part [] more h clash clear = clear
clear_append part (next ∷ rest) more h clash clear = (
  λ mark e. refused part rest more mark clash (implied (goes_on next mark) (refuses part rest mark) (at_each (λ x. implies (goes_on next x) (refuses part rest x)) (first_true (clear_before part next rest) (clear_parts part rest) h) mark) e),
  clear_append part rest more (second_true (clear_before part next rest) (clear_parts part rest) h) clash clear,
)

pub line_clear : {part : Part} {by : List Part} → Line part by → clear_parts part by ≡ true
line_clear g.no_stmt = refl
line_clear g.more_stmts = refl
line_clear g.in_braces = refl
line_clear g.a_block = refl
line_clear g.a_local = refl
line_clear g.an_include = refl
line_clear g.a_return = refl
line_clear g.an_if = refl
line_clear g.a_for = refl
line_clear g.a_while = refl
line_clear g.a_switch = refl
line_clear g.a_module = refl
line_clear g.a_rule = refl
line_clear g.an_action = refl
line_clear g.an_on = refl
line_clear g.by_arg = refl
line_clear g.set = refl
line_clear g.add = refl
line_clear g.fill = refl
line_clear g.on_target = refl
line_clear g.a_call = refl
line_clear g.set_on = refl
line_clear g.add_on = refl
line_clear g.fill_on = refl
line_clear g.no_value = refl
line_clear g.a_value = refl
line_clear g.for_local = refl
line_clear g.for_name = refl
line_clear g.no_else = refl
line_clear g.an_else = refl
line_clear g.else_block = refl
line_clear g.else_if = refl
line_clear g.case_braces = refl
line_clear g.no_case = refl
line_clear g.more_cases = refl
line_clear g.the_name = refl
line_clear g.together = refl
line_clear g.existing = refl
line_clear g.quietly = refl
line_clear g.no_word = refl
line_clear g.more_words = refl
line_clear g.body_braces = refl
line_clear g.with_params = refl
line_clear g.without_params = refl
line_clear g.param_parens = refl
line_clear g.all_further = refl
line_clear g.a_list = refl
line_clear g.no_more_params = refl
line_clear g.more_params = refl
line_clear g.no_name = refl
line_clear g.a_name = refl
line_clear g.unmarked = refl
line_clear g.optional = refl
line_clear g.any_rest = refl
line_clear g.some_rest = refl
line_clear g.a_word = refl
line_clear g.a_bracket = refl
line_clear g.inner_call = refl
line_clear g.inner_on = refl
line_clear g.on_inner = refl
line_clear g.on_return = refl
line_clear g.no_arg = refl
line_clear g.more_args = refl
line_clear g.no_list = refl
line_clear g.more_lists = refl
line_clear g.an_or = refl
line_clear g.no_or = refl
line_clear g.more_or = refl
line_clear g.an_and = refl
line_clear g.no_and = refl
line_clear g.more_and = refl
line_clear g.negated = refl
line_clear g.in_parens = refl
line_clear g.of_arg = refl
line_clear g.bare = refl
line_clear g.equal = refl
line_clear g.differ = refl
line_clear g.within = refl

-- whether parts may all be empty
abbrev all_empty : List Part → Bool
all_empty [] = true
all_empty (part ∷ parts) = both (may_be_empty part) (all_empty parts)

line_empty : {part : Part} {by : List Part} → Line part by → implies (all_empty by) (may_be_empty part) ≡ true
line_empty g.no_stmt = refl
line_empty g.more_stmts = refl
line_empty g.in_braces = refl
line_empty g.a_block = refl
line_empty g.a_local = refl
line_empty g.an_include = refl
line_empty g.a_return = refl
line_empty g.an_if = refl
line_empty g.a_for = refl
line_empty g.a_while = refl
line_empty g.a_switch = refl
line_empty g.a_module = refl
line_empty g.a_rule = refl
line_empty g.an_action = refl
line_empty g.an_on = refl
line_empty g.by_arg = refl
line_empty g.set = refl
line_empty g.add = refl
line_empty g.fill = refl
line_empty g.on_target = refl
line_empty g.a_call = refl
line_empty g.set_on = refl
line_empty g.add_on = refl
line_empty g.fill_on = refl
line_empty g.no_value = refl
line_empty g.a_value = refl
line_empty g.for_local = refl
line_empty g.for_name = refl
line_empty g.no_else = refl
line_empty g.an_else = refl
line_empty g.else_block = refl
line_empty g.else_if = refl
line_empty g.case_braces = refl
line_empty g.no_case = refl
line_empty g.more_cases = refl
line_empty g.the_name = refl
line_empty g.together = refl
line_empty g.existing = refl
line_empty g.quietly = refl
line_empty g.no_word = refl
line_empty g.more_words = refl
line_empty g.body_braces = refl
line_empty g.with_params = refl
line_empty g.without_params = refl
line_empty g.param_parens = refl
line_empty g.all_further = refl
line_empty g.a_list = refl
line_empty g.no_more_params = refl
line_empty g.more_params = refl
line_empty g.no_name = refl
line_empty g.a_name = refl
line_empty g.unmarked = refl
line_empty g.optional = refl
line_empty g.any_rest = refl
line_empty g.some_rest = refl
line_empty g.a_word = refl
line_empty g.a_bracket = refl
line_empty g.inner_call = refl
line_empty g.inner_on = refl
line_empty g.on_inner = refl
line_empty g.on_return = refl
line_empty g.no_arg = refl
line_empty g.more_args = refl
line_empty g.no_list = refl
line_empty g.more_lists = refl
line_empty g.an_or = refl
line_empty g.no_or = refl
line_empty g.more_or = refl
line_empty g.an_and = refl
line_empty g.no_and = refl
line_empty g.more_and = refl
line_empty g.negated = refl
line_empty g.in_parens = refl
line_empty g.of_arg = refl
line_empty g.bare = refl
line_empty g.equal = refl
line_empty g.differ = refl
line_empty g.within = refl

-- the move of a line's parts is that of its part, or they refuse the mark
abbrev Agrees : Part → TokenMark → Move → Move → Type 0
Agrees part mark Refuse own = Unit {0}
Agrees part mark Skip Skip = Unit {0}
Agrees part mark Skip (Take own) = goes_on part mark ≡ true
Agrees part mark Skip (Room n own) = goes_on part mark ≡ true
Agrees part mark Skip Refuse = goes_on part mark ≡ true
Agrees part mark (Take by) (Take own) = by ≡ own
Agrees part mark (Take by) (Room n own) = (by ≡ own) × (nat_le n (need by) ≡ true)
Agrees part mark (Take by) Skip = ⊥
Agrees part mark (Take by) Refuse = ⊥
Agrees part mark (Room n by) (Room k own) = (n ≡ k) × (by ≡ own)
Agrees part mark (Room n by) (Take own) = ⊥
Agrees part mark (Room n by) Skip = ⊥
Agrees part mark (Room n by) Refuse = ⊥

-- a line that begins with a key
key_agrees : (part : Part) (want : TokenMark) (rest : List Part) → Agrees part want (Take rest) (move part want) → (mark : TokenMark) → Agrees part mark (lead (Key want ∷ rest) mark) (move part mark)
key_agrees part want rest h mark = by (same_mark want mark) refl
  where
    by : (b : Bool) → same_mark want mark ≡ b → Agrees part mark (followed (move_key b) rest (lead rest mark)) (move part mark)
    by true e = subst (λ x. Agrees part x (Take rest) (move part x)) (same_mark_true want mark e) h
    by false e = tt

-- a line of nothing
abbrev skips_by : Move → Bool → Bool
skips_by Skip next = true
skips_by _ next = next

empty_agrees : (part : Part) → every_mark (λ mark. skips_by (move part mark) (goes_on part mark)) ≡ true → (mark : TokenMark) → Agrees part mark (lead [] mark) (move part mark)
empty_agrees part h mark = by (move part mark) (at_each (λ x. skips_by (move part x) (goes_on part x)) h mark)
  where
    by : (v : Move) → skips_by v (goes_on part mark) ≡ true → Agrees part mark Skip v
    by (Take own) h = h
    by (Room n own) h = h
    by Skip h = tt
    by Refuse h = h

no_list_agrees : (n : ℕ) (mark : TokenMark) → Agrees (More n) mark (lead [] mark) (move (More n) mark)
no_list_agrees zero mark = empty_agrees (More zero) refl mark
no_list_agrees (suc n) mark = empty_agrees (More (suc n)) refl mark

more_stmts_agrees : (mark : TokenMark) → Agrees Stmts mark (lead (OneStmt ∷ Stmts ∷ []) mark) (move Stmts mark)
more_stmts_agrees m.Plain = refl
more_stmts_agrees m.Query = refl
more_stmts_agrees m.Star = refl
more_stmts_agrees m.Plus = refl
more_stmts_agrees m.Together = refl
more_stmts_agrees m.Existing = refl
more_stmts_agrees m.Quietly = refl
more_stmts_agrees m.SquareOpen = (refl, refl)
more_stmts_agrees m.BraceOpen = (refl, refl)
more_stmts_agrees m.Local = refl
more_stmts_agrees m.Include = refl
more_stmts_agrees m.Return = refl
more_stmts_agrees m.If = (refl, refl)
more_stmts_agrees m.For = (refl, refl)
more_stmts_agrees m.While = (refl, refl)
more_stmts_agrees m.Switch = (refl, refl)
more_stmts_agrees m.Module = (refl, refl)
more_stmts_agrees m.Rule = (refl, refl)
more_stmts_agrees m.Actions = (refl, refl)
more_stmts_agrees m.On = (refl, refl)
more_stmts_agrees _ = tt

a_block_agrees : (mark : TokenMark) → Agrees OneStmt mark (lead (OneBlock ∷ []) mark) (move OneStmt mark)
a_block_agrees m.BraceOpen = (refl, refl)
a_block_agrees _ = tt

by_arg_agrees : (mark : TokenMark) → Agrees OneStmt mark (lead (OneArg ∷ Tail ∷ []) mark) (move OneStmt mark)
by_arg_agrees m.Plain = refl
by_arg_agrees m.Query = refl
by_arg_agrees m.Star = refl
by_arg_agrees m.Plus = refl
by_arg_agrees m.Together = refl
by_arg_agrees m.Existing = refl
by_arg_agrees m.Quietly = refl
by_arg_agrees m.SquareOpen = (refl, refl)
by_arg_agrees _ = tt

a_call_agrees : (mark : TokenMark) → Agrees Tail mark (lead (Args ∷ More 8 ∷ Key m.Semicolon ∷ []) mark) (move Tail mark)
a_call_agrees m.Plain = refl
a_call_agrees m.Query = refl
a_call_agrees m.Star = refl
a_call_agrees m.Plus = refl
a_call_agrees m.Together = refl
a_call_agrees m.Existing = refl
a_call_agrees m.Quietly = refl
a_call_agrees m.SquareOpen = (refl, refl)
a_call_agrees m.Colon = refl
a_call_agrees m.Semicolon = refl
a_call_agrees _ = tt

for_name_agrees : (mark : TokenMark) → Agrees ForTail mark (lead (OneWord ∷ Key m.In ∷ Args ∷ OneBlock ∷ []) mark) (move ForTail mark)
for_name_agrees m.Plain = refl
for_name_agrees m.Query = refl
for_name_agrees m.Star = refl
for_name_agrees m.Plus = refl
for_name_agrees m.Together = refl
for_name_agrees m.Existing = refl
for_name_agrees m.Quietly = refl
for_name_agrees _ = tt

else_block_agrees : (mark : TokenMark) → Agrees ElseTail mark (lead (OneBlock ∷ []) mark) (move ElseTail mark)
else_block_agrees m.BraceOpen = (refl, refl)
else_block_agrees _ = tt

with_params_agrees : (mark : TokenMark) → Agrees RuleTail mark (lead (ParamBlock ∷ OneBlock ∷ []) mark) (move RuleTail mark)
with_params_agrees m.ParenOpen = (refl, refl)
with_params_agrees _ = tt

without_params_agrees : (mark : TokenMark) → Agrees RuleTail mark (lead (OneBlock ∷ []) mark) (move RuleTail mark)
without_params_agrees m.BraceOpen = (refl, refl)
without_params_agrees _ = tt

a_list_agrees : (mark : TokenMark) → Agrees Params mark (lead (Names ∷ MoreParams ∷ []) mark) (move Params mark)
a_list_agrees m.Plain = refl
a_list_agrees m.Together = refl
a_list_agrees m.Existing = refl
a_list_agrees m.Quietly = refl
a_list_agrees m.Colon = refl
a_list_agrees m.Query = tt
a_list_agrees m.Star = refl
a_list_agrees m.Plus = tt
a_list_agrees _ = tt

unmarked_agrees : (mark : TokenMark) → Agrees NameTail mark (lead (Names ∷ []) mark) (move NameTail mark)
unmarked_agrees m.Plain = refl
unmarked_agrees m.Query = refl
unmarked_agrees m.Star = refl
unmarked_agrees m.Plus = refl
unmarked_agrees m.Together = refl
unmarked_agrees m.Existing = refl
unmarked_agrees m.Quietly = refl
unmarked_agrees _ = tt

a_name_agrees : (mark : TokenMark) → Agrees Names mark (lead (OneName ∷ NameTail ∷ []) mark) (move Names mark)
a_name_agrees m.Plain = refl
a_name_agrees m.Together = refl
a_name_agrees m.Existing = refl
a_name_agrees m.Quietly = refl
a_name_agrees _ = tt

-- headings of actions
the_name_agrees : (t e q : Bool) (mark : TokenMark) → Agrees (Heading t e q) mark (lead (LastWord t e q ∷ []) mark) (move (Heading t e q) mark)
the_name_agrees t e q m.Together = by t
  where
    by : (b : Bool) → Agrees (Heading b e q) m.Together (lead (LastWord b e q ∷ []) m.Together) (move (Heading b e q) m.Together)
    by false = tt
    by true = refl
the_name_agrees t e q m.Existing = by e
  where
    by : (b : Bool) → Agrees (Heading t b q) m.Existing (lead (LastWord t b q ∷ []) m.Existing) (move (Heading t b q) m.Existing)
    by false = tt
    by true = refl
the_name_agrees t e q m.Quietly = by q
  where
    by : (b : Bool) → Agrees (Heading t e b) m.Quietly (lead (LastWord t e b ∷ []) m.Quietly) (move (Heading t e b) m.Quietly)
    by false = tt
    by true = refl
the_name_agrees t e q m.Plain = refl
the_name_agrees t e q m.Query = refl
the_name_agrees t e q m.Star = refl
the_name_agrees t e q m.Plus = refl
the_name_agrees t e q _ = tt

no_word_agrees : (t e q : Bool) (mark : TokenMark) → Agrees (Headed t e q) mark (lead [] mark) (move (Headed t e q) mark)
no_word_agrees t e q m.Together = by t
  where
    by : (b : Bool) → Agrees (Headed b e q) m.Together (lead [] m.Together) (move (Headed b e q) m.Together)
    by false = refl
    by true = refl
no_word_agrees t e q m.Existing = by e
  where
    by : (b : Bool) → Agrees (Headed t b q) m.Existing (lead [] m.Existing) (move (Headed t b q) m.Existing)
    by false = refl
    by true = refl
no_word_agrees t e q m.Quietly = by q
  where
    by : (b : Bool) → Agrees (Headed t e b) m.Quietly (lead [] m.Quietly) (move (Headed t e b) m.Quietly)
    by false = refl
    by true = refl
no_word_agrees t e q m.Plain = refl
no_word_agrees t e q m.Query = refl
no_word_agrees t e q m.Star = refl
no_word_agrees t e q m.Plus = refl
no_word_agrees t e q _ = tt

more_words_agrees : (t e q : Bool) (mark : TokenMark) → Agrees (Headed t e q) mark (lead (Heading t e q ∷ []) mark) (move (Headed t e q) mark)
more_words_agrees t e q m.Together = by t
  where
    by : (b : Bool) → Agrees (Headed b e q) m.Together (lead (Heading b e q ∷ []) m.Together) (move (Headed b e q) m.Together)
    by false = refl
    by true = refl
more_words_agrees t e q m.Existing = by e
  where
    by : (b : Bool) → Agrees (Headed t b q) m.Existing (lead (Heading t b q ∷ []) m.Existing) (move (Headed t b q) m.Existing)
    by false = refl
    by true = refl
more_words_agrees t e q m.Quietly = by q
  where
    by : (b : Bool) → Agrees (Headed t e b) m.Quietly (lead (Heading t e b ∷ []) m.Quietly) (move (Headed t e b) m.Quietly)
    by false = refl
    by true = refl
more_words_agrees t e q m.Plain = refl
more_words_agrees t e q m.Query = refl
more_words_agrees t e q m.Star = refl
more_words_agrees t e q m.Plus = refl
more_words_agrees t e q _ = tt

a_word_agrees : (mark : TokenMark) → Agrees OneArg mark (lead (OneWord ∷ []) mark) (move OneArg mark)
a_word_agrees m.Plain = refl
a_word_agrees m.Query = refl
a_word_agrees m.Star = refl
a_word_agrees m.Plus = refl
a_word_agrees m.Together = refl
a_word_agrees m.Existing = refl
a_word_agrees m.Quietly = refl
a_word_agrees _ = tt

inner_call_agrees : (mark : TokenMark) → Agrees OneInner mark (lead (OneArg ∷ Args ∷ More 8 ∷ []) mark) (move OneInner mark)
inner_call_agrees m.Plain = refl
inner_call_agrees m.Query = refl
inner_call_agrees m.Star = refl
inner_call_agrees m.Plus = refl
inner_call_agrees m.Together = refl
inner_call_agrees m.Existing = refl
inner_call_agrees m.Quietly = refl
inner_call_agrees m.SquareOpen = (refl, refl)
inner_call_agrees _ = tt

on_inner_agrees : (mark : TokenMark) → Agrees InnerTail mark (lead (OneInner ∷ []) mark) (move InnerTail mark)
on_inner_agrees m.Plain = refl
on_inner_agrees m.Query = refl
on_inner_agrees m.Star = refl
on_inner_agrees m.Plus = refl
on_inner_agrees m.Together = refl
on_inner_agrees m.Existing = refl
on_inner_agrees m.Quietly = refl
on_inner_agrees m.SquareOpen = (refl, refl)
on_inner_agrees m.On = (refl, refl)
on_inner_agrees _ = tt

more_args_agrees : (mark : TokenMark) → Agrees Args mark (lead (OneArg ∷ Args ∷ []) mark) (move Args mark)
more_args_agrees m.Plain = refl
more_args_agrees m.Query = refl
more_args_agrees m.Star = refl
more_args_agrees m.Plus = refl
more_args_agrees m.Together = refl
more_args_agrees m.Existing = refl
more_args_agrees m.Quietly = refl
more_args_agrees m.SquareOpen = (refl, refl)
more_args_agrees _ = tt

an_or_agrees : (mark : TokenMark) → Agrees OneExpr mark (lead (Both ∷ OrTail ∷ []) mark) (move OneExpr mark)
an_or_agrees m.Plain = refl
an_or_agrees m.Query = refl
an_or_agrees m.Star = refl
an_or_agrees m.Plus = refl
an_or_agrees m.Together = refl
an_or_agrees m.Existing = refl
an_or_agrees m.Quietly = refl
an_or_agrees m.SquareOpen = (refl, refl)
an_or_agrees m.Not = (refl, refl)
an_or_agrees m.ParenOpen = (refl, refl)
an_or_agrees _ = tt

an_and_agrees : (mark : TokenMark) → Agrees Both mark (lead (Single ∷ AndTail ∷ []) mark) (move Both mark)
an_and_agrees m.Plain = refl
an_and_agrees m.Query = refl
an_and_agrees m.Star = refl
an_and_agrees m.Plus = refl
an_and_agrees m.Together = refl
an_and_agrees m.Existing = refl
an_and_agrees m.Quietly = refl
an_and_agrees m.SquareOpen = (refl, refl)
an_and_agrees m.Not = (refl, refl)
an_and_agrees m.ParenOpen = (refl, refl)
an_and_agrees _ = tt

of_arg_agrees : (mark : TokenMark) → Agrees Single mark (lead (OneArg ∷ Compared ∷ []) mark) (move Single mark)
of_arg_agrees m.Plain = refl
of_arg_agrees m.Query = refl
of_arg_agrees m.Star = refl
of_arg_agrees m.Plus = refl
of_arg_agrees m.Together = refl
of_arg_agrees m.Existing = refl
of_arg_agrees m.Quietly = refl
of_arg_agrees m.SquareOpen = (refl, refl)
of_arg_agrees _ = tt

agrees : {part : Part} {by : List Part} → Line part by → (mark : TokenMark) → Agrees part mark (lead by mark) (move part mark)
agrees g.no_stmt mark = empty_agrees Stmts refl mark
agrees g.more_stmts mark = more_stmts_agrees mark
agrees g.in_braces mark = key_agrees OneBlock m.BraceOpen (Stmts ∷ Key m.BraceClose ∷ []) (refl, refl) mark
agrees g.a_block mark = a_block_agrees mark
agrees g.a_local mark = key_agrees OneStmt m.Local (Args ∷ LocalTail ∷ []) refl mark
agrees g.an_include mark = key_agrees OneStmt m.Include (Args ∷ Key m.Semicolon ∷ []) refl mark
agrees g.a_return mark = key_agrees OneStmt m.Return (Args ∷ Key m.Semicolon ∷ []) refl mark
agrees g.an_if mark = key_agrees OneStmt m.If (OneExpr ∷ OneBlock ∷ OneElse ∷ []) (refl, refl) mark
agrees g.a_for mark = key_agrees OneStmt m.For (ForTail ∷ []) (refl, refl) mark
agrees g.a_while mark = key_agrees OneStmt m.While (OneExpr ∷ OneBlock ∷ []) (refl, refl) mark
agrees g.a_switch mark = key_agrees OneStmt m.Switch (Args ∷ CaseBlock ∷ []) (refl, refl) mark
agrees g.a_module mark = key_agrees OneStmt m.Module (Args ∷ OneBlock ∷ []) (refl, refl) mark
agrees g.a_rule mark = key_agrees OneStmt m.Rule (OneWord ∷ RuleTail ∷ []) (refl, refl) mark
agrees g.an_action mark = key_agrees OneStmt m.Actions (Heading false false false ∷ BodyBlock ∷ []) (refl, refl) mark
agrees g.an_on mark = key_agrees OneStmt m.On (OneArg ∷ OneStmt ∷ Shut ∷ []) (refl, refl) mark
agrees g.by_arg mark = by_arg_agrees mark
agrees g.set mark = key_agrees Tail m.Equals (Args ∷ Key m.Semicolon ∷ []) refl mark
agrees g.add mark = key_agrees Tail m.PlusEquals (Args ∷ Key m.Semicolon ∷ []) refl mark
agrees g.fill mark = key_agrees Tail m.QueryEquals (Args ∷ Key m.Semicolon ∷ []) refl mark
agrees g.on_target mark = key_agrees Tail m.On (Args ∷ Assigned ∷ []) refl mark
agrees g.a_call mark = a_call_agrees mark
agrees g.set_on mark = key_agrees Assigned m.Equals (Args ∷ Key m.Semicolon ∷ []) refl mark
agrees g.add_on mark = key_agrees Assigned m.PlusEquals (Args ∷ Key m.Semicolon ∷ []) refl mark
agrees g.fill_on mark = key_agrees Assigned m.QueryEquals (Args ∷ Key m.Semicolon ∷ []) refl mark
agrees g.no_value mark = key_agrees LocalTail m.Semicolon ([]) refl mark
agrees g.a_value mark = key_agrees LocalTail m.Equals (Args ∷ Key m.Semicolon ∷ []) refl mark
agrees g.for_local mark = key_agrees ForTail m.Local (OneWord ∷ Key m.In ∷ Args ∷ OneBlock ∷ []) refl mark
agrees g.for_name mark = for_name_agrees mark
agrees g.no_else mark = empty_agrees OneElse refl mark
agrees g.an_else mark = key_agrees OneElse m.Else (ElseTail ∷ []) (refl, refl) mark
agrees g.else_block mark = else_block_agrees mark
agrees g.else_if mark = key_agrees ElseTail m.If (OneExpr ∷ OneBlock ∷ OneElse ∷ Shut ∷ []) (refl, refl) mark
agrees g.case_braces mark = key_agrees CaseBlock m.BraceOpen (Cases ∷ Key m.BraceClose ∷ []) (refl, refl) mark
agrees g.no_case mark = empty_agrees Cases refl mark
agrees g.more_cases mark = key_agrees Cases m.Case (OneWord ∷ Key m.Colon ∷ Stmts ∷ Cases ∷ []) refl mark
agrees (g.the_name {t} {e} {q}) mark = the_name_agrees t e q mark
agrees (g.together {e} {q}) mark = key_agrees (Heading false e q) m.Together (Headed true e q ∷ []) refl mark
agrees (g.existing {t} {q}) mark = key_agrees (Heading t false q) m.Existing (Headed t true q ∷ []) refl mark
agrees (g.quietly {t} {e}) mark = key_agrees (Heading t e false) m.Quietly (Headed t e true ∷ []) refl mark
agrees (g.no_word {t} {e} {q}) mark = no_word_agrees t e q mark
agrees (g.more_words {t} {e} {q}) mark = more_words_agrees t e q mark
agrees g.body_braces mark = key_agrees BodyBlock m.BraceOpen (Key m.Body ∷ Key m.BraceClose ∷ []) (refl, refl) mark
agrees g.with_params mark = with_params_agrees mark
agrees g.without_params mark = without_params_agrees mark
agrees g.param_parens mark = key_agrees ParamBlock m.ParenOpen (Params ∷ Key m.ParenClose ∷ []) (refl, refl) mark
agrees g.all_further mark = key_agrees Params m.Star ([]) refl mark
agrees g.a_list mark = a_list_agrees mark
agrees g.no_more_params mark = empty_agrees MoreParams refl mark
agrees g.more_params mark = key_agrees MoreParams m.Colon (Params ∷ []) refl mark
agrees g.no_name mark = empty_agrees Names refl mark
agrees g.a_name mark = a_name_agrees mark
agrees g.unmarked mark = unmarked_agrees mark
agrees g.optional mark = key_agrees NameTail m.Query (Names ∷ []) refl mark
agrees g.any_rest mark = key_agrees NameTail m.Star ([]) refl mark
agrees g.some_rest mark = key_agrees NameTail m.Plus ([]) refl mark
agrees g.a_word mark = a_word_agrees mark
agrees g.a_bracket mark = key_agrees OneArg m.SquareOpen (OneInner ∷ Key m.SquareClose ∷ []) (refl, refl) mark
agrees g.inner_call mark = inner_call_agrees mark
agrees g.inner_on mark = key_agrees OneInner m.On (OneArg ∷ InnerTail ∷ Shut ∷ []) (refl, refl) mark
agrees g.on_inner mark = on_inner_agrees mark
agrees g.on_return mark = key_agrees InnerTail m.Return (Args ∷ []) refl mark
agrees g.no_arg mark = empty_agrees Args refl mark
agrees g.more_args mark = more_args_agrees mark
agrees (g.no_list {n}) mark = no_list_agrees n mark
agrees (g.more_lists {n}) mark = key_agrees (More (suc n)) m.Colon (Args ∷ More n ∷ []) refl mark
agrees g.an_or mark = an_or_agrees mark
agrees g.no_or mark = empty_agrees OrTail refl mark
agrees g.more_or mark = key_agrees OrTail m.Or (Both ∷ OrTail ∷ []) refl mark
agrees g.an_and mark = an_and_agrees mark
agrees g.no_and mark = empty_agrees AndTail refl mark
agrees g.more_and mark = key_agrees AndTail m.And (Single ∷ AndTail ∷ []) refl mark
agrees g.negated mark = key_agrees Single m.Not (Single ∷ Shut ∷ []) (refl, refl) mark
agrees g.in_parens mark = key_agrees Single m.ParenOpen (OneExpr ∷ Key m.ParenClose ∷ []) (refl, refl) mark
agrees g.of_arg mark = of_arg_agrees mark
agrees g.bare mark = empty_agrees Compared refl mark
agrees g.equal mark = key_agrees Compared m.Equals (OneArg ∷ []) refl mark
agrees g.differ mark = key_agrees Compared m.NotEquals (OneArg ∷ []) refl mark
agrees g.within mark = key_agrees Compared m.In (Args ∷ []) refl mark

-- what is read by a line of a part is read as the part
line_read : (part : Part) (by more : List Part) (marks : List TokenMark) → Line part by → Clash part more → HasRoom (by ++ more) → accepts marks (by ++ more) ≡ true → accepts marks (part ∷ more) ≡ true
line_read part by more [] line clash room h = empty (may_be_empty part) (ends by h) (line_empty line)
  where
    ends : (parts : List Part) → may_end (parts ++ more) ≡ true → both (all_empty parts) (may_end more) ≡ true
    ends [] h = h
    ends (first ∷ parts) h = each (may_be_empty first) h (ends parts)
      where
        each : (b : Bool) → (if b then may_end (parts ++ more) else false) ≡ true → (may_end (parts ++ more) ≡ true → both (all_empty parts) (may_end more) ≡ true) → both (both b (all_empty parts)) (may_end more) ≡ true
        each true h again = again h
        each false h again = cc

    empty : (b : Bool) → both (all_empty by) (may_end more) ≡ true → implies (all_empty by) b ≡ true → (if b then may_end more else false) ≡ true
    empty true h i = second_true (all_empty by) (may_end more) h
    empty false h i = let e = first_true (all_empty by) (may_end more) h in let f = implied (all_empty by) false i e in cc
line_read part by more (mark ∷ marks) line clash room h = compare (lead by mark) (move part mark) (agrees line mark) (sym (feed_lead by more mark)) (ap (λ x. and_then x (accepts marks)) (sym (feed_lead by more mark)) ∙ h)
  where
    compare : (v w : Move) → Agrees part mark v w → by_move v more (feed more) mark ≡ feed (by ++ more) mark → and_then (by_move v more (feed more) mark) (accepts marks) ≡ true → and_then (by_move w more (feed more) mark) (accepts marks) ≡ true
    compare Refuse w a f h = cc
    compare Skip Skip a f h = h
    compare Skip (Take own) a f h = let bad : false ≡ true = ap (λ x. and_then x (accepts marks)) (sym (clash mark a)) ∙ h in cc
    compare Skip (Room n own) a f h = let bad : false ≡ true = ap (λ x. and_then x (accepts marks)) (sym (clash mark a)) ∙ h in cc
    compare Skip Refuse a f h = let bad : false ≡ true = ap (λ x. and_then x (accepts marks)) (sym (clash mark a)) ∙ h in cc
    compare (Take by) (Take own) a f h = ap (λ x. accepts marks (x ++ more)) (sym a) ∙ h
    compare (Take own) (Room n other) a f h =
        let has_room = keeps (by ++ more) mark (own ++ more) (sym f) room in
        let fits : need own + opens more ≤ 64 = need_append own more has_room in
        let less : n ≤ need own = let e = a.1 in grind (arith, e) in
        let within : n + opens more ≤ 64 = omega (arith, fits, less) in
        let is_open : nat_le (n + opens more) 64 ≡ true = grind (arith, within) in
        ap (λ b. and_then (if b then Some (other ++ more) else None) (accepts marks)) is_open ∙ ap (λ x. accepts marks (x ++ more)) (sym a.0) ∙ h
    compare (Take own) Skip a f h = absurd a
    compare (Take own) Refuse a f h = absurd a
    compare (Room n own) (Room k other) a f h =
        ap (λ x. and_then (if nat_le (x + opens more) 64 then Some (other ++ more) else None) (accepts marks)) (sym a.0)
        ∙ ap (λ x. and_then (if nat_le (n + opens more) 64 then Some (x ++ more) else None) (accepts marks)) (sym a.1) ∙ h
    compare (Room n own) (Take other) a f h = absurd a
    compare (Room n own) Skip a f h = absurd a
    compare (Room n own) Refuse a f h = absurd a

shut_read : (more : List Part) (marks : List TokenMark) → accepts marks more ≡ true → accepts marks (Shut ∷ more) ≡ true
shut_read more [] h = h
shut_read more (mark ∷ marks) h = h

-- what the grammar derives the machine accepts
pub complete : {parts : List Part} {marks : List TokenMark} → Derives parts marks → IsClear parts → accepts marks parts ≡ true
complete g.nothing clear = refl
complete (g.key {mark} {parts} {marks} room d) clear = ap (λ b. and_then (by_move (move_key b) parts (feed parts) mark) (accepts marks)) (same_mark_refl mark) ∙ complete d clear.1
complete (g.word {mark} {parts} {marks} is room d) clear = ap (λ b. and_then (by_move (move_word b []) parts (feed parts) mark) (accepts marks)) is ∙ complete d clear.1
complete (g.name {mark} {parts} {marks} is room d) clear = ap (λ b. and_then (by_move (move_word b []) parts (feed parts) mark) (accepts marks)) is ∙ complete d clear.1
complete (g.last {t} {e} {q} {mark} {parts} {marks} is room d) clear = ap (λ b. and_then (by_move (move_word b []) parts (feed parts) mark) (accepts marks)) is ∙ complete d clear.1
complete (g.shut {parts} {marks} room d) clear = shut_read parts marks (complete d clear.1)
complete (g.by_line {part} {by} {parts} {marks} line d) clear = line_read part by parts marks line clear.0 (rooms d) (complete d (clear_append part by parts (line_clear line) clear.0 clear.1))
