-- How many more can be open, and how many have to be, for what is still to be read.
use Rattle.std.proofs.Common.{◌≡◌, ℕ, zero, suc, ◌+◌, ◌-◌, ◌≤◌, List, [], ◌∷◌, ◌++◌, Bool, true, false, Some, None, nat_le, if◌then◌else◌, refl, subst, arith}
use Rattle.jam_grammar.specs.declared.mark.TokenMark.{TokenMark}
use Rattle.jam_grammar.specs.declared.mark.TokenMark.TheVariants as m
use Rattle.jam_grammar.specs.Marks.{same_mark, only_names}
use Rattle.jam_grammar.specs.Grammar.{Part, Key, OneWord, OneName, LastWord, Shut, Stmts, OneStmt, Tail, Assigned, LocalTail, ForTail, RuleTail, OneElse, ElseTail, OneBlock, CaseBlock, Cases, BodyBlock, Heading, Headed, ParamBlock, Params, MoreParams, Names, NameTail, OneArg, OneInner, InnerTail, Args, More, OneExpr, Both, Single, OrTail, AndTail, Compared, closes, opens, Line, Derives}
use Rattle.jam_grammar.specs.Grammar as grammar
use Rattle.jam_grammar.specs.Machine.{Move, Take, Room, Skip, Refuse, or_skip, move, move_key, move_word, move_modifier, move_heading, by_move, feed}
use Rattle.jam_grammar.proofs.MovesCompose.{opens_append}
use Rattle.jam_grammar.proofs.EveryMarkIsTested.{at_each}

-- how many a part needs to be open at once, itself included
abbrev pub needs : Part → ℕ
needs (Key mark) = closes (Key mark)
needs Shut = 1
needs ForTail = 1
needs RuleTail = 1
needs ElseTail = 1
needs OneBlock = 1
needs CaseBlock = 1
needs BodyBlock = 1
needs ParamBlock = 1
needs _ = 0

abbrev pub greater : ℕ → ℕ → ℕ
greater a b = if nat_le a b then b else a

-- how many parts need
abbrev pub need : List Part → ℕ
need [] = 0
need (part ∷ parts) = greater (needs part + opens parts) (need parts)

-- each part has the room that it needs
abbrev pub HasRoom : List Part → Type 0
HasRoom [] = Unit {0}
HasRoom (part ∷ parts) = (needs part + opens parts ≤ 64) × HasRoom parts

left_greater : (a b : ℕ) → a ≤ greater a b
left_greater a b = grind arith

right_greater : (a b : ℕ) → b ≤ greater a b
right_greater a b = grind arith

greater_within : (a b c : ℕ) → a ≤ c → b ≤ c → greater a b ≤ c
greater_within a b c h k = grind (arith, h, k)

pub closes_needs : (part : Part) → closes part ≤ needs part
closes_needs (Key mark) = omega arith
closes_needs Shut = omega arith
closes_needs _ = omega arith

pub room_opens : (parts : List Part) → HasRoom parts → opens parts ≤ 64
room_opens [] r = omega arith
room_opens (part ∷ parts) r = omega (arith, r.0, closes_needs part)

pub room_after : (parts more : List Part) → HasRoom (parts ++ more) → HasRoom more
room_after [] more r = r
room_after (part ∷ parts) more r = room_after parts more r.1

-- the room of parts before others
pub room_append : (parts more : List Part) → need parts + opens more ≤ 64 → HasRoom more → HasRoom (parts ++ more)
room_append [] more h r = r
room_append (part ∷ parts) more h r =
    (omega (arith, h, left_greater (needs part + opens parts) (need parts), opens_append parts more), room_append parts more (omega (arith, h, right_greater (needs part + opens parts) (need parts))) r)

pub need_append : (parts more : List Part) → HasRoom (parts ++ more) → need parts + opens more ≤ 64
need_append [] more r = omega (arith, room_opens more r)
need_append (part ∷ parts) more r =
    let here : needs part + opens parts ≤ 64 - opens more = omega (arith, r.0, opens_append parts more) in
    let rest : need parts ≤ 64 - opens more = omega (arith, need_append parts more r.1) in
    let all = greater_within (needs part + opens parts) (need parts) (64 - opens more) here rest in
    omega (arith, all, room_opens more (room_after (part ∷ parts) more r))

-- a line gives its part what it needs
abbrev Gives : Part → List Part → Type 0
Gives part by = nat_le (needs part) (need by) ≡ true

line_gives : {part : Part} {by : List Part} → Line part by → Gives part by
line_gives grammar.no_stmt = refl
line_gives grammar.more_stmts = refl
line_gives grammar.in_braces = refl
line_gives grammar.a_block = refl
line_gives grammar.a_local = refl
line_gives grammar.an_include = refl
line_gives grammar.a_return = refl
line_gives grammar.an_if = refl
line_gives grammar.a_for = refl
line_gives grammar.a_while = refl
line_gives grammar.a_switch = refl
line_gives grammar.a_module = refl
line_gives grammar.a_rule = refl
line_gives grammar.an_action = refl
line_gives grammar.an_on = refl
line_gives grammar.by_arg = refl
line_gives grammar.set = refl
line_gives grammar.add = refl
line_gives grammar.fill = refl
line_gives grammar.on_target = refl
line_gives grammar.a_call = refl
line_gives grammar.set_on = refl
line_gives grammar.add_on = refl
line_gives grammar.fill_on = refl
line_gives grammar.no_value = refl
line_gives grammar.a_value = refl
line_gives grammar.for_local = refl
line_gives grammar.for_name = refl
line_gives grammar.no_else = refl
line_gives grammar.an_else = refl
line_gives grammar.else_block = refl
line_gives grammar.else_if = refl
line_gives grammar.case_braces = refl
line_gives grammar.no_case = refl
line_gives grammar.more_cases = refl
line_gives grammar.the_name = refl
line_gives grammar.together = refl
line_gives grammar.existing = refl
line_gives grammar.quietly = refl
line_gives grammar.no_word = refl
line_gives grammar.more_words = refl
line_gives grammar.body_braces = refl
line_gives grammar.with_params = refl
line_gives grammar.without_params = refl
line_gives grammar.param_parens = refl
line_gives grammar.all_further = refl
line_gives grammar.a_list = refl
line_gives grammar.no_more_params = refl
line_gives grammar.more_params = refl
line_gives grammar.no_name = refl
line_gives grammar.a_name = refl
line_gives grammar.unmarked = refl
line_gives grammar.optional = refl
line_gives grammar.any_rest = refl
line_gives grammar.some_rest = refl
line_gives grammar.a_word = refl
line_gives grammar.a_bracket = refl
line_gives grammar.inner_call = refl
line_gives grammar.inner_on = refl
line_gives grammar.on_inner = refl
line_gives grammar.on_return = refl
line_gives grammar.no_arg = refl
line_gives grammar.more_args = refl
line_gives grammar.no_list = refl
line_gives grammar.more_lists = refl
line_gives grammar.an_or = refl
line_gives grammar.no_or = refl
line_gives grammar.more_or = refl
line_gives grammar.an_and = refl
line_gives grammar.no_and = refl
line_gives grammar.more_and = refl
line_gives grammar.negated = refl
line_gives grammar.in_parens = refl
line_gives grammar.of_arg = refl
line_gives grammar.bare = refl
line_gives grammar.equal = refl
line_gives grammar.differ = refl
line_gives grammar.within = refl

pub line_needs : {part : Part} {by : List Part} → Line part by → needs part ≤ need by
line_needs {part} {by} l = let h = line_gives l in grind (arith, h)

-- what is derived has room
pub rooms : {parts : List Part} {marks : List TokenMark} → Derives parts marks → HasRoom parts
rooms grammar.nothing = tt
rooms (grammar.key room d) = (room, rooms d)
rooms (grammar.word is room d) = (omega (arith, room), rooms d)
rooms (grammar.name is room d) = (omega (arith, room), rooms d)
rooms (grammar.last is room d) = (omega (arith, room), rooms d)
rooms (grammar.shut room d) = (room, rooms d)
rooms (grammar.by_line {part} {by} {parts} l d) =
    let r = rooms d in
    (omega (arith, need_append by parts r, line_needs l), room_after by parts r)

-- what a mark puts in a part's place needs no more than there is room for
abbrev fits_by : Move → Part → Bool
fits_by (Take by) part = nat_le (need by) (needs part)
fits_by (Room n by) part = nat_le (need by) n
fits_by Skip part = true
fits_by Refuse part = true

fits_key : (b : Bool) (part : Part) → fits_by (move_key b) part ≡ true
fits_key true part = grind arith
fits_key false part = refl

fits_word : (b : Bool) (part : Part) → fits_by (move_word b []) part ≡ true
fits_word true part = grind arith
fits_word false part = refl

fits_modifier : (b : Bool) (next part : Part) → need (next ∷ []) ≡ 0 → fits_by (move_modifier b next) part ≡ true
fits_modifier true next part h = grind arith
fits_modifier false next part h = grind (arith, h)

fits_heading : (t e q : Bool) (part : Part) (mark : TokenMark) → fits_by (move_heading t e q mark) part ≡ true
fits_heading t e q part m.Together = fits_modifier t (Headed true e q) part refl
fits_heading t e q part m.Existing = fits_modifier e (Headed t true q) part refl
fits_heading t e q part m.Quietly = fits_modifier q (Headed t e true) part refl
fits_heading t e q part m.Plain = grind arith
fits_heading t e q part m.Query = grind arith
fits_heading t e q part m.Star = grind arith
fits_heading t e q part m.Plus = grind arith
fits_heading t e q part _ = refl

fits_skip : (v : Move) (part : Part) → fits_by v part ≡ true → fits_by (or_skip v) part ≡ true
fits_skip (Take by) part h = h
fits_skip (Room n by) part h = h
fits_skip Skip part h = refl
fits_skip Refuse part h = refl

pub fits : (part : Part) (mark : TokenMark) → fits_by (move part mark) part ≡ true
fits (Key want) mark = fits_key (same_mark want mark) (Key want)
fits (More zero) mark = at_each (λ x. fits_by (move (More zero) x) (More zero)) refl mark
fits (More (suc n)) mark = at_each (λ x. fits_by (move (More (suc n)) x) (More (suc n))) refl mark
fits OneWord mark = at_each (λ x. fits_by (move OneWord x) OneWord) refl mark
fits OneName mark = at_each (λ x. fits_by (move OneName x) OneName) refl mark
fits (LastWord t e q) mark = fits_word (only_names t e q mark) (LastWord t e q)
fits (Heading t e q) mark = fits_heading t e q (Heading t e q) mark
fits (Headed t e q) mark = fits_skip (move_heading t e q mark) (Headed t e q) (fits_heading t e q (Headed t e q) mark)
fits Shut mark = at_each (λ x. fits_by (move Shut x) Shut) refl mark
fits Stmts mark = at_each (λ x. fits_by (move Stmts x) Stmts) refl mark
fits OneStmt mark = at_each (λ x. fits_by (move OneStmt x) OneStmt) refl mark
fits Tail mark = at_each (λ x. fits_by (move Tail x) Tail) refl mark
fits Assigned mark = at_each (λ x. fits_by (move Assigned x) Assigned) refl mark
fits LocalTail mark = at_each (λ x. fits_by (move LocalTail x) LocalTail) refl mark
fits ForTail mark = at_each (λ x. fits_by (move ForTail x) ForTail) refl mark
fits RuleTail mark = at_each (λ x. fits_by (move RuleTail x) RuleTail) refl mark
fits OneElse mark = at_each (λ x. fits_by (move OneElse x) OneElse) refl mark
fits ElseTail mark = at_each (λ x. fits_by (move ElseTail x) ElseTail) refl mark
fits OneBlock mark = at_each (λ x. fits_by (move OneBlock x) OneBlock) refl mark
fits CaseBlock mark = at_each (λ x. fits_by (move CaseBlock x) CaseBlock) refl mark
fits Cases mark = at_each (λ x. fits_by (move Cases x) Cases) refl mark
fits BodyBlock mark = at_each (λ x. fits_by (move BodyBlock x) BodyBlock) refl mark
fits ParamBlock mark = at_each (λ x. fits_by (move ParamBlock x) ParamBlock) refl mark
fits Params mark = at_each (λ x. fits_by (move Params x) Params) refl mark
fits MoreParams mark = at_each (λ x. fits_by (move MoreParams x) MoreParams) refl mark
fits Names mark = at_each (λ x. fits_by (move Names x) Names) refl mark
fits NameTail mark = at_each (λ x. fits_by (move NameTail x) NameTail) refl mark
fits OneArg mark = at_each (λ x. fits_by (move OneArg x) OneArg) refl mark
fits OneInner mark = at_each (λ x. fits_by (move OneInner x) OneInner) refl mark
fits InnerTail mark = at_each (λ x. fits_by (move InnerTail x) InnerTail) refl mark
fits Args mark = at_each (λ x. fits_by (move Args x) Args) refl mark
fits OneExpr mark = at_each (λ x. fits_by (move OneExpr x) OneExpr) refl mark
fits Both mark = at_each (λ x. fits_by (move Both x) Both) refl mark
fits Single mark = at_each (λ x. fits_by (move Single x) Single) refl mark
fits OrTail mark = at_each (λ x. fits_by (move OrTail x) OrTail) refl mark
fits AndTail mark = at_each (λ x. fits_by (move AndTail x) AndTail) refl mark
fits Compared mark = at_each (λ x. fits_by (move Compared x) Compared) refl mark

-- a mark that is read leaves room
pub keeps : (parts : List Part) (mark : TokenMark) (next : List Part) → feed parts mark ≡ Some next → HasRoom parts → HasRoom next
keeps [] mark next h r = cc
keeps (part ∷ more) mark next h r = by (move part mark) (fits part mark) h (λ again. keeps more mark next again r.1)
  where
    by : (v : Move) → fits_by v part ≡ true → by_move v more (feed more) mark ≡ Some next → (feed more mark ≡ Some next → HasRoom next) → HasRoom next
    by (Take own) f h again =
        let is : own ++ more ≡ next = cc in
        let less : need own ≤ needs part = grind (arith, f) in
        subst HasRoom is (room_append own more (omega (arith, less, r.0)) r.1)
    by (Room n own) f h again = in_room (nat_le (n + opens more) 64) refl h
      where
        in_room : (b : Bool) → nat_le (n + opens more) 64 ≡ b → (if b then Some (own ++ more) else None) ≡ Some next → HasRoom next
        in_room true e h =
            let is : own ++ more ≡ next = cc in
            let less : need own ≤ n = grind (arith, f) in
            let within : n + opens more ≤ 64 = grind (arith, e) in
            subst HasRoom is (room_append own more (omega (arith, less, within)) r.1)
        in_room false e h = cc
    by Skip f h again = again h
    by Refuse f h again = cc
