-- Where a file has the modifiers of actions in other orders, it is a file again.
use Rattle.std.proofs.Common.{◌≡◌, ℕ, zero, suc, ◌+◌, List, [], ◌∷◌, ◌++◌, Bool, true, false, Option, Some, None, nat_le, if◌then◌else◌, refl, sym, ap, ◌∙◌, subst}
use Rattle.b2_base.specs.declared.token.Token.{Token}
use Rattle.jam_grammar.specs.declared.mark.TokenMark.{TokenMark}
use Rattle.jam_grammar.specs.declared.mark.TokenMark.TheVariants as m
use Rattle.jam_grammar.specs.Marks.{mark_of_token, same_mark, only_names}
use Rattle.jam_grammar.specs.Grammar.{Part, Key, OneWord, OneName, LastWord, Shut, Stmts, OneStmt, Tail, Assigned, LocalTail, ForTail, RuleTail, OneElse, ElseTail, OneBlock, CaseBlock, Cases, BodyBlock, Heading, Headed, ParamBlock, Params, MoreParams, Names, NameTail, OneArg, OneInner, InnerTail, Args, More, OneExpr, Both, Single, OrTail, AndTail, Compared, opens, Derives, IsFile}
use Rattle.jam_grammar.specs.Machine.{Move, Take, Room, Skip, Refuse, or_skip, move, move_key, move_word, move_modifier, move_heading, by_move, feed}
use Rattle.jam_grammar.specs.Spelling.{Switches}
use Rattle.jam_grammar.specs.Spelling as s
use Rattle.jam_grammar.specs.Readings.{marks}
use Rattle.jam_grammar.proofs.EveryMarkIsTested.{both, at_each, first_true, second_true, same_mark_true}
use Rattle.jam_grammar.proofs.WhatIsReadHasRoom.{HasRoom, keeps}
use Rattle.jam_grammar.proofs.GrammarOfMachine.{step}
use Rattle.jam_grammar.proofs.MachineReadsGrammar.{and_then, accepts, complete}
use Rattle.jam_grammar.proofs.MachineStopsAtFirstFault.{clear, has_room, ends_whole}

-- ---- the key `actions` is read by the machine before a heading alone

abbrev is_plain : Part → Bool
is_plain (Key m.Actions) = false
is_plain _ = true

abbrev all_plain : List Part → Bool
all_plain [] = true
all_plain (part ∷ parts) = both (is_plain part) (all_plain parts)

-- parts without the key
abbrev ArePlain : List Part → Type 0
ArePlain [] = Unit {0}
ArePlain (part ∷ parts) = (is_plain part ≡ true) × ArePlain parts

-- a heading first, and then such parts; or such parts
abbrev Ready : Bool → List Part → Type 0
Ready true parts = (more : List Part) × (parts ≡ Heading false false false ∷ more) × ArePlain more
Ready false parts = ArePlain parts

abbrev heading_first : List Part → Bool
heading_first (Heading false false false ∷ parts) = all_plain parts
heading_first _ = false

-- what a mark puts in a part's place, where it is the key and where it is not
abbrev ready_by : Bool → Move → Bool
ready_by true (Take own) = false
ready_by true (Room n own) = heading_first own
ready_by false (Take own) = all_plain own
ready_by false (Room n own) = all_plain own
ready_by b Skip = true
ready_by b Refuse = true

ready_key : (want mark : TokenMark) (b : Bool) → is_plain (Key want) ≡ true → same_mark want mark ≡ b → ready_by (same_mark m.Actions mark) (move_key b) ≡ true
ready_key want m.Actions true p e = let bad : false ≡ true = ap (λ x. is_plain (Key x)) (sym (same_mark_true want m.Actions e)) ∙ p in cc
ready_key want m.Actions false p e = refl
ready_key want mark true p e = refl
ready_key want mark false p e = refl

ready_modifier : (b : Bool) (next : Part) → is_plain next ≡ true → ready_by false (move_modifier b next) ≡ true
ready_modifier true next h = refl
ready_modifier false next h = ap (λ x. both x true) h

ready_heading : (t e q : Bool) (mark : TokenMark) → ready_by (same_mark m.Actions mark) (move_heading t e q mark) ≡ true
ready_heading t e q m.Together = ready_modifier t (Headed true e q) refl
ready_heading t e q m.Existing = ready_modifier e (Headed t true q) refl
ready_heading t e q m.Quietly = ready_modifier q (Headed t e true) refl
ready_heading t e q _ = refl

ready_skip : (b : Bool) (v : Move) → ready_by b v ≡ true → ready_by b (or_skip v) ≡ true
ready_skip b (Take own) h = h
ready_skip b (Room n own) h = h
ready_skip true Skip h = refl
ready_skip false Skip h = refl
ready_skip true Refuse h = refl
ready_skip false Refuse h = refl

ready_last : (t e q : Bool) (mark : TokenMark) → ready_by (same_mark m.Actions mark) (move_word (only_names t e q mark) []) ≡ true
ready_last t e q m.Together = by t
  where
    by : (b : Bool) → ready_by false (move_word b []) ≡ true
    by true = refl
    by false = refl
ready_last t e q m.Existing = by e
  where
    by : (b : Bool) → ready_by false (move_word b []) ≡ true
    by true = refl
    by false = refl
ready_last t e q m.Quietly = by q
  where
    by : (b : Bool) → ready_by false (move_word b []) ≡ true
    by true = refl
    by false = refl
ready_last t e q _ = refl

ready : (part : Part) → is_plain part ≡ true → (mark : TokenMark) → ready_by (same_mark m.Actions mark) (move part mark) ≡ true
ready (Key want) p mark = ready_key want mark (same_mark want mark) p refl
ready (LastWord t e q) p mark = ready_last t e q mark
ready (Heading t e q) p mark = ready_heading t e q mark
ready (Headed t e q) p mark = ready_skip (same_mark m.Actions mark) (move_heading t e q mark) (ready_heading t e q mark)
ready (More zero) p mark = at_each (λ x. ready_by (same_mark m.Actions x) (move (More zero) x)) refl mark
ready (More (suc n)) p mark = at_each (λ x. ready_by (same_mark m.Actions x) (move (More (suc n)) x)) refl mark
ready OneWord p mark = at_each (λ x. ready_by (same_mark m.Actions x) (move OneWord x)) refl mark
ready OneName p mark = at_each (λ x. ready_by (same_mark m.Actions x) (move OneName x)) refl mark
ready Shut p mark = at_each (λ x. ready_by (same_mark m.Actions x) (move Shut x)) refl mark
ready Stmts p mark = at_each (λ x. ready_by (same_mark m.Actions x) (move Stmts x)) refl mark
ready OneStmt p mark = at_each (λ x. ready_by (same_mark m.Actions x) (move OneStmt x)) refl mark
ready Tail p mark = at_each (λ x. ready_by (same_mark m.Actions x) (move Tail x)) refl mark
ready Assigned p mark = at_each (λ x. ready_by (same_mark m.Actions x) (move Assigned x)) refl mark
ready LocalTail p mark = at_each (λ x. ready_by (same_mark m.Actions x) (move LocalTail x)) refl mark
ready ForTail p mark = at_each (λ x. ready_by (same_mark m.Actions x) (move ForTail x)) refl mark
ready RuleTail p mark = at_each (λ x. ready_by (same_mark m.Actions x) (move RuleTail x)) refl mark
ready OneElse p mark = at_each (λ x. ready_by (same_mark m.Actions x) (move OneElse x)) refl mark
ready ElseTail p mark = at_each (λ x. ready_by (same_mark m.Actions x) (move ElseTail x)) refl mark
ready OneBlock p mark = at_each (λ x. ready_by (same_mark m.Actions x) (move OneBlock x)) refl mark
ready CaseBlock p mark = at_each (λ x. ready_by (same_mark m.Actions x) (move CaseBlock x)) refl mark
ready Cases p mark = at_each (λ x. ready_by (same_mark m.Actions x) (move Cases x)) refl mark
ready BodyBlock p mark = at_each (λ x. ready_by (same_mark m.Actions x) (move BodyBlock x)) refl mark
ready ParamBlock p mark = at_each (λ x. ready_by (same_mark m.Actions x) (move ParamBlock x)) refl mark
ready Params p mark = at_each (λ x. ready_by (same_mark m.Actions x) (move Params x)) refl mark
ready MoreParams p mark = at_each (λ x. ready_by (same_mark m.Actions x) (move MoreParams x)) refl mark
ready Names p mark = at_each (λ x. ready_by (same_mark m.Actions x) (move Names x)) refl mark
ready NameTail p mark = at_each (λ x. ready_by (same_mark m.Actions x) (move NameTail x)) refl mark
ready OneArg p mark = at_each (λ x. ready_by (same_mark m.Actions x) (move OneArg x)) refl mark
ready OneInner p mark = at_each (λ x. ready_by (same_mark m.Actions x) (move OneInner x)) refl mark
ready InnerTail p mark = at_each (λ x. ready_by (same_mark m.Actions x) (move InnerTail x)) refl mark
ready Args p mark = at_each (λ x. ready_by (same_mark m.Actions x) (move Args x)) refl mark
ready OneExpr p mark = at_each (λ x. ready_by (same_mark m.Actions x) (move OneExpr x)) refl mark
ready Both p mark = at_each (λ x. ready_by (same_mark m.Actions x) (move Both x)) refl mark
ready Single p mark = at_each (λ x. ready_by (same_mark m.Actions x) (move Single x)) refl mark
ready OrTail p mark = at_each (λ x. ready_by (same_mark m.Actions x) (move OrTail x)) refl mark
ready AndTail p mark = at_each (λ x. ready_by (same_mark m.Actions x) (move AndTail x)) refl mark
ready Compared p mark = at_each (λ x. ready_by (same_mark m.Actions x) (move Compared x)) refl mark

plain_append : (own more : List Part) → all_plain own ≡ true → ArePlain more → ArePlain (own ++ more)
plain_append [] more h p = p
plain_append (part ∷ own) more h p = (first_true (is_plain part) (all_plain own) h, plain_append own more (second_true (is_plain part) (all_plain own) h) p)

first_heading : (own : List Part) → heading_first own ≡ true → (rest : List Part) × (own ≡ Heading false false false ∷ rest) × (all_plain rest ≡ true)
first_heading [] h = cc
first_heading (Heading false false false ∷ rest) h = (rest, refl, h)
first_heading (Heading true e q ∷ rest) h = cc
first_heading (Heading false true q ∷ rest) h = cc
first_heading (Heading false false true ∷ rest) h = cc
first_heading (_ ∷ rest) h = cc

taken : (b : Bool) (own more next : List Part) → ready_by b (Take own) ≡ true → own ++ more ≡ next → ArePlain more → Ready b next
taken true own more next h e p = cc
taken false own more next h e p = subst ArePlain e (plain_append own more h p)

opened : (b : Bool) (n : ℕ) (own more next : List Part) → ready_by b (Room n own) ≡ true → own ++ more ≡ next → ArePlain more → Ready b next
opened true n own more next h e p =
    let f = first_heading own h in
    (f.0 ++ more, sym e ∙ ap (λ x. x ++ more) f.1, plain_append f.0 more f.2 p)
opened false n own more next h e p = subst ArePlain e (plain_append own more h p)

-- what is left by a mark
left_ready : (parts : List Part) (mark : TokenMark) (next : List Part) → feed parts mark ≡ Some next → ArePlain parts → Ready (same_mark m.Actions mark) next
left_ready [] mark next h p = cc
left_ready (part ∷ more) mark next h p = by (move part mark) (ready part p.0 mark) h (λ again. left_ready more mark next again p.1)
  where
    by : (v : Move) → ready_by (same_mark m.Actions mark) v ≡ true → by_move v more (feed more) mark ≡ Some next → (feed more mark ≡ Some next → Ready (same_mark m.Actions mark) next) → Ready (same_mark m.Actions mark) next
    by (Take own) f h again = let is : own ++ more ≡ next = cc in taken (same_mark m.Actions mark) own more next f is p.1
    by (Room n own) f h again = in_room (nat_le (n + opens more) 64) h
      where
        in_room : (b : Bool) → (if b then Some (own ++ more) else None) ≡ Some next → Ready (same_mark m.Actions mark) next
        in_room true e = let is : own ++ more ≡ next = cc in opened (same_mark m.Actions mark) n own more next f is p.1
        in_room false e = cc
    by Skip f h again = again h
    by Refuse f h again = cc

-- ---- reading modifiers in any order comes to the same

-- what is left to be read of a heading behind modifiers
abbrev after : Bool → Bool → Bool → Part
after true b c = Headed true b c
after false true c = Headed false true c
after false false true = Headed false false true
after false false false = Heading false false false

after_plain : (a b c : Bool) → is_plain (after a b c) ≡ true
after_plain true b c = refl
after_plain false true c = refl
after_plain false false true = refl
after_plain false false false = refl

after_first : (a b c : Bool) → a ≡ true → after a b c ≡ Headed a b c
after_first true b c h = refl
after_first false b c h = cc

after_second : (a b c : Bool) → b ≡ true → after a b c ≡ Headed a b c
after_second true b c h = refl
after_second false true c h = refl
after_second false false c h = cc

after_third : (a b c : Bool) → c ≡ true → after a b c ≡ Headed a b c
after_third true b c h = refl
after_third false true c h = refl
after_third false false true h = refl
after_third false false false h = cc

-- what has stood stays so
rises : {a b c t e q : Bool} {ts left : List Token} → Switches a b c t e q ts left → (a ≡ true → t ≡ true) × (b ≡ true → e ≡ true) × (c ≡ true → q ≡ true)
rises s.none = (λ h. h, λ h. h, λ h. h)
rises (s.together is w) = let r = rises w in (λ h. r.0 refl, r.1, r.2)
rises (s.existing is w) = let r = rises w in (r.0, λ h. r.1 refl, r.2)
rises (s.quietly is w) = let r = rises w in (r.0, r.1, λ h. r.2 refl)

reads_on : {a b c t e q : Bool} {ts left : List Token} (more : List Part) → Switches a b c t e q ts left → accepts (marks ts) (Headed a b c ∷ more) ≡ accepts (marks left) (Headed t e q ∷ more)
reads_on more s.none = refl
reads_on more (s.together {b} {c} {tokens} is w) = ap (λ z. and_then (feed (Headed false b c ∷ more) z) (accepts (marks tokens))) is ∙ reads_on more w
reads_on more (s.existing {a} {c} {tokens} is w) = ap (λ z. and_then (feed (Headed a false c ∷ more) z) (accepts (marks tokens))) is ∙ reads_on more w
reads_on more (s.quietly {a} {b} {tokens} is w) = ap (λ z. and_then (feed (Headed a b false ∷ more) z) (accepts (marks tokens))) is ∙ reads_on more w

reads : {t e q : Bool} {ts left : List Token} (more : List Part) → Switches false false false t e q ts left → accepts (marks ts) (Heading false false false ∷ more) ≡ accepts (marks left) (after t e q ∷ more)
reads more s.none = refl
reads {t} {e} {q} {left} more (s.together {tokens} is w) =
    ap (λ z. and_then (feed (Heading false false false ∷ more) z) (accepts (marks tokens))) is ∙ reads_on more w ∙ ap (λ p. accepts (marks left) (p ∷ more)) (sym (after_first t e q ((rises w).0 refl)))
reads {t} {e} {q} {left} more (s.existing {tokens} is w) =
    ap (λ z. and_then (feed (Heading false false false ∷ more) z) (accepts (marks tokens))) is ∙ reads_on more w ∙ ap (λ p. accepts (marks left) (p ∷ more)) (sym (after_second t e q ((rises w).1 refl)))
reads {t} {e} {q} {left} more (s.quietly {tokens} is w) =
    ap (λ z. and_then (feed (Heading false false false ∷ more) z) (accepts (marks tokens))) is ∙ reads_on more w ∙ ap (λ p. accepts (marks left) (p ∷ more)) (sym (after_third t e q ((rises w).2 refl)))

-- ---- tokens of the same marks, but for the order of modifiers behind `actions`; behind that key where the first says so

pub data Turned : Bool → List Token → List Token → Type 0 where
  done : Turned false [] []
  same : {t u : Token} {ts us : List Token} (mark : TokenMark) → mark_of_token t ≡ mark → mark_of_token u ≡ mark → Turned (same_mark m.Actions mark) ts us → Turned false (t ∷ ts) (u ∷ us)
  heading : {t e q : Bool} {ts us left right : List Token} → Switches false false false t e q ts left → Switches false false false t e q us right → Turned false left right → Turned true ts us

turned : {b : Bool} {ts us : List Token} → Turned b ts us → (parts : List Part) → Ready b parts → accepts (marks ts) parts ≡ true → accepts (marks us) parts ≡ true
turned done parts p h = h
turned (same {t} {u} {ts} {us} mark is has more) parts p h = ap (λ z. and_then (feed parts z) (accepts (marks us))) has ∙ by (feed parts mark) refl (ap (λ z. and_then (feed parts z) (accepts (marks ts))) (sym is) ∙ h) (λ next r k. turned more next r k)
  where
    by : (o : Option (List Part)) → feed parts mark ≡ o → and_then (feed parts mark) (accepts (marks ts)) ≡ true → ((next : List Part) → Ready (same_mark m.Actions mark) next → accepts (marks ts) next ≡ true → accepts (marks us) next ≡ true) → and_then (feed parts mark) (accepts (marks us)) ≡ true
    by None f k again = let bad : false ≡ true = ap (λ o. and_then o (accepts (marks ts))) (sym f) ∙ k in cc
    by (Some next) f k again =
        ap (λ o. and_then o (accepts (marks us))) f ∙ again next (left_ready parts mark next f p) (ap (λ o. and_then o (accepts (marks ts))) (sym f) ∙ k)
turned (heading {t} {e} {q} {ts} {us} {left} {right} w r more) parts p h =
    let there : accepts (marks left) (after t e q ∷ p.0) ≡ true = sym (reads p.0 w) ∙ ap (accepts (marks ts)) (sym p.1) ∙ h in
    ap (accepts (marks us)) p.1 ∙ reads p.0 r ∙ turned more (after t e q ∷ p.0) (after_plain t e q, p.2) there

accepted : (ms : List TokenMark) (parts : List Part) → HasRoom parts → accepts ms parts ≡ true → Derives parts ms
accepted [] parts r h = ends_whole parts r h
accepted (mark ∷ ms) parts r h = by (feed parts mark) refl h (λ next room k. accepted ms next room k)
  where
    by : (o : Option (List Part)) → feed parts mark ≡ o → and_then o (accepts ms) ≡ true → ((next : List Part) → HasRoom next → accepts ms next ≡ true → Derives next ms) → Derives parts (mark ∷ ms)
    by None f k again = cc
    by (Some next) f k again = step parts mark next ms f r (again next (keeps parts mark next f r) k)

pub turned_file : {tokens others : List Token} → Turned false tokens others → IsFile (marks tokens) → IsFile (marks others)
turned_file {tokens} {others} t d = accepted (marks others) (Stmts ∷ []) has_room (turned t (Stmts ∷ []) (refl, tt) (complete d clear))
