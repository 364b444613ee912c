use Rattle.std.proofs.Common.{◌≡◌, ℕ, ◌+◌, List, ◌∷◌, [], false, Some, None, nat_le, if◌then◌else◌, refl, ap, arith}
use Rattle.std.proofs.lemmas.Result.{MatchResult-weaker}
use Rattle.b2_base.specs.declared.token.Token.{Token}
use Rattle.jam_grammar.specs.declared.mark.TokenMark.{TokenMark}
use Rattle.jam_grammar.specs.declared.mark.TokenMark.TheVariants as marks
use Rattle.jam_grammar.specs.declared.tree.Sign.{Sign}
use Rattle.jam_grammar.specs.declared.tree.Sign.TheVariants as signs
use Rattle.jam_grammar.specs.Marks.{mark_of_token, same_mark}
use Rattle.jam_grammar.specs.Grammar.{Part, Tail, Assigned, Args, More, OneInner, Key, opens}
use Rattle.jam_grammar.specs.Machine.{Take, move, feed, go_on, run}
use Rattle.jam_grammar.specs.Gives.{Leads}
use Rattle.jam_grammar.specs.Spelling.{arg_syms, form_syms, sign_mark}
use Rattle.jam_parser.specs.PartReadings.{ComesTo}
use Rattle.jam_parser.specs.Starts.{starts_with, starts_sign, is_sign}
use Rattle.jam_parser.proofs.ReadingsCompose.{then_all, then_fault, takes_past, turned, continued}
use Rattle.jam_parser.proofs.simple.tail.Goals as goal

-- a list follows on each sign
after_sign : (s : Sign) → move Tail (sign_mark s) ≡ Take (Args ∷ Key marks.Semicolon ∷ [])
after_sign signs.Set = refl
after_sign signs.Add = refl
after_sign signs.Fill = refl

none_open : (n : ℕ) → n ≡ 0 + (0 + n)
none_open n = omega arith

abbrev lists : List Part
lists = Args ∷ More 8 ∷ Key marks.Semicolon ∷ []

-- where neither `on` nor a sign stands, the lists of a call come
lists_come : (left : List Token) (d : ℕ) → starts_with marks.On left ≡ false → starts_sign left ≡ false → ComesTo (Tail ∷ []) lists left d [] left
lists_come left d no_on no_sign = turned (Tail ∷ []) lists left d (omega arith) (come left no_on no_sign)
  where
    same : (k : List Part) (m : TokenMark) → same_mark marks.On m ≡ false → is_sign m ≡ false → feed (Tail ∷ k) m ≡ feed (Args ∷ More 8 ∷ Key marks.Semicolon ∷ k) m
    same k marks.On no_on no_sign = cc
    same k marks.Equals no_on no_sign = cc
    same k marks.PlusEquals no_on no_sign = cc
    same k marks.QueryEquals no_on no_sign = cc
    same k marks.SquareOpen no_on no_sign = ap (λ n. if nat_le (1 + n) 64 then Some (OneInner ∷ Key marks.SquareClose ∷ Args ∷ More 8 ∷ Key marks.Semicolon ∷ k) else None) (none_open (opens k))
    same k _ no_on no_sign = refl

    come : (left : List Token) → starts_with marks.On left ≡ false → starts_sign left ≡ false → Leads (Tail ∷ []) left d lists left
    come [] no_on no_sign k o = refl
    come (t ∷ ts) no_on no_sign k o = ap (λ x. go_on x (run ts) (t ∷ ts)) (same k (mark_of_token t) no_on no_sign)

pub returns-in-None-sign_here : goal.returns-in-None-sign_here
returns-in-None-sign_here c =
    let d = c.args.depth in
    let come = lists_come c.args.rest.now d c.in-None.ensures c.in-None-sign_here.ensures in
    MatchResult-weaker c.call.result c.call.ensures
    (λ r h. record { syms = h.syms; whole = h.whole; comes = then_all (Tail ∷ []) lists d come h.comes })
    (λ e h. then_fault (Tail ∷ []) lists d e come h)

pub returns-in-Some : goal.returns-in-Some
returns-in-Some c =
    let at = c.in-Some in
    let d = c.args.depth in
    let rest = c.args.rest.now in
    MatchResult-weaker c.assign_on.result c.assign_on.ensures
    (λ r h. continued Tail (Args ∷ Assigned ∷ []) marks.On (arg_syms c.args.head) (form_syms r.0) rest at.after.now r.1.now d at.ensures refl h)
    (λ e h. then_fault (Tail ∷ []) (Args ∷ Assigned ∷ []) d e (takes_past Tail (Args ∷ Assigned ∷ []) marks.On rest at.after.now d at.ensures refl) h)

pub returns-in-Some-sign_here : goal.returns-in-Some-sign_here
returns-in-Some-sign_here c =
    let at = c.in-Some-sign_here in
    let d = c.args.depth in
    let rest = c.args.rest.now in
    let list = Args ∷ Key marks.Semicolon ∷ [] in
    MatchResult-weaker c.assign.result c.assign.ensures
    (λ r h. continued Tail list (sign_mark at.sign) (arg_syms c.args.head) (form_syms r.0) rest at.after.now r.1.now d at.ensures (after_sign at.sign) h)
    (λ e h. then_fault (Tail ∷ []) list d e (takes_past Tail list (sign_mark at.sign) rest at.after.now d at.ensures (after_sign at.sign)) h)
