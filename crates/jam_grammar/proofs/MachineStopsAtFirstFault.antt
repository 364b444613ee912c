-- Where the machine stops is the first token with which no file goes on so.
use Rattle.std.proofs.Common.{◌≡◌, ℕ, ◌⊎◌, inl, inr, List, [], ◌∷◌, ◌++◌, Bool, true, false, Option, Some, None, refl, sym, ap, ◌∙◌, subst, append_assoc, arith}
use Rattle.std.proofs.lemmas.List.{append-nil}
use Rattle.b2_base.specs.declared.token.Token.{Token}
use Rattle.jam_grammar.specs.declared.mark.TokenMark.{TokenMark}
use Rattle.jam_grammar.specs.Marks.{mark_of_token}
use Rattle.jam_grammar.specs.Grammar.{Part, Stmts, Derives, IsFile, Begins}
use Rattle.jam_grammar.specs.Grammar as g
use Rattle.jam_grammar.specs.Machine.{Outcome, Whole, Bad, ended, go_on, run, feed, may_end}
use Rattle.jam_grammar.specs.Readings.{marks, Stops, line_at, text_at, IsFirstFaultAt, IsFirstFault}
use Rattle.jam_grammar.specs.Laws.{FileOrFault, NeverBoth, OneFault, WholeIsFile, FileIsWhole, BadIsFault, FaultIsBad}
use Rattle.jam_grammar.proofs.WhatIsReadHasRoom.{HasRoom, keeps}
use Rattle.jam_grammar.proofs.GrammarOfMachine.{step, finish}
use Rattle.jam_grammar.proofs.MachineReadsGrammar.{and_then, accepts, IsClear, complete}

-- the parts that are left are not read from the tokens that are left
abbrev Stuck : List Part → List Token → Type 0
Stuck left [] = may_end left ≡ false
Stuck left (token ∷ tokens) = feed left (mark_of_token token) ≡ None

record Found (tokens at : List Token) (parts : List Part) : Type 0 where
  prefix : List Token
  split : tokens ≡ prefix ++ at
  left : List Part
  room : HasRoom left
  back : (ms : List TokenMark) → Derives left ms → Derives parts (marks prefix ++ ms)
  forth : (ms : List TokenMark) → accepts (marks prefix ++ ms) parts ≡ accepts ms left
  stuck : Stuck left at

found : (tokens at : List Token) (parts : List Part) → HasRoom parts → run tokens parts ≡ Bad at → Found tokens at parts
found [] at parts r h = by (may_end parts) refl h
  where
    by : (b : Bool) → may_end parts ≡ b → ended b ≡ Bad at → Found [] at parts
    by true e h = cc
    by false e h =
        let nil : [] ≡ at = cc in
        record { prefix = []; split = nil; left = parts; room = r; back = λ ms d. d; forth = λ ms. refl; stuck = subst (Stuck parts) nil e }
found (t ∷ tokens) at parts r h = by (feed parts (mark_of_token t)) refl h (λ next room h. found tokens at next room h)
  where
    by : (o : Option (List Part)) → feed parts (mark_of_token t) ≡ o → go_on o (run tokens) (t ∷ tokens) ≡ Bad at → ((next : List Part) → HasRoom next → run tokens next ≡ Bad at → Found tokens at next) → Found (t ∷ tokens) at parts
    by None e h again =
        let here : t ∷ tokens ≡ at = cc in
        record { prefix = []; split = here; left = parts; room = r; back = λ ms d. d; forth = λ ms. refl; stuck = subst (Stuck parts) here e }
    by (Some next) e h again =
        let f = again next (keeps parts (mark_of_token t) next e r) h in
        record {
          prefix = t ∷ f.prefix;
          split = ap (λ x. t ∷ x) f.split;
          left = f.left;
          room = f.room;
          back = λ ms d. step parts (mark_of_token t) next (marks f.prefix ++ ms) e r (f.back ms d);
          forth = λ ms. ap (λ o. and_then o (accepts (marks f.prefix ++ ms))) e ∙ f.forth ms;
          stuck = f.stuck;
        }

pub clear : IsClear (Stmts ∷ [])
clear = (λ mark h. refl, tt)

pub has_room : HasRoom (Stmts ∷ [])
has_room = (omega arith, tt)

stops : (at : List Token) (tokens : List Token) (f : Found tokens at (Stmts ∷ [])) → Stops f.prefix at
stops [] tokens f = λ d.
    let whole = subst (λ x. accepts x (Stmts ∷ []) ≡ true) (sym (append-nil (marks f.prefix))) (complete d clear) in
    let clash : false ≡ true = sym f.stuck ∙ sym (f.forth []) ∙ whole in
    cc
stops (t ∷ at) tokens f = λ d.
    let m = mark_of_token t in
    let whole = subst (λ x. accepts x (Stmts ∷ []) ≡ true) (append_assoc (marks f.prefix) (m ∷ []) d.0) (complete d.1 clear) in
    let clash : false ≡ true = ap (λ o. and_then o (accepts d.0)) (sym f.stuck) ∙ sym (f.forth (m ∷ d.0)) ∙ whole in
    cc

pub first_fault : BadIsFault
first_fault tokens at h =
    let f = found tokens at (Stmts ∷ []) has_room h in
    let end = finish f.left f.room in
    record { prefix = f.prefix; split = f.split; begins = (end.0, f.back end.0 end.1); stops = stops at tokens f }

-- all was read
pub ends_whole : (parts : List Part) → HasRoom parts → may_end parts ≡ true → Derives parts []
ends_whole [] r h = g.nothing
ends_whole (g.Shut ∷ k) r h = g.shut r.0 (ends_whole k r.1 h)
ends_whole (g.Stmts ∷ k) r h = g.by_line g.no_stmt (ends_whole k r.1 h)
ends_whole (g.OneElse ∷ k) r h = g.by_line g.no_else (ends_whole k r.1 h)
ends_whole (g.Cases ∷ k) r h = g.by_line g.no_case (ends_whole k r.1 h)
ends_whole (g.Headed t e q ∷ k) r h = g.by_line g.no_word (ends_whole k r.1 h)
ends_whole (g.Params ∷ k) r h = g.by_line g.a_list (g.by_line g.no_name (g.by_line g.no_more_params (ends_whole k r.1 h)))
ends_whole (g.MoreParams ∷ k) r h = g.by_line g.no_more_params (ends_whole k r.1 h)
ends_whole (g.Names ∷ k) r h = g.by_line g.no_name (ends_whole k r.1 h)
ends_whole (g.NameTail ∷ k) r h = g.by_line g.unmarked (g.by_line g.no_name (ends_whole k r.1 h))
ends_whole (g.Args ∷ k) r h = g.by_line g.no_arg (ends_whole k r.1 h)
ends_whole (g.More n ∷ k) r h = g.by_line g.no_list (ends_whole k r.1 h)
ends_whole (g.OrTail ∷ k) r h = g.by_line g.no_or (ends_whole k r.1 h)
ends_whole (g.AndTail ∷ k) r h = g.by_line g.no_and (ends_whole k r.1 h)
ends_whole (g.Compared ∷ k) r h = g.by_line g.bare (ends_whole k r.1 h)
ends_whole (_ ∷ k) r h = cc

run_derives : (tokens : List Token) (parts : List Part) → HasRoom parts → run tokens parts ≡ Whole → Derives parts (marks tokens)
run_derives [] parts r h = by (may_end parts) refl h
  where
    by : (b : Bool) → may_end parts ≡ b → ended b ≡ Whole → Derives parts []
    by true e h = ends_whole parts r e
    by false e h = cc
run_derives (t ∷ tokens) parts r h = by (feed parts (mark_of_token t)) refl h (run_derives tokens)
  where
    by : (o : Option (List Part)) → feed parts (mark_of_token t) ≡ o → go_on o (run tokens) (t ∷ tokens) ≡ Whole → ((next : List Part) → HasRoom next → run tokens next ≡ Whole → Derives next (marks tokens)) → Derives parts (mark_of_token t ∷ marks tokens)
    by None e h again = cc
    by (Some next) e h again = step parts (mark_of_token t) next (marks tokens) e r (again next (keeps parts (mark_of_token t) next e r) h)

pub whole_is_file : WholeIsFile
whole_is_file tokens h = run_derives tokens (Stmts ∷ []) has_room h

-- a fault as it is told
pub told_fault : (tokens at : List Token) → IsFirstFaultAt tokens at → IsFirstFault tokens (line_at tokens at) (text_at at)
told_fault tokens at f = record { at = at; is = f; line_is = refl; found_is = refl }

pub file_or_fault : FileOrFault
file_or_fault tokens = by (run tokens (Stmts ∷ [])) refl
  where
    by : (o : Outcome) → run tokens (Stmts ∷ []) ≡ o → IsFile (marks tokens) ⊎ ((line : ℕ) × ((text : List ℕ) × IsFirstFault tokens line text))
    by Whole e = inl (whole_is_file tokens e)
    by (Bad at) e = inr (line_at tokens at, (text_at at, told_fault tokens at (first_fault tokens at e)))

-- a file begins as each of its beginnings does
marks_append : (a b : List Token) → marks (a ++ b) ≡ marks a ++ marks b
marks_append [] b = refl
marks_append (t ∷ a) b = ap (λ x. mark_of_token t ∷ x) (marks_append a b)

begins_earlier : (a b : List TokenMark) → Begins (a ++ b) → Begins a
begins_earlier a b d = (b ++ d.0, subst IsFile (append_assoc a b d.0) d.1)

file_begins : (a : List TokenMark) → IsFile a → Begins a
file_begins a d = ([], subst IsFile (sym (append-nil a)) d)

begins_on : (prefix : List Token) (t : Token) (more : List Token) → Begins (marks (prefix ++ t ∷ more)) → Begins (marks prefix ++ mark_of_token t ∷ [])
begins_on prefix t more d =
    begins_earlier (marks prefix ++ mark_of_token t ∷ []) (marks more) (subst Begins (marks_append prefix (t ∷ more) ∙ sym (append_assoc (marks prefix) (mark_of_token t ∷ []) (marks more))) d)

not_both : (tokens at : List Token) → IsFile (marks tokens) → ¬ IsFirstFaultAt tokens at
not_both tokens [] d = λ f. f.stops (subst (λ x. IsFile (marks x)) (f.split ∙ append-nil f.prefix) d)
not_both tokens (t ∷ at) d = λ f. f.stops (begins_on f.prefix t at (file_begins _ (subst (λ x. IsFile (marks x)) f.split d)))

pub never_both : NeverBoth
never_both tokens line text d = λ f. not_both tokens f.at d f.is

-- of two beginnings of a list one begins the other
abbrev Before : List Token → List Token → List Token → List Token → Type 0
Before a b c d = (x : List Token) × (c ≡ a ++ x) × (b ≡ x ++ d)

compare : (a b c d : List Token) → a ++ b ≡ c ++ d → Before a b c d ⊎ Before c d a b
compare [] b c d e = inl (c, refl, e)
compare (t ∷ a) b [] d e = inr (t ∷ a, refl, sym e)
compare (t ∷ a) b (u ∷ c) d e =
    let same : t ≡ u = cc in
    let rest : a ++ b ≡ c ++ d = cc in
    further same (compare a b c d rest)
  where
    further : t ≡ u → Before a b c d ⊎ Before c d a b → Before (t ∷ a) b (u ∷ c) d ⊎ Before (u ∷ c) d (t ∷ a) b
    further same (inl q) = inl (q.0, (ap (λ x. x ∷ c) (sym same) ∙ ap (λ x. t ∷ x) q.1), q.2)
    further same (inr q) = inr (q.0, (ap (λ x. x ∷ a) same ∙ ap (λ x. u ∷ x) q.1), q.2)

-- a fault is not before another
not_before : (tokens at other : List Token) (f : IsFirstFaultAt tokens at) (g : IsFirstFaultAt tokens other) → Before f.prefix at g.prefix other → at ≡ other
not_before tokens at other f g q = by q.0 q.1 q.2
  where
    by : (x : List Token) → g.prefix ≡ f.prefix ++ x → at ≡ x ++ other → at ≡ other
    by [] e h = h
    by (t ∷ x) e h =
        let on = begins_on f.prefix t x (subst (λ y. Begins (marks y)) e g.begins) in
        absurd (subst (Stops f.prefix) h f.stops on)

pub one_fault : OneFault
one_fault tokens at other f g = by (compare f.prefix at g.prefix other (sym f.split ∙ g.split))
  where
    by : Before f.prefix at g.prefix other ⊎ Before g.prefix other f.prefix at → at ≡ other
    by (inl q) = not_before tokens at other f g q
    by (inr q) = sym (not_before tokens other at g f q)

pub file_is_whole : FileIsWhole
file_is_whole tokens d = by (run tokens (Stmts ∷ [])) refl
  where
    by : (o : Outcome) → run tokens (Stmts ∷ []) ≡ o → run tokens (Stmts ∷ []) ≡ Whole
    by Whole e = e
    by (Bad at) e = absurd (not_both tokens at d (first_fault tokens at e))

pub fault_is_bad : FaultIsBad
fault_is_bad tokens at f = by (run tokens (Stmts ∷ [])) refl
  where
    by : (o : Outcome) → run tokens (Stmts ∷ []) ≡ o → run tokens (Stmts ∷ []) ≡ Bad at
    by Whole e = absurd (not_both tokens at (whole_is_file tokens e) f)
    by (Bad other) e = e ∙ ap Bad (one_fault tokens other at (first_fault tokens other e) f)
