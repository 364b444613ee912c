use Rattle.std.proofs.Common.{◌≡◌, ◌∙◌, ℕ, true, false, List, Option, Ok, Err, refl, sym, ap, subst}
use Rattle.std.specs.Option.{option_copied}
use Rattle.std.proofs.lemmas.Bool.{true≢false}
use Rattle.std.proofs.lemmas.Result.{err_from_is_err_and}
use Rattle.b2_host.specs.Disks.{Disk}
use Rattle.b2_log.specs.declared.line.Record.{Record}
use Rattle.b2_log.specs.declared.line.LogLine.TheVariants as lines
use Rattle.b2_log.specs.Good.{IsProper}
use Rattle.b2_log.specs.Finding.{find_record}
use Rattle.b2_verdicts.specs.declared.point.Point.{Point}
use Rattle.b2_verdicts.specs.Points.{IsPoint}
use Rattle.b2_verdicts.specs.VerdictCalls.{IsOfStep, LastTellsUnless, Always, Asks}
use Rattle.b2_verdicts.specs.Digested.{AreFound}
use Rattle.b2_verdicts.proofs.WhatIsKnownStays.{numbers_stay, stands_asked}
use Rattle.b2_looks.specs.Judging.{JudgeTold}
use Rattle.b2_looks.proofs.FilesAreNumbered.{number_among}
use Rattle.b2_looks.proofs.LooksAreKept.{includes_then, rising_grows}
use Rattle.b2_looks.proofs.FilesAreLookedAt.{looks_asked, looks_err, looks_ok, looks_then}
use Rattle.b2_looks.proofs.JudgementEnds.{judge_stopped, judge_stale, judge_fresh, judge_migrated, some_point, no_point, fresh_is_open, if_copied, not_true, not_false}
use Rattle.b2_looks.proofs.StaleStepIsFound.{stale_found, stale_stopped}
use Rattle.b2_looks.proofs.looks.is_fresh.Goals as goal

pub verdict-requires-clause-outs : goal.verdict-requires-clause-outs
verdict-requires-clause-outs g c = c.requires.outs

pub verdict-requires-clause-ins : goal.verdict-requires-clause-ins
verdict-requires-clause-ins g c = c.requires.ins

pub verdict-requires-clause-proper : goal.verdict-requires-clause-proper
verdict-requires-clause-proper g c = if_copied (λ (found : Record). IsProper (lines.Record found)) c.record-last.result c.record-last.ensures.proper

pub returns-in_err-point-clause-looks : goal.returns-in_err-point-clause-looks
returns-in_err-point-clause-looks g c steps roots =
    let (y, e, q) = err_from_is_err_and c.from_residual.result c.from_residual.ensures.1 in
    let stop = c.in_err-point.field-0.0 in
    let s = c.args.sights.now in
    let t = record s { facts = c.verdict.new.facts } in
    let P = IsOfStep c.args.numbers.now in
    looks_err steps roots P s t (g.F.Files.outside c.args.files.now) (g.F.Files.outside c.verdict.new.files) stop c.from_residual.result (e ∙ ap Err q)
    (looks_asked steps roots P (LastTellsUnless c.args.way.all (option_copied c.record-last.result)) s t (g.F.Files.outside c.args.files.now) (g.F.Files.outside c.verdict.new.files) (Err stop) refl c.in_err-point.ensures.asks)

pub returns-in_err-point-clause-includes : goal.returns-in_err-point-clause-includes
returns-in_err-point-clause-includes g c = c.in_err-point.ensures.asks.learns.includes

pub returns-in_err-point-clause-told : goal.returns-in_err-point-clause-told
returns-in_err-point-clause-told g c =
    let (y, e, q) = err_from_is_err_and c.from_residual.result c.from_residual.ensures.1 in
    let stop = c.in_err-point.field-0.0 in
    let s = c.args.sights.now in
    let t = record s { facts = c.verdict.new.facts } in
    let a = g.F.Files.outside c.args.files.now in
    let b = g.F.Files.outside c.verdict.new.files in
    let last = option_copied c.record-last.result in
    let found : find_record c.args.step.now.outs s.journal ≡ last = ap (λ (os : List (List ℕ)). find_record os s.journal) (sym c.as_slice.ensures) ∙ sym c.record-last.ensures.exact in
    subst (JudgeTold c.args.way c.args.step.now c.args.numbers.now a s b t) (sym (e ∙ ap Err q)) (judge_stopped c.args.way c.args.step.now c.args.numbers.now last a b s t stop c.in_err-point.ensures.asks c.in_err-point.ensures.unread c.in_err-point.ensures.big found refl refl)

pub find_inputs-requires : goal.find_inputs-requires
find_inputs-requires g c = numbers_stay c.args.sights.now.facts c.verdict.new.facts c.args.numbers.now.ins (c.in_ok-point.ensures.asks.learns.learns c.requires.about.0 c.requires.about.1).grows c.requires.ins

pub returns-in_err-find_inputs-clause-looks : goal.returns-in_err-find_inputs-clause-looks
returns-in_err-find_inputs-clause-looks g c steps roots =
    let (y, e, q) = err_from_is_err_and c.from_residual-in_err-find_inputs.result c.from_residual-in_err-find_inputs.ensures.1 in
    let stop = c.in_err-find_inputs.field-0.0 in
    let s = c.args.sights.now in
    let t = record s { facts = c.verdict.new.facts } in
    let v = record s { facts = c.find_inputs.new.facts } in
    let a = g.F.Files.outside c.args.files.now in
    let b = g.F.Files.outside c.verdict.new.files in
    let d = g.F.Files.outside c.find_inputs.new.files in
    let P = IsOfStep c.args.numbers.now in
    looks_err steps roots P s v a d stop c.from_residual-in_err-find_inputs.result (e ∙ ap Err q)
    (looks_then steps roots P s t v a b d c.in_ok-point.point (Err stop) (looks_asked steps roots P (LastTellsUnless c.args.way.all (option_copied c.record-last.result)) s t a b (Ok c.in_ok-point.point) refl c.in_ok-point.ensures.asks)
    (looks_asked steps roots P Always t v b d (Err stop) refl c.in_err-find_inputs.ensures.asks))

pub returns-in_err-find_inputs-clause-includes : goal.returns-in_err-find_inputs-clause-includes
returns-in_err-find_inputs-clause-includes g c = includes_then c.args.sights.now.facts c.verdict.new.facts c.find_inputs.new.facts (c.in_ok-point.ensures.asks.learns.learns c.requires.about.0 c.requires.about.1).grows c.in_ok-point.ensures.asks.learns.includes c.in_err-find_inputs.ensures.asks.learns.includes

pub returns-in_err-find_inputs-clause-told : goal.returns-in_err-find_inputs-clause-told
returns-in_err-find_inputs-clause-told g c =
    let (y, e, q) = err_from_is_err_and c.from_residual-in_err-find_inputs.result c.from_residual-in_err-find_inputs.ensures.1 in
    let stop = c.in_err-find_inputs.field-0.0 in
    let s = c.args.sights.now in
    let t = record s { facts = c.verdict.new.facts } in
    let v = record s { facts = c.find_inputs.new.facts } in
    let a = g.F.Files.outside c.args.files.now in
    let b = g.F.Files.outside c.verdict.new.files in
    let d = g.F.Files.outside c.find_inputs.new.files in
    let last = option_copied c.record-last.result in
    let found : find_record c.args.step.now.outs s.journal ≡ last = ap (λ (os : List (List ℕ)). find_record os s.journal) (sym c.as_slice.ensures) ∙ sym c.record-last.ensures.exact in
    let (p, is) = some_point c.in_ok-point.point (sym c.if-is_some.ensures) in
    let judged = judge_stale c.args.way c.args.step.now c.args.numbers.now last a b s t p
    (subst (λ (q : Option Point). Asks (IsOfStep c.args.numbers.now) (LastTellsUnless c.args.way.all last) s.facts t.facts a b (Ok q)) is c.in_ok-point.ensures.asks) c.in_ok-point.ensures.unread
    (subst (IsPoint a.disk c.args.way c.args.step.now c.args.numbers.now last t.facts) is c.in_ok-point.ensures.exact) found refl refl in
    subst (JudgeTold c.args.way c.args.step.now c.args.numbers.now a s d v) (sym (e ∙ ap Err q))
    (stale_stopped {T = Unit {0}} c.args.way c.args.step.now c.args.numbers.now a b d s t v stop judged c.in_ok-point.ensures.asks.learns.learns c.in_err-find_inputs.ensures.asks c.in_err-find_inputs.ensures.unread c.in_err-find_inputs.ensures.only
    c.in_ok-point.ensures.asks.effect.files refl refl refl)

pub returns-then-is_some-clause-looks : goal.returns-then-is_some-clause-looks
returns-then-is_some-clause-looks g c steps roots =
    let s = c.args.sights.now in
    let t = record s { facts = c.verdict.new.facts } in
    let v = record s { facts = c.find_inputs.new.facts } in
    let a = g.F.Files.outside c.args.files.now in
    let b = g.F.Files.outside c.verdict.new.files in
    let d = g.F.Files.outside c.find_inputs.new.files in
    let P = IsOfStep c.args.numbers.now in
    looks_ok steps roots P s v a d (tt {0}) false
    (looks_then steps roots P s t v a b d c.in_ok-point.point (Ok (tt {0})) (looks_asked steps roots P (LastTellsUnless c.args.way.all (option_copied c.record-last.result)) s t a b (Ok c.in_ok-point.point) refl c.in_ok-point.ensures.asks)
    (looks_asked steps roots P Always t v b d (Ok (tt {0})) refl c.in_ok-find_inputs.ensures.asks))

pub returns-then-is_some-clause-includes : goal.returns-then-is_some-clause-includes
returns-then-is_some-clause-includes g c = includes_then c.args.sights.now.facts c.verdict.new.facts c.find_inputs.new.facts (c.in_ok-point.ensures.asks.learns.learns c.requires.about.0 c.requires.about.1).grows c.in_ok-point.ensures.asks.learns.includes c.in_ok-find_inputs.ensures.asks.learns.includes

pub returns-then-is_some-clause-found : goal.returns-then-is_some-clause-found
returns-then-is_some-clause-found g c = λ e owes. subst (λ (o : Option Disk). AreFound c.args.way.by_digest o c.find_inputs.new.facts c.args.numbers.now.ins) c.in_ok-point.ensures.asks.effect.files (c.in_ok-find_inputs.ensures.found owes)

pub returns-then-is_some-clause-told : goal.returns-then-is_some-clause-told
returns-then-is_some-clause-told g c =
    let s = c.args.sights.now in
    let t = record s { facts = c.verdict.new.facts } in
    let v = record s { facts = c.find_inputs.new.facts } in
    let a = g.F.Files.outside c.args.files.now in
    let b = g.F.Files.outside c.verdict.new.files in
    let d = g.F.Files.outside c.find_inputs.new.files in
    let last = option_copied c.record-last.result in
    let found : find_record c.args.step.now.outs s.journal ≡ last = ap (λ (os : List (List ℕ)). find_record os s.journal) (sym c.as_slice.ensures) ∙ sym c.record-last.ensures.exact in
    let (p, is) = some_point c.in_ok-point.point (sym c.if-is_some.ensures) in
    let judged = judge_stale c.args.way c.args.step.now c.args.numbers.now last a b s t p
    (subst (λ (q : Option Point). Asks (IsOfStep c.args.numbers.now) (LastTellsUnless c.args.way.all last) s.facts t.facts a b (Ok q)) is c.in_ok-point.ensures.asks) c.in_ok-point.ensures.unread
    (subst (IsPoint a.disk c.args.way c.args.step.now c.args.numbers.now last t.facts) is c.in_ok-point.ensures.exact) found refl refl in
    stale_found {T = Unit {0}} c.args.way c.args.step.now c.args.numbers.now a b d s t v (tt {0}) judged c.in_ok-point.ensures.asks.learns.learns c.in_ok-find_inputs.ensures.asks c.in_ok-find_inputs.ensures.unread
    c.in_ok-point.ensures.asks.effect.files refl refl refl

pub returns-then-not-way-clause-found : goal.returns-then-not-way-clause-found
returns-then-not-way-clause-found g c = λ e. absurd (true≢false e)

pub returns-clause-found : goal.returns-clause-found
returns-clause-found g c = λ e. absurd (true≢false e)

pub returns-then-not-way-clause-looks : goal.returns-then-not-way-clause-looks
returns-then-not-way-clause-looks g c steps roots =
    let s = c.args.sights.now in
    let t = record s { facts = c.verdict.new.facts } in
    let P = IsOfStep c.args.numbers.now in
    looks_ok steps roots P s t (g.F.Files.outside c.args.files.now) (g.F.Files.outside c.verdict.new.files) c.in_ok-point.point true
    (looks_asked steps roots P (LastTellsUnless c.args.way.all (option_copied c.record-last.result)) s t (g.F.Files.outside c.args.files.now) (g.F.Files.outside c.verdict.new.files) (Ok c.in_ok-point.point) refl c.in_ok-point.ensures.asks)

pub returns-then-not-way-clause-includes : goal.returns-then-not-way-clause-includes
returns-then-not-way-clause-includes g c = c.in_ok-point.ensures.asks.learns.includes

pub returns-then-not-way-clause-told : goal.returns-then-not-way-clause-told
returns-then-not-way-clause-told g c =
    let s = c.args.sights.now in
    let t = record s { facts = c.verdict.new.facts } in
    let a = g.F.Files.outside c.args.files.now in
    let b = g.F.Files.outside c.verdict.new.files in
    let last = option_copied c.record-last.result in
    let found : find_record c.args.step.now.outs s.journal ≡ last = ap (λ (os : List (List ℕ)). find_record os s.journal) (sym c.as_slice.ensures) ∙ sym c.record-last.ensures.exact in
    let is = no_point c.in_ok-point.point (sym c.if-is_some.ensures) in
    judge_fresh c.args.way c.args.step.now c.args.numbers.now last a b s t
    (subst (λ (q : Option Point). Asks (IsOfStep c.args.numbers.now) (LastTellsUnless c.args.way.all last) s.facts t.facts a b (Ok q)) is c.in_ok-point.ensures.asks) c.in_ok-point.ensures.unread
    (subst (IsPoint a.disk c.args.way c.args.step.now c.args.numbers.now last t.facts) is c.in_ok-point.ensures.exact) (not_true c.args.way.by_digest c.if-not-way.true) found refl refl

pub migrate-requires-clause-outs : goal.migrate-requires-clause-outs
migrate-requires-clause-outs g c = numbers_stay c.args.sights.now.facts c.verdict.new.facts c.args.numbers.now.outs (c.in_ok-point.ensures.asks.learns.learns c.requires.about.0 c.requires.about.1).grows c.requires.outs

pub migrate-requires-clause-ins : goal.migrate-requires-clause-ins
migrate-requires-clause-ins g c = numbers_stay c.args.sights.now.facts c.verdict.new.facts c.args.numbers.now.ins (c.in_ok-point.ensures.asks.learns.learns c.requires.about.0 c.requires.about.1).grows c.requires.ins

pub migrate-requires-clause-some_out : goal.migrate-requires-clause-some_out
migrate-requires-clause-some_out g c = c.requires.some_out

pub migrate-requires-clause-rising : goal.migrate-requires-clause-rising
migrate-requires-clause-rising g c = rising_grows c.args.sights.now.facts c.verdict.new.facts c.args.numbers.now.ins (c.in_ok-point.ensures.asks.learns.learns c.requires.about.0 c.requires.about.1).grows (number_among c.args.sights.now.facts c.args.numbers.now.ins c.requires.ins) c.requires.rising

pub migrate-requires-clause-about : goal.migrate-requires-clause-about
migrate-requires-clause-about g c = (c.requires.about.0, c.requires.about.1, (c.in_ok-point.ensures.asks.learns.learns c.requires.about.0 c.requires.about.1).about c.requires.about.2)

pub migrate-requires-clause-asked_outs : goal.migrate-requires-clause-asked_outs
migrate-requires-clause-asked_outs g c =
    let a = g.F.Files.outside c.args.files.now in
    let last = option_copied c.record-last.result in
    let is = no_point c.in_ok-point.point (sym c.if-is_some.ensures) in
    let open_to = fresh_is_open c.args.way.by_digest c.args.way.all a.disk c.args.step.now c.args.numbers.now last c.verdict.new.facts (not_false c.args.way.by_digest c.if-not-way.false) (subst (IsPoint a.disk c.args.way c.args.step.now c.args.numbers.now last c.verdict.new.facts) is c.in_ok-point.ensures.exact) in
    stands_asked c.verdict.new.facts c.args.numbers.now.outs open_to.has_outputs.stand

pub migrate-requires-clause-asked_ins : goal.migrate-requires-clause-asked_ins
migrate-requires-clause-asked_ins g c =
    let a = g.F.Files.outside c.args.files.now in
    let last = option_copied c.record-last.result in
    let is = no_point c.in_ok-point.point (sym c.if-is_some.ensures) in
    (fresh_is_open c.args.way.by_digest c.args.way.all a.disk c.args.step.now c.args.numbers.now last c.verdict.new.facts (not_false c.args.way.by_digest c.if-not-way.false) (subst (IsPoint a.disk c.args.way c.args.step.now c.args.numbers.now last c.verdict.new.facts) is c.in_ok-point.ensures.exact)).asked

pub returns-in_err-migrate-clause-looks : goal.returns-in_err-migrate-clause-looks
returns-in_err-migrate-clause-looks g c steps roots =
    let (y, e, q) = err_from_is_err_and c.from_residual-in_err-migrate.result c.from_residual-in_err-migrate.ensures.1 in
    let stop = c.in_err-migrate.field-0.0 in
    let s = c.args.sights.now in
    let t = record s { facts = c.verdict.new.facts } in
    let w = c.migrate.new.sights in
    let a = g.F.Files.outside c.args.files.now in
    let b = g.F.Files.outside c.verdict.new.files in
    let d = g.F.Files.outside c.migrate.new.files in
    let P = IsOfStep c.args.numbers.now in
    looks_err steps roots P s w a d stop c.from_residual-in_err-migrate.result (e ∙ ap Err q)
    (looks_then steps roots P s t w a b d c.in_ok-point.point (Err stop) (looks_asked steps roots P (LastTellsUnless c.args.way.all (option_copied c.record-last.result)) s t a b (Ok c.in_ok-point.point) refl c.in_ok-point.ensures.asks) (c.in_err-migrate.ensures.looks steps roots))

pub returns-in_err-migrate-clause-includes : goal.returns-in_err-migrate-clause-includes
returns-in_err-migrate-clause-includes g c = includes_then c.args.sights.now.facts c.verdict.new.facts c.migrate.new.sights.facts (c.in_ok-point.ensures.asks.learns.learns c.requires.about.0 c.requires.about.1).grows c.in_ok-point.ensures.asks.learns.includes c.in_err-migrate.ensures.includes

pub returns-in_err-migrate-clause-told : goal.returns-in_err-migrate-clause-told
returns-in_err-migrate-clause-told g c =
    let (y, e, q) = err_from_is_err_and c.from_residual-in_err-migrate.result c.from_residual-in_err-migrate.ensures.1 in
    let stop = c.in_err-migrate.field-0.0 in
    let s = c.args.sights.now in
    let t = record s { facts = c.verdict.new.facts } in
    let w = c.migrate.new.sights in
    let a = g.F.Files.outside c.args.files.now in
    let b = g.F.Files.outside c.verdict.new.files in
    let d = g.F.Files.outside c.migrate.new.files in
    let last = option_copied c.record-last.result in
    let found : find_record c.args.step.now.outs s.journal ≡ last = ap (λ (os : List (List ℕ)). find_record os s.journal) (sym c.as_slice.ensures) ∙ sym c.record-last.ensures.exact in
    let is = no_point c.in_ok-point.point (sym c.if-is_some.ensures) in
    judge_migrated c.args.way c.args.step.now c.args.numbers.now last a b d s t w (Err stop) c.from_residual-in_err-migrate.result
    (subst (λ (q : Option Point). Asks (IsOfStep c.args.numbers.now) (LastTellsUnless c.args.way.all last) s.facts t.facts a b (Ok q)) is c.in_ok-point.ensures.asks) c.in_ok-point.ensures.unread
    (subst (IsPoint a.disk c.args.way c.args.step.now c.args.numbers.now last t.facts) is c.in_ok-point.ensures.exact) (not_false c.args.way.by_digest c.if-not-way.false) found refl refl c.in_err-migrate.ensures.told (e ∙ ap Err q)

pub returns-clause-looks : goal.returns-clause-looks
returns-clause-looks g c steps roots =
    let s = c.args.sights.now in
    let t = record s { facts = c.verdict.new.facts } in
    let w = c.migrate.new.sights in
    let a = g.F.Files.outside c.args.files.now in
    let b = g.F.Files.outside c.verdict.new.files in
    let d = g.F.Files.outside c.migrate.new.files in
    let P = IsOfStep c.args.numbers.now in
    looks_then steps roots P s t w a b d c.in_ok-point.point (Ok true) (looks_asked steps roots P (LastTellsUnless c.args.way.all (option_copied c.record-last.result)) s t a b (Ok c.in_ok-point.point) refl c.in_ok-point.ensures.asks)
    (looks_ok steps roots P t w b d tt true (c.in_ok-migrate.ensures.looks steps roots))

pub returns-clause-includes : goal.returns-clause-includes
returns-clause-includes g c = includes_then c.args.sights.now.facts c.verdict.new.facts c.migrate.new.sights.facts (c.in_ok-point.ensures.asks.learns.learns c.requires.about.0 c.requires.about.1).grows c.in_ok-point.ensures.asks.learns.includes c.in_ok-migrate.ensures.includes

pub returns-clause-told : goal.returns-clause-told
returns-clause-told g c =
    let s = c.args.sights.now in
    let t = record s { facts = c.verdict.new.facts } in
    let w = c.migrate.new.sights in
    let a = g.F.Files.outside c.args.files.now in
    let b = g.F.Files.outside c.verdict.new.files in
    let d = g.F.Files.outside c.migrate.new.files in
    let last = option_copied c.record-last.result in
    let found : find_record c.args.step.now.outs s.journal ≡ last = ap (λ (os : List (List ℕ)). find_record os s.journal) (sym c.as_slice.ensures) ∙ sym c.record-last.ensures.exact in
    let is = no_point c.in_ok-point.point (sym c.if-is_some.ensures) in
    judge_migrated c.args.way c.args.step.now c.args.numbers.now last a b d s t w (Ok tt) (Ok true)
    (subst (λ (q : Option Point). Asks (IsOfStep c.args.numbers.now) (LastTellsUnless c.args.way.all last) s.facts t.facts a b (Ok q)) is c.in_ok-point.ensures.asks) c.in_ok-point.ensures.unread
    (subst (IsPoint a.disk c.args.way c.args.step.now c.args.numbers.now last t.facts) is c.in_ok-point.ensures.exact) (not_false c.args.way.by_digest c.if-not-way.false) found refl refl c.in_ok-migrate.ensures.told refl
