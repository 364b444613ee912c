use Rattle.std.proofs.Common.{◌≡◌, Bool, true, Option, Some, None, Ok, Err, sym, ap, subst, ◌∙◌, ◌⊎◌, IfNone}
use Rattle.std.specs.List.{Contains}
use Rattle.std.specs.Option.{IfSome}
use Rattle.std.proofs.lemmas.Bool.{true≢false}
use Rattle.std.proofs.lemmas.Result.{err_from_is_err_and}
use Rattle.b2_host.specs.Outside.{Outside}
use Rattle.b2_host.specs.ReadsAdded.{reads_fails}
use Rattle.b2_log.specs.declared.line.Record.{Record}
use Rattle.b2_log.specs.declared.line.Digests.{Digests}
use Rattle.b2_facts.specs.declared.stop.FilesStop.TheVariants as stops
use Rattle.b2_facts.proofs.FactsGrow.{told_map}
use Rattle.b2_verdicts.specs.Sights.{AreNumbers, AllAsked}
use Rattle.b2_verdicts.specs.VerdictCalls.{IsOfStep, Always}
use Rattle.b2_verdicts.specs.Made.{HasDigestsBy, IsMadeOf}
use Rattle.b2_verdicts.proofs.WhatIsKnownStays.{numbers_stay, all_asked_more}
use Rattle.b2_verdicts.proofs.MoreIsKnown.{knows_grows, knows_outs, knows_ins, knows_both}
use Rattle.b2_verdicts.proofs.AskingGoesOn.{asks_ok, asks_quiet, asks_behind, asks_exit, asks_memory_exit, asks_failed}
use Rattle.b2_verdicts.proofs.RecordsAreProper.{proper_made}
use Rattle.b2_verdicts.specs.Made.{IsSomeUnseen, IsSomeGone, IsWithoutFile}
use Rattle.b2_verdicts.proofs.MissingFiles.{none_map, without_unseen, without_digest}
use Rattle.b2_verdicts.proofs.OnlyDigestsAreTooBig.{too_big_if, not_too_big, too_big_for}
use Rattle.b2_verdicts.proofs.record.record_of.Goals as goal

pub ask_all-requires : goal.ask_all-requires
ask_all-requires g c = subst (AreNumbers c.args.facts.now) (sym c.as_slice.ensures) c.requires.outs

pub returns-in_err-ask_all-clause-asks : goal.returns-in_err-ask_all-clause-asks
returns-in_err-ask_all-clause-asks g c =
    let q = err_from_is_err_and c.from_residual.result c.from_residual.ensures.1 in
    asks_failed (Unit {0}) (IsOfStep c.args.numbers.now) Always c.args.facts.now c.ask_all.new.facts (g.F.Files.outside c.args.files.now) (g.F.Files.outside c.ask_all.new.files) c.in_err-ask_all.field-0.0 c.from_residual.result (q.1 ∙ ap Err q.2) c.in_err-ask_all.ensures.effect (knows_outs c.args.numbers.now c.as_slice.result.now (g.F.Files.outside c.args.files.now).disk Always c.args.facts.now c.ask_all.new.facts c.as_slice.ensures c.ask_all.ensures.learns)

pub returns-in_err-ask_all-clause-unread : goal.returns-in_err-ask_all-clause-unread
returns-in_err-ask_all-clause-unread g c = λ e. reads_fails (g.F.Files.outside c.args.files.now) (g.F.Files.outside c.ask_all.new.files) c.in_err-ask_all.ensures.effect

pub ask_all-requires-2 : goal.ask_all-requires-2
ask_all-requires-2 g c = subst (AreNumbers c.ask_all.new.facts) (sym c.as_slice-2.ensures) (numbers_stay c.args.facts.now c.ask_all.new.facts c.args.numbers.now.ins (knows_grows (Contains c.as_slice.result.now) (g.F.Files.outside c.args.files.now).disk Always c.args.facts.now c.ask_all.new.facts c.ask_all.ensures.learns) c.requires.ins)

pub returns-in_err-ask_all-2-clause-asks : goal.returns-in_err-ask_all-2-clause-asks
returns-in_err-ask_all-2-clause-asks g c =
    let q = err_from_is_err_and c.from_residual-in_err-ask_all-2.result c.from_residual-in_err-ask_all-2.ensures.1 in
    asks_behind (IsOfStep c.args.numbers.now) Always c.args.facts.now c.ask_all.new.facts c.ask_all-2.new.facts (g.F.Files.outside c.args.files.now) (g.F.Files.outside c.ask_all.new.files) (g.F.Files.outside c.ask_all-2.new.files) c.from_residual-in_err-ask_all-2.result c.in_ok-ask_all.ensures.effect (knows_outs c.args.numbers.now c.as_slice.result.now (g.F.Files.outside c.args.files.now).disk Always c.args.facts.now c.ask_all.new.facts c.as_slice.ensures c.ask_all.ensures.learns)
    (asks_failed (Unit {0}) (IsOfStep c.args.numbers.now) Always c.ask_all.new.facts c.ask_all-2.new.facts (g.F.Files.outside c.ask_all.new.files) (g.F.Files.outside c.ask_all-2.new.files) c.in_err-ask_all-2.field-0.0
    c.from_residual-in_err-ask_all-2.result (q.1 ∙ ap Err q.2) c.in_err-ask_all-2.ensures.effect
    (knows_ins c.args.numbers.now c.as_slice-2.result.now (g.F.Files.outside c.ask_all.new.files).disk Always c.ask_all.new.facts c.ask_all-2.new.facts c.as_slice-2.ensures c.ask_all-2.ensures.learns))

pub returns-in_err-ask_all-2-clause-unread : goal.returns-in_err-ask_all-2-clause-unread
returns-in_err-ask_all-2-clause-unread g c = λ e. reads_fails (g.F.Files.outside c.ask_all.new.files) (g.F.Files.outside c.ask_all-2.new.files) c.in_err-ask_all-2.ensures.effect ∙ ap (λ (o : Outside). o.reads) c.in_ok-ask_all.ensures.effect

pub record_with-requires-clause-outs : goal.record_with-requires-clause-outs
record_with-requires-clause-outs g c = numbers_stay c.args.facts.now c.ask_all-2.new.facts c.args.numbers.now.outs (knows_grows (IsOfStep c.args.numbers.now) (g.F.Files.outside c.args.files.now).disk Always
    c.args.facts.now c.ask_all-2.new.facts (knows_both c.args.numbers.now c.as_slice.result.now c.as_slice-2.result.now (g.F.Files.outside c.args.files.now) (g.F.Files.outside c.ask_all.new.files) Always c.args.facts.now c.ask_all.new.facts c.ask_all-2.new.facts c.as_slice.ensures c.as_slice-2.ensures c.in_ok-ask_all.ensures.effect c.ask_all.ensures.learns c.ask_all-2.ensures.learns))
    c.requires.outs

pub record_with-requires-clause-ins : goal.record_with-requires-clause-ins
record_with-requires-clause-ins g c = numbers_stay c.args.facts.now c.ask_all-2.new.facts c.args.numbers.now.ins (knows_grows (IsOfStep c.args.numbers.now) (g.F.Files.outside c.args.files.now).disk Always
    c.args.facts.now c.ask_all-2.new.facts (knows_both c.args.numbers.now c.as_slice.result.now c.as_slice-2.result.now (g.F.Files.outside c.args.files.now) (g.F.Files.outside c.ask_all.new.files) Always c.args.facts.now c.ask_all.new.facts c.ask_all-2.new.facts c.as_slice.ensures c.as_slice-2.ensures c.in_ok-ask_all.ensures.effect c.ask_all.ensures.learns c.ask_all-2.ensures.learns))
    c.requires.ins

pub returns-in_err-record_with-clause-asks : goal.returns-in_err-record_with-clause-asks
returns-in_err-record_with-clause-asks g c =
    let q = err_from_is_err_and c.from_residual-in_err-record_with.result c.from_residual-in_err-record_with.ensures.1 in
    asks_memory_exit {T = Unit {0}} (IsOfStep c.args.numbers.now) Always c.args.facts.now c.ask_all-2.new.facts (g.F.Files.outside c.args.files.now) (g.F.Files.outside c.ask_all-2.new.files) (tt {0})
    c.from_residual-in_err-record_with.result (q.1 ∙ ap Err q.2) (asks_quiet (IsOfStep c.args.numbers.now) Always c.args.facts.now c.ask_all-2.new.facts (g.F.Files.outside c.args.files.now)
    (g.F.Files.outside c.ask_all-2.new.files) (tt {0}) (c.in_ok-ask_all-2.ensures.effect ∙ c.in_ok-ask_all.ensures.effect)
    (knows_both c.args.numbers.now c.as_slice.result.now c.as_slice-2.result.now (g.F.Files.outside c.args.files.now) (g.F.Files.outside c.ask_all.new.files) Always c.args.facts.now c.ask_all.new.facts c.ask_all-2.new.facts c.as_slice.ensures c.as_slice-2.ensures c.in_ok-ask_all.ensures.effect c.ask_all.ensures.learns c.ask_all-2.ensures.learns))

pub returns-in_err-record_with-clause-unread : goal.returns-in_err-record_with-clause-unread
returns-in_err-record_with-clause-unread g c = λ e. ap (λ (o : Outside). o.reads) (c.in_ok-ask_all-2.ensures.effect ∙ c.in_ok-ask_all.ensures.effect)

pub returns-then-not-by_digest-clause-asks : goal.returns-then-not-by_digest-clause-asks
returns-then-not-by_digest-clause-asks g c = asks_quiet (IsOfStep c.args.numbers.now) Always c.args.facts.now c.ask_all-2.new.facts (g.F.Files.outside c.args.files.now) (g.F.Files.outside c.ask_all-2.new.files)
    c.in_ok-record_with.field-0 (c.in_ok-ask_all-2.ensures.effect ∙ c.in_ok-ask_all.ensures.effect) (knows_both c.args.numbers.now c.as_slice.result.now c.as_slice-2.result.now (g.F.Files.outside c.args.files.now)
    (g.F.Files.outside c.ask_all.new.files) Always c.args.facts.now c.ask_all.new.facts c.ask_all-2.new.facts c.as_slice.ensures c.as_slice-2.ensures c.in_ok-ask_all.ensures.effect c.ask_all.ensures.learns
    c.ask_all-2.ensures.learns)

pub returns-then-not-by_digest-clause-unread : goal.returns-then-not-by_digest-clause-unread
returns-then-not-by_digest-clause-unread g c = λ e. ap (λ (o : Outside). o.reads) (c.in_ok-ask_all-2.ensures.effect ∙ c.in_ok-ask_all.ensures.effect)

pub returns-then-not-by_digest-clause-exact : goal.returns-then-not-by_digest-clause-exact
returns-then-not-by_digest-clause-exact g c = told_map c.in_ok-record_with.field-0 (λ (r : Record). (by_digest : Bool) → HasDigestsBy by_digest c.args.numbers.now c.ask_all-2.new.facts None → IsMadeOf by_digest c.args.step.now c.args.numbers.now c.ask_all-2.new.facts r) (IsMadeOf c.args.by_digest c.args.step.now c.args.numbers.now c.ask_all-2.new.facts) (λ r made. made c.args.by_digest c.if-not-by_digest.true) c.in_ok-record_with.ensures.made

pub returns-then-not-by_digest-clause-proper : goal.returns-then-not-by_digest-clause-proper
returns-then-not-by_digest-clause-proper g c = proper_made c.args.by_digest c.args.step.now c.args.numbers.now (g.F.Files.outside c.args.files.now).disk c.args.facts.now c.ask_all-2.new.facts c.in_ok-record_with.field-0
    (knows_both c.args.numbers.now c.as_slice.result.now c.as_slice-2.result.now (g.F.Files.outside c.args.files.now) (g.F.Files.outside c.ask_all.new.files) Always c.args.facts.now c.ask_all.new.facts c.ask_all-2.new.facts
    c.as_slice.ensures c.as_slice-2.ensures c.in_ok-ask_all.ensures.effect c.ask_all.ensures.learns c.ask_all-2.ensures.learns) c.requires.outs c.requires.ins
    (told_map c.in_ok-record_with.field-0 (λ (r : Record). (by_digest : Bool) → HasDigestsBy by_digest c.args.numbers.now c.ask_all-2.new.facts None → IsMadeOf by_digest c.args.step.now c.args.numbers.now c.ask_all-2.new.facts r) (IsMadeOf c.args.by_digest c.args.step.now c.args.numbers.now c.ask_all-2.new.facts) (λ r made. made c.args.by_digest c.if-not-by_digest.true) c.in_ok-record_with.ensures.made)

pub digests_of-requires-clause-outs : goal.digests_of-requires-clause-outs
digests_of-requires-clause-outs g c = numbers_stay c.args.facts.now c.ask_all-2.new.facts c.args.numbers.now.outs (knows_grows (IsOfStep c.args.numbers.now) (g.F.Files.outside c.args.files.now).disk Always
    c.args.facts.now c.ask_all-2.new.facts (knows_both c.args.numbers.now c.as_slice.result.now c.as_slice-2.result.now (g.F.Files.outside c.args.files.now) (g.F.Files.outside c.ask_all.new.files) Always c.args.facts.now c.ask_all.new.facts c.ask_all-2.new.facts c.as_slice.ensures c.as_slice-2.ensures c.in_ok-ask_all.ensures.effect c.ask_all.ensures.learns c.ask_all-2.ensures.learns))
    c.requires.outs

pub digests_of-requires-clause-ins : goal.digests_of-requires-clause-ins
digests_of-requires-clause-ins g c = numbers_stay c.args.facts.now c.ask_all-2.new.facts c.args.numbers.now.ins (knows_grows (IsOfStep c.args.numbers.now) (g.F.Files.outside c.args.files.now).disk Always c.args.facts.now
    c.ask_all-2.new.facts (knows_both c.args.numbers.now c.as_slice.result.now c.as_slice-2.result.now (g.F.Files.outside c.args.files.now) (g.F.Files.outside c.ask_all.new.files) Always c.args.facts.now c.ask_all.new.facts c.ask_all-2.new.facts c.as_slice.ensures c.as_slice-2.ensures c.in_ok-ask_all.ensures.effect c.ask_all.ensures.learns c.ask_all-2.ensures.learns))
    c.requires.ins

pub returns-in_err-digests_of-clause-asks : goal.returns-in_err-digests_of-clause-asks
returns-in_err-digests_of-clause-asks g c =
    let q = err_from_is_err_and c.from_residual-in_err-digests_of.result c.from_residual-in_err-digests_of.ensures.1 in
    asks_exit {T = Option Digests} (IsOfStep c.args.numbers.now) Always c.args.facts.now c.digests_of.new.facts (g.F.Files.outside c.args.files.now) (g.F.Files.outside c.digests_of.new.files) c.in_err-digests_of.field-0.0 c.from_residual-in_err-digests_of.result (q.1 ∙ ap Err q.2)
    (asks_behind {T = Option Digests} (IsOfStep c.args.numbers.now) Always c.args.facts.now c.ask_all-2.new.facts c.digests_of.new.facts (g.F.Files.outside c.args.files.now) (g.F.Files.outside c.ask_all-2.new.files)
    (g.F.Files.outside c.digests_of.new.files) (Err c.in_err-digests_of.field-0.0) (c.in_ok-ask_all-2.ensures.effect ∙ c.in_ok-ask_all.ensures.effect)
    (knows_both c.args.numbers.now c.as_slice.result.now c.as_slice-2.result.now (g.F.Files.outside c.args.files.now) (g.F.Files.outside c.ask_all.new.files) Always c.args.facts.now c.ask_all.new.facts c.ask_all-2.new.facts c.as_slice.ensures c.as_slice-2.ensures c.in_ok-ask_all.ensures.effect c.ask_all.ensures.learns c.ask_all-2.ensures.learns)
    c.in_err-digests_of.ensures.asks)

pub returns-in_err-digests_of-clause-unread : goal.returns-in_err-digests_of-clause-unread
returns-in_err-digests_of-clause-unread g c = λ e. absurd (true≢false (sym c.if-not-by_digest.false ∙ e))

pub record_with-requires-in-Some-clause-outs : goal.record_with-requires-in-Some-clause-outs
record_with-requires-in-Some-clause-outs g c =
    let all = asks_behind {T = Option Digests} (IsOfStep c.args.numbers.now) Always c.args.facts.now c.ask_all-2.new.facts c.digests_of.new.facts (g.F.Files.outside c.args.files.now) (g.F.Files.outside
    c.ask_all-2.new.files) (g.F.Files.outside c.digests_of.new.files) (Ok c.in_ok-digests_of.field-0) (c.in_ok-ask_all-2.ensures.effect ∙ c.in_ok-ask_all.ensures.effect) (knows_both c.args.numbers.now c.as_slice.result.now
    c.as_slice-2.result.now (g.F.Files.outside c.args.files.now) (g.F.Files.outside c.ask_all.new.files) Always c.args.facts.now c.ask_all.new.facts c.ask_all-2.new.facts c.as_slice.ensures c.as_slice-2.ensures
    c.in_ok-ask_all.ensures.effect c.ask_all.ensures.learns c.ask_all-2.ensures.learns) c.in_ok-digests_of.ensures.asks in
    numbers_stay c.args.facts.now c.digests_of.new.facts c.args.numbers.now.outs (knows_grows (IsOfStep c.args.numbers.now) (g.F.Files.outside c.args.files.now).disk Always c.args.facts.now c.digests_of.new.facts all.learns) c.requires.outs

pub record_with-requires-in-Some-clause-ins : goal.record_with-requires-in-Some-clause-ins
record_with-requires-in-Some-clause-ins g c =
    let all = asks_behind {T = Option Digests} (IsOfStep c.args.numbers.now) Always c.args.facts.now c.ask_all-2.new.facts c.digests_of.new.facts (g.F.Files.outside c.args.files.now) (g.F.Files.outside
    c.ask_all-2.new.files) (g.F.Files.outside c.digests_of.new.files) (Ok c.in_ok-digests_of.field-0) (c.in_ok-ask_all-2.ensures.effect ∙ c.in_ok-ask_all.ensures.effect) (knows_both c.args.numbers.now c.as_slice.result.now
    c.as_slice-2.result.now (g.F.Files.outside c.args.files.now) (g.F.Files.outside c.ask_all.new.files) Always c.args.facts.now c.ask_all.new.facts c.ask_all-2.new.facts c.as_slice.ensures c.as_slice-2.ensures
    c.in_ok-ask_all.ensures.effect c.ask_all.ensures.learns c.ask_all-2.ensures.learns) c.in_ok-digests_of.ensures.asks in
    numbers_stay c.args.facts.now c.digests_of.new.facts c.args.numbers.now.ins (knows_grows (IsOfStep c.args.numbers.now) (g.F.Files.outside c.args.files.now).disk Always c.args.facts.now c.digests_of.new.facts all.learns) c.requires.ins

pub returns-in_err-record_with-in-Some-clause-asks : goal.returns-in_err-record_with-in-Some-clause-asks
returns-in_err-record_with-in-Some-clause-asks g c =
    let q = err_from_is_err_and c.from_residual-in_err-record_with-in-Some.result c.from_residual-in_err-record_with-in-Some.ensures.1 in
    asks_memory_exit {T = Option Digests} (IsOfStep c.args.numbers.now) Always c.args.facts.now c.digests_of.new.facts (g.F.Files.outside c.args.files.now) (g.F.Files.outside c.digests_of.new.files) c.in_ok-digests_of.field-0 c.from_residual-in_err-record_with-in-Some.result (q.1 ∙ ap Err q.2)
    (asks_behind {T = Option Digests} (IsOfStep c.args.numbers.now) Always c.args.facts.now c.ask_all-2.new.facts c.digests_of.new.facts (g.F.Files.outside c.args.files.now) (g.F.Files.outside c.ask_all-2.new.files)
    (g.F.Files.outside c.digests_of.new.files) (Ok c.in_ok-digests_of.field-0) (c.in_ok-ask_all-2.ensures.effect ∙ c.in_ok-ask_all.ensures.effect)
    (knows_both c.args.numbers.now c.as_slice.result.now c.as_slice-2.result.now (g.F.Files.outside c.args.files.now) (g.F.Files.outside c.ask_all.new.files) Always c.args.facts.now c.ask_all.new.facts c.ask_all-2.new.facts c.as_slice.ensures c.as_slice-2.ensures c.in_ok-ask_all.ensures.effect c.ask_all.ensures.learns c.ask_all-2.ensures.learns)
    c.in_ok-digests_of.ensures.asks)

pub returns-in_err-record_with-in-Some-clause-unread : goal.returns-in_err-record_with-in-Some-clause-unread
returns-in_err-record_with-in-Some-clause-unread g c = λ e. absurd (true≢false (sym c.if-not-by_digest.false ∙ e))

pub returns-in-None-clause-asks : goal.returns-in-None-clause-asks
returns-in-None-clause-asks g c = asks_ok {T = Option Digests} (IsOfStep c.args.numbers.now) Always c.args.facts.now c.digests_of.new.facts (g.F.Files.outside c.args.files.now) (g.F.Files.outside c.digests_of.new.files) c.in_ok-digests_of.field-0 None
    (asks_behind {T = Option Digests} (IsOfStep c.args.numbers.now) Always c.args.facts.now c.ask_all-2.new.facts c.digests_of.new.facts (g.F.Files.outside c.args.files.now) (g.F.Files.outside c.ask_all-2.new.files)
    (g.F.Files.outside c.digests_of.new.files) (Ok c.in_ok-digests_of.field-0) (c.in_ok-ask_all-2.ensures.effect ∙ c.in_ok-ask_all.ensures.effect)
    (knows_both c.args.numbers.now c.as_slice.result.now c.as_slice-2.result.now (g.F.Files.outside c.args.files.now) (g.F.Files.outside c.ask_all.new.files) Always c.args.facts.now c.ask_all.new.facts c.ask_all-2.new.facts c.as_slice.ensures c.as_slice-2.ensures c.in_ok-ask_all.ensures.effect c.ask_all.ensures.learns c.ask_all-2.ensures.learns)
    c.in_ok-digests_of.ensures.asks)

pub returns-in-None-clause-unread : goal.returns-in-None-clause-unread
returns-in-None-clause-unread g c = λ e. absurd (true≢false (sym c.if-not-by_digest.false ∙ e))

pub returns-in_ok-record_with-in-Some-clause-asks : goal.returns-in_ok-record_with-in-Some-clause-asks
returns-in_ok-record_with-in-Some-clause-asks g c = asks_ok {T = Option Digests} (IsOfStep c.args.numbers.now) Always c.args.facts.now c.digests_of.new.facts (g.F.Files.outside c.args.files.now) (g.F.Files.outside c.digests_of.new.files) c.in_ok-digests_of.field-0 c.in_ok-record_with-in-Some.field-0
    (asks_behind {T = Option Digests} (IsOfStep c.args.numbers.now) Always c.args.facts.now c.ask_all-2.new.facts c.digests_of.new.facts (g.F.Files.outside c.args.files.now) (g.F.Files.outside c.ask_all-2.new.files)
    (g.F.Files.outside c.digests_of.new.files) (Ok c.in_ok-digests_of.field-0) (c.in_ok-ask_all-2.ensures.effect ∙ c.in_ok-ask_all.ensures.effect)
    (knows_both c.args.numbers.now c.as_slice.result.now c.as_slice-2.result.now (g.F.Files.outside c.args.files.now) (g.F.Files.outside c.ask_all.new.files) Always c.args.facts.now c.ask_all.new.facts c.ask_all-2.new.facts c.as_slice.ensures c.as_slice-2.ensures c.in_ok-ask_all.ensures.effect c.ask_all.ensures.learns c.ask_all-2.ensures.learns)
    c.in_ok-digests_of.ensures.asks)

pub returns-in_ok-record_with-in-Some-clause-unread : goal.returns-in_ok-record_with-in-Some-clause-unread
returns-in_ok-record_with-in-Some-clause-unread g c = λ e. absurd (true≢false (sym c.if-not-by_digest.false ∙ e))

pub returns-in_ok-record_with-in-Some-clause-exact : goal.returns-in_ok-record_with-in-Some-clause-exact
returns-in_ok-record_with-in-Some-clause-exact g c = told_map c.in_ok-record_with-in-Some.field-0 (λ (r : Record). (by_digest : Bool) → HasDigestsBy by_digest c.args.numbers.now c.digests_of.new.facts
    (Some c.in-Some.digests) → IsMadeOf by_digest c.args.step.now c.args.numbers.now c.digests_of.new.facts r) (IsMadeOf c.args.by_digest c.args.step.now c.args.numbers.now c.digests_of.new.facts) (λ r made. made
    c.args.by_digest (let has = subst (λ made. IfSome made (λ (digests : Digests). HasDigestsBy true c.args.numbers.now c.digests_of.new.facts (Some digests))) c.in-Some.is c.in_ok-digests_of.ensures.made in (c.if-not-by_digest.false, has.1, has.2)))
    c.in_ok-record_with-in-Some.ensures.made

pub returns-in_ok-record_with-in-Some-clause-proper : goal.returns-in_ok-record_with-in-Some-clause-proper
returns-in_ok-record_with-in-Some-clause-proper g c =
    let all = asks_behind {T = Option Digests} (IsOfStep c.args.numbers.now) Always c.args.facts.now c.ask_all-2.new.facts c.digests_of.new.facts (g.F.Files.outside c.args.files.now) (g.F.Files.outside
    c.ask_all-2.new.files) (g.F.Files.outside c.digests_of.new.files) (Ok c.in_ok-digests_of.field-0) (c.in_ok-ask_all-2.ensures.effect ∙ c.in_ok-ask_all.ensures.effect) (knows_both c.args.numbers.now c.as_slice.result.now
    c.as_slice-2.result.now (g.F.Files.outside c.args.files.now) (g.F.Files.outside c.ask_all.new.files) Always c.args.facts.now c.ask_all.new.facts c.ask_all-2.new.facts c.as_slice.ensures c.as_slice-2.ensures
    c.in_ok-ask_all.ensures.effect c.ask_all.ensures.learns c.ask_all-2.ensures.learns) c.in_ok-digests_of.ensures.asks in
    proper_made c.args.by_digest c.args.step.now c.args.numbers.now (g.F.Files.outside c.args.files.now).disk c.args.facts.now c.digests_of.new.facts c.in_ok-record_with-in-Some.field-0 all.learns c.requires.outs c.requires.ins
    (told_map c.in_ok-record_with-in-Some.field-0 (λ (r : Record). (by_digest : Bool) → HasDigestsBy by_digest c.args.numbers.now c.digests_of.new.facts (Some c.in-Some.digests) → IsMadeOf by_digest c.args.step.now c.args.numbers.now c.digests_of.new.facts r)
    (IsMadeOf c.args.by_digest c.args.step.now c.args.numbers.now c.digests_of.new.facts)
    (λ r made. made c.args.by_digest (let has = subst (λ made. IfSome made (λ (digests : Digests). HasDigestsBy true c.args.numbers.now c.digests_of.new.facts (Some digests))) c.in-Some.is c.in_ok-digests_of.ensures.made in (c.if-not-by_digest.false, has.1, has.2)))
    c.in_ok-record_with-in-Some.ensures.made)

pub returns-then-not-by_digest-clause-gone : goal.returns-then-not-by_digest-clause-gone
returns-then-not-by_digest-clause-gone g c = none_map c.in_ok-record_with.field-0 (IsSomeUnseen c.ask_all-2.new.facts c.args.numbers.now.outs ⊎ IsSomeUnseen c.ask_all-2.new.facts c.args.numbers.now.ins) (IsWithoutFile
    (g.F.Files.outside c.args.files.now).disk c.args.numbers.now c.ask_all-2.new.facts) (without_unseen (g.F.Files.outside c.args.files.now).disk c.args.numbers.now c.ask_all-2.new.facts
    (all_asked_more c.ask_all.new.facts c.ask_all-2.new.facts c.args.numbers.now.outs (knows_grows (Contains c.as_slice-2.result.now) (g.F.Files.outside c.ask_all.new.files).disk Always c.ask_all.new.facts c.ask_all-2.new.facts c.ask_all-2.ensures.learns) (subst (AllAsked c.ask_all.new.facts) c.as_slice.ensures c.in_ok-ask_all.ensures.asked))
    (subst (AllAsked c.ask_all-2.new.facts) c.as_slice-2.ensures c.in_ok-ask_all-2.ensures.asked)) c.in_ok-record_with.ensures.gone

pub returns-in-None-clause-gone : goal.returns-in-None-clause-gone
returns-in-None-clause-gone g c = without_digest (g.F.Files.outside c.args.files.now).disk (g.F.Files.outside c.ask_all-2.new.files).disk c.args.numbers.now c.digests_of.new.facts (ap (λ (o : Outside). o.disk) (c.in_ok-ask_all-2.ensures.effect ∙ c.in_ok-ask_all.ensures.effect))
    (subst (λ made. IfNone made (IsSomeGone (g.F.Files.outside c.ask_all-2.new.files).disk c.digests_of.new.facts c.args.numbers.now.outs ⊎ IsSomeGone (g.F.Files.outside c.ask_all-2.new.files).disk c.digests_of.new.facts c.args.numbers.now.ins)) c.in-None.is c.in_ok-digests_of.ensures.gone)

pub returns-in_ok-record_with-in-Some-clause-gone : goal.returns-in_ok-record_with-in-Some-clause-gone
returns-in_ok-record_with-in-Some-clause-gone g c = none_map c.in_ok-record_with-in-Some.field-0 (IsSomeUnseen c.digests_of.new.facts c.args.numbers.now.outs ⊎ IsSomeUnseen c.digests_of.new.facts c.args.numbers.now.ins) (IsWithoutFile (g.F.Files.outside c.args.files.now).disk c.args.numbers.now c.digests_of.new.facts)
    (without_unseen (g.F.Files.outside c.args.files.now).disk c.args.numbers.now c.digests_of.new.facts
    (all_asked_more c.ask_all-2.new.facts c.digests_of.new.facts c.args.numbers.now.outs (knows_grows (IsOfStep c.args.numbers.now) (g.F.Files.outside c.ask_all-2.new.files).disk Always c.ask_all-2.new.facts
    c.digests_of.new.facts c.digests_of.ensures.asks.learns) (all_asked_more c.ask_all.new.facts c.ask_all-2.new.facts c.args.numbers.now.outs
    (knows_grows (Contains c.as_slice-2.result.now) (g.F.Files.outside c.ask_all.new.files).disk Always c.ask_all.new.facts c.ask_all-2.new.facts c.ask_all-2.ensures.learns)
    (subst (AllAsked c.ask_all.new.facts) c.as_slice.ensures c.in_ok-ask_all.ensures.asked)))
    (all_asked_more c.ask_all-2.new.facts c.digests_of.new.facts c.args.numbers.now.ins (knows_grows (IsOfStep c.args.numbers.now) (g.F.Files.outside c.ask_all-2.new.files).disk Always c.ask_all-2.new.facts c.digests_of.new.facts c.digests_of.ensures.asks.learns) (subst (AllAsked c.ask_all-2.new.facts) c.as_slice-2.ensures c.in_ok-ask_all-2.ensures.asked)))
    c.in_ok-record_with-in-Some.ensures.gone

pub returns-in_err-ask_all-clause-only : goal.returns-in_err-ask_all-clause-only
returns-in_err-ask_all-clause-only g c =
    let q = err_from_is_err_and c.from_residual.result c.from_residual.ensures.1 in
    not_too_big (Option Record) (c.args.by_digest ≡ true) c.from_residual.result (q.1 ∙ ap Err q.2)

pub returns-in_err-ask_all-2-clause-only : goal.returns-in_err-ask_all-2-clause-only
returns-in_err-ask_all-2-clause-only g c =
    let q = err_from_is_err_and c.from_residual-in_err-ask_all-2.result c.from_residual-in_err-ask_all-2.ensures.1 in
    not_too_big (Option Record) (c.args.by_digest ≡ true) c.from_residual-in_err-ask_all-2.result (q.1 ∙ ap Err q.2)

pub returns-in_err-record_with-clause-only : goal.returns-in_err-record_with-clause-only
returns-in_err-record_with-clause-only g c =
    let q = err_from_is_err_and c.from_residual-in_err-record_with.result c.from_residual-in_err-record_with.ensures.1 in
    too_big_if (Option Record) (c.args.by_digest ≡ true) stops.OutOfMemory c.from_residual-in_err-record_with.result tt (q.1 ∙ ap Err q.2)

pub returns-in_err-digests_of-clause-only : goal.returns-in_err-digests_of-clause-only
returns-in_err-digests_of-clause-only g c = too_big_for (Option Record) (c.args.by_digest ≡ true) c.from_residual-in_err-digests_of.result c.if-not-by_digest.false

pub returns-in_err-record_with-in-Some-clause-only : goal.returns-in_err-record_with-in-Some-clause-only
returns-in_err-record_with-in-Some-clause-only g c = too_big_for (Option Record) (c.args.by_digest ≡ true) c.from_residual-in_err-record_with-in-Some.result c.if-not-by_digest.false
