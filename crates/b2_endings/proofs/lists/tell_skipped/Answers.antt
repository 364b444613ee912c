use Rattle.std.proofs.Common.{List, ℕ, ◌+◌, ◌∙◌, take, drop, get_or, ap, subst, Ok, Err}
use Rattle.std.proofs.lemmas.Result.{err_from_is_err_and}
use Rattle.b2_plan.specs.Plans.{step_at}
use Rattle.b2_runs.specs.Reports.{skipped_line, said_of}
use Rattle.b2_reach.proofs.MembersAreAdded.{take_whole}
use Rattle.b2_endings.specs.Writings.{skipped_lines, Says}
use Rattle.b2_endings.proofs.WrittenPartsAddUp.{wrote_nothing, says_then, says_stopped, lines_more, lines_rest}
use Rattle.b2_endings.proofs.lists.tell_skipped.Goals as goal

pub loop-number-init : goal.loop-number-init
loop-number-init g c = wrote_nothing (g.S.Sink.output c.args.out.now)

pub returns-in_err-tell_one_skipped : goal.returns-in_err-tell_one_skipped
returns-in_err-tell_one_skipped g c =
    let steps = c.args.steps.now in
    let numbers = c.args.numbers.now in
    let say = λ (number : ℕ). said_of skipped_line (step_at steps number) in
    let i = c.loop-number.number-index in
    let before = g.S.Sink.output c.args.out.now in
    let here = g.S.Sink.output c.loop-number.out in
    let after = g.S.Sink.output c.tell_one_skipped.new.out in
    let result = c.from_residual.result in
    let fault = c.in_err-tell_one_skipped.field-0.0 in
    let (y, e, q) = err_from_is_err_and result c.from_residual.ensures.1 in
    let said = says_then {T = Unit {0}} (skipped_lines steps (take i numbers)) (say (get_or numbers i 0)) before here after (Err fault) c.loop-number.invariant c.in_err-tell_one_skipped.ensures in
    subst (λ t. Says t before after result) (lines_rest say numbers (i + 1))
    (says_stopped (Unit {0}) (skipped_lines steps (take (i + 1) numbers)) (skipped_lines steps (drop (i + 1) numbers)) before after result fault (e ∙ ap Err q)
    (subst (λ t. Says {T = Unit {0}} t before after (Err fault)) (lines_more say numbers i 0 c.loop-number-test.true) said))

pub loop-number-preserved : goal.loop-number-preserved
loop-number-preserved g c =
    let steps = c.args.steps.now in
    let numbers = c.args.numbers.now in
    let say = λ (number : ℕ). said_of skipped_line (step_at steps number) in
    let i = c.loop-number.number-index in
    let before = g.S.Sink.output c.args.out.now in
    let here = g.S.Sink.output c.loop-number.out in
    let after = g.S.Sink.output c.tell_one_skipped.new.out in
    subst (λ t. Says {T = Unit {0}} t before after (Ok tt)) (lines_more say numbers i 0 c.loop-number-test.true)
    (says_then {T = Unit {0}} (skipped_lines steps (take i numbers)) (say (get_or numbers i 0)) before here after (Ok tt) c.loop-number.invariant c.in_ok-tell_one_skipped.ensures)

pub returns : goal.returns
returns g c =
    let steps = c.args.steps.now in
    let numbers = c.args.numbers.now in
    let before = g.S.Sink.output c.args.out.now in
    let here = g.S.Sink.output c.loop-number.out in
    let whole = take_whole numbers c.loop-number.number-index c.loop-number-test.false in
    subst (λ (l : List ℕ). Says {T = Unit {0}} (skipped_lines steps l) before here (Ok tt)) whole c.loop-number.invariant
