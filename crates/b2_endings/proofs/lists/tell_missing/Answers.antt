use Rattle.std.proofs.Common.{List, ℕ, ◌+◌, ◌∙◌, ◌++◌, take, drop, ap, subst, Ok, Err}
use Rattle.std.specs.List.{flat_map}
use Rattle.std.proofs.lemmas.Result.{err_from_is_err_and}
use Rattle.b2_runs.specs.Reports.{missing_line}
use Rattle.b2_reach.proofs.MembersAreAdded.{take_whole}
use Rattle.b2_endings.specs.Writings.{Says}
use Rattle.b2_endings.proofs.WrittenPartsAddUp.{wrote_nothing, says_then, says_stopped, says_no_memory, lines_more, lines_rest}
use Rattle.b2_endings.proofs.lists.tell_missing.Goals as goal

pub loop-path-init : goal.loop-path-init
loop-path-init g c = wrote_nothing (g.S.Sink.output c.args.out.now)

pub returns-in_err-line : goal.returns-in_err-line
returns-in_err-line g c =
    let paths = c.args.paths.now in
    let i = c.loop-path.path-index in
    let before = g.S.Sink.output c.args.out.now in
    let here = g.S.Sink.output c.loop-path.out in
    let result = c.from_residual.result in
    let (fault, e, q) = err_from_is_err_and result c.from_residual.ensures.1 in
    subst (λ t. Says t before here result) (lines_rest missing_line paths i)
    (says_no_memory (flat_map missing_line (take i paths)) (flat_map missing_line (drop i paths)) before here result fault e q c.loop-path.invariant)

pub returns-in_err-write_line : goal.returns-in_err-write_line
returns-in_err-write_line g c =
    let paths = c.args.paths.now in
    let i = c.loop-path.path-index in
    let before = g.S.Sink.output c.args.out.now in
    let here = g.S.Sink.output c.loop-path.out in
    let after = g.S.Sink.output c.write_line.new.out in
    let result = c.from_residual-in_err-write_line.result in
    let fault = c.in_err-write_line.field-0.0 in
    let (y, e, q) = err_from_is_err_and result c.from_residual-in_err-write_line.ensures.1 in
    let line = c.as_str.result.now in
    let is = c.as_str.ensures.value ∙ c.in_ok-line.ensures ∙ ap missing_line c.path-item.is in
    let more = ap (λ t. flat_map missing_line (take i paths) ++ t) is ∙ lines_more missing_line paths i c.path-item.result c.loop-path-test.true in
    let said = says_then {T = Unit {0}} (flat_map missing_line (take i paths)) line before here after (Err fault) c.loop-path.invariant c.in_err-write_line.ensures in
    subst (λ t. Says t before after result) (lines_rest missing_line paths (i + 1))
    (says_stopped (Unit {0}) (flat_map missing_line (take (i + 1) paths)) (flat_map missing_line (drop (i + 1) paths)) before after result fault (e ∙ ap Err q)
    (subst (λ t. Says {T = Unit {0}} t before after (Err fault)) more said))

pub loop-path-preserved : goal.loop-path-preserved
loop-path-preserved g c =
    let paths = c.args.paths.now in
    let i = c.loop-path.path-index in
    let before = g.S.Sink.output c.args.out.now in
    let here = g.S.Sink.output c.loop-path.out in
    let after = g.S.Sink.output c.write_line.new.out in
    let line = c.as_str.result.now in
    let is = c.as_str.ensures.value ∙ c.in_ok-line.ensures ∙ ap missing_line c.path-item.is in
    let more = ap (λ t. flat_map missing_line (take i paths) ++ t) is ∙ lines_more missing_line paths i c.path-item.result c.loop-path-test.true in
    subst (λ t. Says {T = Unit {0}} t before after (Ok tt)) more
    (says_then {T = Unit {0}} (flat_map missing_line (take i paths)) line before here after (Ok tt) c.loop-path.invariant c.in_ok-write_line.ensures)

pub returns : goal.returns
returns g c =
    let paths = c.args.paths.now in
    let before = g.S.Sink.output c.args.out.now in
    let here = g.S.Sink.output c.loop-path.out in
    let whole = take_whole paths c.loop-path.path-index c.loop-path-test.false in
    subst (λ (l : List (List ℕ)). Says {T = Unit {0}} (flat_map missing_line l) before here (Ok tt)) whole c.loop-path.invariant
