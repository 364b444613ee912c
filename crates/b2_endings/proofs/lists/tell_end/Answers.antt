use Rattle.std.proofs.Common.{List, ℕ, ◌++◌, ◌∙◌, refl, ap, subst, Ok, Err}
use Rattle.std.specs.List.{flat_map}
use Rattle.std.proofs.lemmas.Result.{err_from_is_err_and}
use Rattle.b2_runs.specs.Reports.{missing_line, summary_line}
use Rattle.b2_endings.specs.Endings.{lists_of}
use Rattle.b2_endings.specs.Writings.{skipped_lines, Says}
use Rattle.b2_endings.proofs.WrittenPartsAddUp.{says_then, says_stopped, says_no_memory}
use Rattle.b2_endings.proofs.lists.tell_end.Goals as goal

pub returns-in_err-tell_missing : goal.returns-in_err-tell_missing
returns-in_err-tell_missing g c =
    let lists = c.args.lists.now in
    let a = flat_map missing_line lists.missing in
    let b = skipped_lines c.args.steps.now lists.skipped in
    let last = summary_line c.args.updated (lists_of lists) in
    let x = g.S.Sink.output c.args.out.now in
    let y = g.S.Sink.output c.tell_missing.new.out in
    let result = c.from_residual.result in
    let fault = c.in_err-tell_missing.field-0.0 in
    let (s, e, q) = err_from_is_err_and result c.from_residual.ensures.1 in
    let said = subst (λ (l : List (List ℕ)). Says {T = Unit {0}} (flat_map missing_line l) x y (Err fault)) c.as_slice.ensures c.in_err-tell_missing.ensures in
    says_stopped (Unit {0}) (a ++ b) last x y result fault (e ∙ ap Err q) (says_stopped {S = Unit {0}} (Unit {0}) a b x y (Err fault) fault refl said)

pub returns-in_err-tell_skipped : goal.returns-in_err-tell_skipped
returns-in_err-tell_skipped g c =
    let steps = c.args.steps.now in
    let lists = c.args.lists.now in
    let a = flat_map missing_line lists.missing in
    let b = skipped_lines steps lists.skipped in
    let last = summary_line c.args.updated (lists_of lists) in
    let x = g.S.Sink.output c.args.out.now in
    let y = g.S.Sink.output c.tell_missing.new.out in
    let z = g.S.Sink.output c.tell_skipped.new.out in
    let result = c.from_residual-in_err-tell_skipped.result in
    let fault = c.in_err-tell_skipped.field-0.0 in
    let (s, e, q) = err_from_is_err_and result c.from_residual-in_err-tell_skipped.ensures.1 in
    let one = subst (λ (l : List (List ℕ)). Says {T = Unit {0}} (flat_map missing_line l) x y (Ok tt)) c.as_slice.ensures c.in_ok-tell_missing.ensures in
    let two = subst (λ (l : List ℕ). Says {T = Unit {0}} (skipped_lines steps l) y z (Err fault)) c.as_slice-2.ensures c.in_err-tell_skipped.ensures in
    says_stopped (Unit {0}) (a ++ b) last x z result fault (e ∙ ap Err q) (says_then {T = Unit {0}} a b x y z (Err fault) one two)

pub returns-in_err-line : goal.returns-in_err-line
returns-in_err-line g c =
    let steps = c.args.steps.now in
    let lists = c.args.lists.now in
    let a = flat_map missing_line lists.missing in
    let b = skipped_lines steps lists.skipped in
    let last = summary_line c.args.updated (lists_of lists) in
    let x = g.S.Sink.output c.args.out.now in
    let y = g.S.Sink.output c.tell_missing.new.out in
    let z = g.S.Sink.output c.tell_skipped.new.out in
    let result = c.from_residual-in_err-line.result in
    let (fault, e, q) = err_from_is_err_and result c.from_residual-in_err-line.ensures.1 in
    let one = subst (λ (l : List (List ℕ)). Says {T = Unit {0}} (flat_map missing_line l) x y (Ok tt)) c.as_slice.ensures c.in_ok-tell_missing.ensures in
    let two = subst (λ (l : List ℕ). Says {T = Unit {0}} (skipped_lines steps l) y z (Ok tt)) c.as_slice-2.ensures c.in_ok-tell_skipped.ensures in
    says_no_memory (a ++ b) last x z result fault e q (says_then {T = Unit {0}} a b x y z (Ok tt) one two)

pub returns : goal.returns
returns g c =
    let steps = c.args.steps.now in
    let lists = c.args.lists.now in
    let a = flat_map missing_line lists.missing in
    let b = skipped_lines steps lists.skipped in
    let last = summary_line c.args.updated (lists_of lists) in
    let x = g.S.Sink.output c.args.out.now in
    let y = g.S.Sink.output c.tell_missing.new.out in
    let z = g.S.Sink.output c.tell_skipped.new.out in
    let w = g.S.Sink.output c.write_line.new.out in
    let one = subst (λ (l : List (List ℕ)). Says {T = Unit {0}} (flat_map missing_line l) x y (Ok tt)) c.as_slice.ensures c.in_ok-tell_missing.ensures in
    let two = subst (λ (l : List ℕ). Says {T = Unit {0}} (skipped_lines steps l) y z (Ok tt)) c.as_slice-2.ensures c.in_ok-tell_skipped.ensures in
    let three = subst (λ t. Says t z w c.write_line.result) (c.as_str.ensures.value ∙ c.in_ok-line.ensures) c.write_line.ensures in
    says_then (a ++ b) last x z w c.write_line.result (says_then {T = Unit {0}} a b x y z (Ok tt) one two) three
