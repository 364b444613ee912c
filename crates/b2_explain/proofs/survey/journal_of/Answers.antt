use Rattle.std.proofs.Common.{◌≡◌, ℕ, List, length, sym, subst, ◌∙◌}
use Rattle.std.specs.List.{AllByRecursion}
use Rattle.b2_log.specs.declared.line.LogLine.{LogLine}
use Rattle.b2_log.specs.Good.{IsGood}
use Rattle.b2_log.specs.Finding.{kept}
use Rattle.b2_log.specs.Readings.{IsReading}
use Rattle.b2_log.proofs.BytesHaveOneReading.{one_reading}
use Rattle.b2_looks.proofs.FilesAreNumbered.{if_ok_then}
use Rattle.b2_explain.proofs.survey.journal_of.Goals as goal

pub of_log-requires : goal.of_log-requires
of_log-requires c = c.in_ok-kept.ensures.each

pub returns-clause-lines : goal.returns-clause-lines
returns-clause-lines c =
    let read = subst (λ (bs : List ℕ). IsReading bs c.in_ok-kept.kept.lines c.in_ok-kept.kept.good) c.as_slice.ensures.value c.in_ok-kept.ensures in
    let same = (one_reading c.in_ok-bytes.bytes.items c.in_ok-kept.kept.lines (kept c.args.log.now.lines) c.in_ok-kept.kept.good (length c.in_ok-bytes.bytes.items) read c.in_ok-bytes.ensures.read).0 in
    if_ok_then c.of_log.result (λ (journal : List LogLine). journal ≡ c.in_ok-kept.kept.lines) (λ (journal : List LogLine). journal ≡ kept c.args.log.now.lines) (λ journal e. e ∙ same) c.of_log.ensures

pub returns-clause-good : goal.returns-clause-good
returns-clause-good c =
    if_ok_then c.of_log.result (λ (journal : List LogLine). journal ≡ c.in_ok-kept.kept.lines) (AllByRecursion IsGood) (λ journal e. subst (AllByRecursion IsGood) (sym e) c.in_ok-kept.ensures.each) c.of_log.ensures
