use Rattle.std.proofs.Common.{refl, subst}
use Rattle.std.proofs.lemmas.Bool.{false≢true}
use Rattle.b2_journal.specs.declared.log_reading.LogState.{LogState}
use Rattle.b2_journal.specs.Rules.{opening_by}
use Rattle.b2_journal.specs.Readings.{Stands}
use Rattle.b2_journal.proofs.FirstLinesAreChosen.{missing_stays, whole_stays, large_is_replaced, torn_begins, long_begins, kept_so}
use Rattle.b2_journal.proofs.opening.first_lines.Goals as goal

pub returns-in-Missing-clause-begins : goal.returns-in-Missing-clause-begins
returns-in-Missing-clause-begins c = λ file stands.
    let none = subst (λ (s : LogState). Stands file s c.args.reading.log.lines) c.in-Missing.is stands in
    missing_stays (opening_by c.args.rule) file c.args.reading.log.lines none.0 none.1

pub returns-in-TooLarge-clause-begins : goal.returns-in-TooLarge-clause-begins
returns-in-TooLarge-clause-begins c = λ file stands.
    large_is_replaced (opening_by c.args.rule) file c.args.reading.log.lines c.new.result.items (subst (λ (s : LogState). Stands file s c.args.reading.log.lines) c.in-TooLarge.is stands) c.new.ensures.items

pub returns-in-Torn-clause-begins : goal.returns-in-Torn-clause-begins
returns-in-Torn-clause-begins c = kept_so c.args.reading.log.lines _ c.kept_beginning.result c.kept_beginning.ensures
    (λ b kept_is file stands. torn_begins (opening_by c.args.rule) file c.args.reading.log.lines b kept_is (subst (λ (s : LogState). Stands file s c.args.reading.log.lines) c.in-Torn.is stands))

pub returns-then-is_to_shorten-clause-begins : goal.returns-then-is_to_shorten-clause-begins
returns-then-is_to_shorten-clause-begins c = kept_so c.args.reading.log.lines _ c.kept_beginning-then-is_to_shorten.result c.kept_beginning-then-is_to_shorten.ensures
    (λ b kept_is file stands. long_begins (opening_by c.args.rule) file c.args.reading.log.lines b kept_is (c.if-is_to_shorten.ensures.0 refl) (subst (λ (s : LogState). Stands file s c.args.reading.log.lines) c.in-Whole.is stands))

pub returns-else-is_to_shorten-clause-begins : goal.returns-else-is_to_shorten-clause-begins
returns-else-is_to_shorten-clause-begins c = λ file stands.
    whole_stays (opening_by c.args.rule) file c.args.reading.log.lines (subst (λ (s : LogState). Stands file s c.args.reading.log.lines) c.in-Whole.is stands) (λ shorten. false≢true (c.if-is_to_shorten.ensures.1 shorten))
