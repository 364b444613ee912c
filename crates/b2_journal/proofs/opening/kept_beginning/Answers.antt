use Rattle.std.proofs.Common.{ℕ, List, Some, refl, subst}
use Rattle.b2_log.specs.Readings.{IsReading}
use Rattle.b2_journal.proofs.FirstLinesAreChosen.{kept_beginning_is}
use Rattle.b2_journal.proofs.opening.kept_beginning.Goals as goal

pub returns : goal.returns
returns c = kept_beginning_is c.args.log.lines c.in_ok-bytes.bytes (record { log = c.in_ok-kept.kept; bytes = Some c.in_ok-bytes.bytes }) c.in_ok-kept.kept.good refl c.in_ok-bytes.ensures.exact c.in_ok-bytes.ensures.read
    (subst (λ (bytes : List ℕ). IsReading bytes c.in_ok-kept.kept.lines c.in_ok-kept.kept.good) c.as_slice.ensures.value c.in_ok-kept.ensures)
