use Rattle.std.proofs.Common.{◌+◌, ◌*◌, ◌<◌, ◌≤◌, Bool, true, false, cond, List, [], ◌∷◌, length, inl, inr, ap, length-append, arith}
use Rattle.b2_log.specs.declared.line.LogLine.{LogLine}
use Rattle.b2_log.specs.Lines.{spelling, log_bytes}
use Rattle.b2_log.specs.Finding.{is_kept, kept}
use Rattle.b2_log.proofs.LinesHaveOneReading.{line_long}
use Rattle.b2_runs.specs.LogCourseLaws.{ReplacedIsOther}
use Rattle.b2_runs.proofs.KeptTellsSame.{kept_shorter}

-- each line that is not kept makes the bytes shorter
shorter_by_lines : (log : List LogLine) → length (log_bytes (kept log)) + length log ≤ length (log_bytes log) + length (kept log)
shorter_by_lines [] = omega arith
shorter_by_lines (line ∷ later) = go (is_kept line later) (shorter_by_lines later)
  where
    go : (b : Bool) → length (log_bytes (kept later)) + length later ≤ length (log_bytes later) + length (kept later)
        → length (log_bytes (cond b (line ∷ kept later) (kept later))) + length (line ∷ later) ≤ length (log_bytes (line ∷ later)) + length (cond b (line ∷ kept later) (kept later))
    go true less = omega (arith, less, length-append (spelling line) (log_bytes (kept later)), length-append (spelling line) (log_bytes later))
    go false less = omega (arith, less, line_long line, length-append (spelling line) (log_bytes later))

pub replaced_is_other : ReplacedIsOther
replaced_is_other bytes log good r why e =
    let size = ap length r.split in
    let whole = length-append (log_bytes log) r.rest in
    elim why [
      | inl less ↦ omega (arith, less, ap length e, r.measure, kept_shorter log)
      | inr long ↦ let much : 2 * length (kept log) + 100 < length log = long in omega (arith, much, ap length e, size, whole, shorter_by_lines log)
    ]
