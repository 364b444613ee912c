use Rattle.std.proofs.Common.{◌≡◌, ℕ, [], sym, ap, subst, arith, None}
use Rattle.std.specs.Prelude.{option_map}
use Rattle.b2_host.specs.declared.files.ReadAnswer.TheVariants as answers
use Rattle.b2_host.specs.Disks.{File, bytes_at}
use Rattle.b2_host.specs.FileCalls.{log_path}
use Rattle.b2_log.specs.Readings.{IsReading}
use Rattle.b2_log.specs.Finding.{told}
use Rattle.b2_runs.specs.LogFiles.{IsLogOf, IsLogOf.is_read, IsLogOf.is_large, IsLogHeld}
use Rattle.b2_runs.specs.LogFileLaws.{ReadTellsLog}

-- what a read tells of the log's lines
pub read_tells_log : ReadTellsLog
read_tells_log folder (answers.Bytes bytes) log told = (
  λ is. of_bytes (subst (λ o. IsLogHeld o log) told.0 is),
  λ read. subst (λ o. IsLogHeld o log) (sym told.0) (is_read read.0 told.1 read.1),
)
  where
    of_bytes : IsLogOf bytes.items log → (good : ℕ) × IsReading bytes.items log good
    of_bytes (is_read good within r) = (good, r)
    of_bytes (is_large above e) = absurd (omega (arith, above, told.1))
read_tells_log folder answers.Missing log told =
    let none : bytes_at folder log_path ≡ None = ap (option_map (λ (file : File). file.bytes)) told in
    (λ is. subst (λ o. IsLogHeld o log) none is, λ e. subst (λ o. IsLogHeld o log) (sym none) e)
read_tells_log folder (answers.TooBig size) log told = (
  λ is. of_bytes (subst (λ o. IsLogHeld o log) told.1 is),
  λ e. subst (λ o. IsLogHeld o log) (sym told.1) (is_large (omega (arith, told.2, told.3)) e),
)
  where
    of_bytes : IsLogOf told.0 log → log ≡ []
    of_bytes (is_read good within r) = absurd (omega (arith, within, told.2, told.3))
    of_bytes (is_large above e) = e
