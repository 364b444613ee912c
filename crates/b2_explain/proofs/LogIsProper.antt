-- The records that a log's file tells are proper.
use Rattle.std.proofs.Common.{◌≡◌, ℕ, List, [], Option, Some, None, sym, ap, ◌∙◌}
use Rattle.std.specs.List.{AllByRecursion}
use Rattle.b2_host.specs.Disks.{Folder, bytes_at}
use Rattle.b2_host.specs.FileCalls.{log_path}
use Rattle.b2_log.specs.declared.line.Record.{Record}
use Rattle.b2_log.specs.declared.line.LogLine.{LogLine}
use Rattle.b2_log.specs.declared.line.LogLine.TheVariants as lines
use Rattle.b2_log.specs.Good.{IsRising, IsGood}
use Rattle.b2_log.specs.Finding.{find_record}
use Rattle.b2_runs.specs.LogFiles.{IsLogOf, IsLogOf.is_read as log_read, IsLogOf.is_large as log_large, IsLogHeld, IsLogIn}
use Rattle.b2_runs.proofs.LastLineIsFound.{found_is_there}
use Rattle.b2_facts.proofs.ListsAtPlaces.{none_some, all_at}

-- a record among lines that are good
good_is_rising : (log : List LogLine) → AllByRecursion IsGood log → (outs : List (List ℕ)) (r : Record) → find_record outs log ≡ Some r → IsRising r.ins
good_is_rising log good outs r found = rising (all_at IsGood log good (lines.Record r) (found_is_there outs log r found).0)
  where
    rising : IsGood (lines.Record r) → IsRising r.ins
    rising so = so.proper.rising

-- nothing is found in no lines
none_is_rising : (log : List LogLine) → log ≡ [] → (outs : List (List ℕ)) (r : Record) → find_record outs log ≡ Some r → IsRising r.ins
none_is_rising log empty outs r found = absurd (none_some r (sym (ap (find_record outs) empty) ∙ found))

pub found_is_rising : (folder : Folder) (log : List LogLine) → IsLogIn folder log → (outs : List (List ℕ)) (r : Record) → find_record outs log ≡ Some r → IsRising r.ins
found_is_rising folder log is outs r found = go (bytes_at folder log_path) is
  where
    of_file : (bytes : List ℕ) → IsLogOf bytes log → IsRising r.ins
    of_file bytes (log_read good within reading) = good_is_rising log reading.each outs r found
    of_file bytes (log_large above empty) = none_is_rising log empty outs r found

    go : (o : Option (List ℕ)) → IsLogHeld o log → IsRising r.ins
    go None empty = none_is_rising log empty outs r found
    go (Some bytes) held = of_file bytes held
