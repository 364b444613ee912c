-- A line is appended to the log's file.
use Rattle.std.proofs.Common.{◌≡◌, ℕ, List, [], ◌∷◌, ◌++◌, take, drop, Option, Some, None, Result, Ok, Err, refl, sym, ap, subst, ◌∙◌, inl, inr, unwrap_or}
use Rattle.std.proofs.lemmas.List.{take-append-drop}
use Rattle.b2_host.specs.declared.fault.IoFault.{IoFault}
use Rattle.b2_host.specs.declared.fault.IoFault.TheVariants as faults
use Rattle.b2_host.specs.Disks.{Disk}
use Rattle.b2_host.specs.ChildProcesses.{BothTold}
use Rattle.b2_host.specs.Outside.{Outside}
use Rattle.b2_host.specs.FileCalls.{log_path, Appends, with_piece}
use Rattle.b2_log.specs.declared.line.LogLine.{LogLine}
use Rattle.b2_log.specs.Lines.{spelling, log_bytes}
use Rattle.b2_log.specs.Good.{IsGood}
use Rattle.b2_runs.specs.LogCourses.{left_file}
use Rattle.b2_runs.proofs.CutLogIsTrue.{append_leaves_file}
use Rattle.b2_journal.specs.Notes.{HasLines, IsNoteCut, IsNoteCut.untouched, IsNoteCut.within, Notes}
use Rattle.b2_journal.proofs.LogIsPutBack.{log_stored, put_told, same_told, anything, failed_disk}

-- the bytes that are appended to the log are those of the line
pub appends_line : {T : Type 0} (line : LogLine) (path bytes piece : List ℕ) (x z : Outside) (r : Result T IoFault) → path ≡ log_path → piece ≡ bytes → bytes ≡ spelling line → Appends path piece x z r → Appends log_path (spelling line) x z r
appends_line line path bytes piece x z r at same are appended = subst (λ (p : List ℕ). Appends p (spelling line) x z r) at (subst (λ (b : List ℕ). Appends path b x z r) (same ∙ are) appended)

left_bytes : (entry : Option (List ℕ)) (bytes : List ℕ) → unwrap_or (left_file entry bytes) [] ≡ bytes
left_bytes None [] = refl
left_bytes None (byte ∷ more) = refl
left_bytes (Some old) bytes = refl

-- what a piece is appended to
piece_behind : (entry : Option (List ℕ)) (lines : List LogLine) (piece : List ℕ) (disk : Disk) → HasLines entry disk.now lines → with_piece log_path piece disk ≡ log_bytes lines ++ piece
piece_behind entry lines piece disk has = ap (λ (file : Option (List ℕ)). unwrap_or file [] ++ piece) has ∙ ap (λ (bytes : List ℕ). bytes ++ piece) (left_bytes entry (log_bytes lines))

pub append_notes : {T : Type 0} (line : LogLine) (lines : List LogLine) (x z : Outside) (r : Result T IoFault) → IsGood line → Appends log_path (spelling line) x z r → BothTold (λ before after. Notes line lines before after r) x.disk z.disk
append_notes line lines x z (Ok u) good puts = put_told (λ before after. (entry : Option (List ℕ)) → HasLines entry before.now lines → HasLines entry after.now (lines ++ line ∷ [])) (λ d. Unit {0}) (with_piece log_path (spelling line)) x z puts (anything x.disk)
    (λ file disk is nothing entry has. log_stored file disk ∙ ap Some is ∙ append_leaves_file entry disk lines line has)
append_notes line lines x z (Err faults.Failed) good (inl failed) = same_told (λ before after. (entry : Option (List ℕ)) → HasLines entry before.now lines → IsNoteCut before.now after.now lines line) (λ d. Unit {0}) x z (failed_disk x z failed) (anything x.disk)
    (λ disk nothing entry has. untouched refl)
append_notes line lines x z (Err faults.Failed) good (inr (count, torn, puts, failed)) =
    subst (BothTold (λ before after. (entry : Option (List ℕ)) → HasLines entry before.now lines → IsNoteCut before.now after.now lines line) x.disk) (sym (failed_disk torn z failed))
    (put_told (λ before after. (entry : Option (List ℕ)) → HasLines entry before.now lines → IsNoteCut before.now after.now lines line) (λ d. Unit {0}) (with_piece log_path (take count (spelling line))) x torn puts (anything x.disk)
    (λ file disk is nothing entry has. within (take count (spelling line)) (drop count (spelling line)) good (sym (take-append-drop count (spelling line))) (log_stored file disk ∙ ap Some (is ∙ piece_behind entry lines (take count (spelling line)) disk has))))
append_notes line lines x z (Err faults.OutOfMemory) good same = no_memory (ap (λ (o : Outside). o.disk) same)
  where
    no_memory : z.disk ≡ x.disk → BothTold (λ before after. after ≡ before) x.disk z.disk
    no_memory same = same_told (λ before after. after ≡ before) (λ d. Unit {0}) x z same (anything x.disk) (λ disk nothing. refl)
