-- What a failed call on the log leaves is what an update leaves that was cut off.
use Rattle.std.proofs.Common.{List, [], ◌∷◌, ◌++◌, refl, ◌∙◌, append_assoc}
use Rattle.std.specs.List.{AllByRecursion}
use Rattle.b2_log.specs.declared.line.LogLine.{LogLine}
use Rattle.b2_log.specs.Good.{IsGood}
use Rattle.b2_runs.specs.LogCourses.{IsLogCut.untouched as cut_before, IsLogCut.replacing as cut_replacing, IsLogCut.between as cut_between, IsLogCut.within as cut_within}
use Rattle.b2_journal.specs.Openings.{IsOpeningCut.untouched as opening_untouched, IsOpeningCut.replacing as opening_replacing}
use Rattle.b2_journal.specs.Notes.{IsNoteCut.untouched as note_untouched, IsNoteCut.within as note_within}
use Rattle.b2_journal.specs.Laws.{OpeningIsCut, NoteIsCut}

pub opening_is_cut : OpeningIsCut
opening_is_cut u now (opening_untouched same) = cut_before refl same
opening_is_cut u now (opening_replacing first part missing begins other split file) = cut_replacing first part missing refl begins other split file

all_push : (P : LogLine → Type 0) (lines : List LogLine) (line : LogLine) → AllByRecursion P lines → P line → AllByRecursion P (lines ++ line ∷ [])
all_push P [] line each also = (also, tt)
all_push P (x ∷ xs) line each also = (each.0, all_push P xs line each.1 also)

pub note_is_cut : NoteIsCut
note_is_cut u before now first log line front more rest (note_untouched same) has begins good run further ends course next = cut_between first log front (more ++ rest) (append_assoc front more rest) run ends begins course good (same ∙ has)
note_is_cut u before now first log line front more rest (note_within part missing line_good split file) has begins good run further ends course next =
    cut_within first log line front more rest part missing refl further ends begins course next (all_push IsGood log line good line_good) split file
