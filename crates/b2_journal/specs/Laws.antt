-- What a journal leaves where the host failed is one of the files that an update leaves which was cut off.
use Rattle.std.specs.Prelude.{List, [], ◌∷◌, ◌++◌}
use Rattle.std.specs.List.{AllByRecursion}
use Rattle.b2_host.specs.declared.children.ChildEvent.{ChildEvent}
use Rattle.b2_host.specs.Disks.{Folder}
use Rattle.b2_log.specs.declared.line.LogLine.{LogLine}
use Rattle.b2_log.specs.Good.{IsGood}
use Rattle.b2_runs.specs.Staleness.{Update}
use Rattle.b2_runs.specs.Runs.{IsRunSoFar, OpenEnds}
use Rattle.b2_runs.specs.LogCourses.{Opening.to_update, BeginsWith, IsLogAfter, log_file, IsLogCut}
use Rattle.b2_journal.specs.Openings.{IsOpeningCut}
use Rattle.b2_journal.specs.Notes.{HasLines, IsNoteCut}

-- opening failed, before any event
abbrev pub OpeningIsCut : Type 0
OpeningIsCut = (u : Update) (now : Folder) → IsOpeningCut to_update u.build.folder now → IsLogCut u [] now

-- a note failed of a line that these further events call for, and then only ends came
abbrev pub NoteIsCut : Type 0
NoteIsCut = (u : Update) (before now : Folder) (first log : List LogLine) (line : LogLine) (front more rest : List ChildEvent) → IsNoteCut before now log line → HasLines (log_file u.build.folder) before log → BeginsWith u first → AllByRecursion IsGood log
    → IsRunSoFar u front → IsRunSoFar u (front ++ more) → OpenEnds front (more ++ rest) → IsLogAfter u now first front log → IsLogAfter u now first (front ++ more) (log ++ line ∷ []) → IsLogCut u (front ++ more ++ rest) now
