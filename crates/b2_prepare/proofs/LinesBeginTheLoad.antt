-- All lines of a load begin those of the load: since it ends in one way.
use Rattle.std.proofs.Common.{◌≡◌, List, [], None, sym, ap, ◌∙◌}
use Rattle.std.proofs.lemmas.List.{append-nil}
use Rattle.b2_host.specs.Disks.{Disk}
use Rattle.jam_journal.specs.Tables.{Text}
use Rattle.b2_project_walk.proofs.OneCourse.{one_course}
use Rattle.b2_project.specs.Loads.{loaded, lines_of}
use Rattle.b2_project.proofs.OneEnding.{one_ending}
use Rattle.b2_prepare.specs.Meaning.{load_turns, load_setting, HasLoaded, BeginLoad}

pub loaded_begins : (disk : Disk) (words lines : List Text) → HasLoaded disk words lines → BeginLoad disk words lines
loaded_begins disk words lines has ending loads =
    let same : loaded has.walk has.found ≡ ending = one_ending one_course (load_setting disk None) load_turns words (loaded has.walk has.found) ending has.loads loads in
    ([], ap lines_of (sym same) ∙ sym has.echoes ∙ sym (append-nil lines))
