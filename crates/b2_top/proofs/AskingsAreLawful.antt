-- The words of a build, and those of plain Jam mode, ask for one plan, with one job or more.
use Rattle.std.proofs.Common.{◌≡◌, List, [], Option, Some, None, Result, Ok, sym, ap, ◌∙◌}
use Rattle.b2_base.specs.Segments.{normal_of}
use Rattle.b2_prepare.specs.Laws.{OneMeaning}
use Rattle.b2_prepare.specs.Meaning.{Refusal}
use Rattle.b2_generate.specs.Planning.{Planned}
use Rattle.jam_graph.specs.Loads.{Refusal as JamRefusal}
use Rattle.jam_engine.specs.Plans.{Target}
use Rattle.jam_prepare.specs.Laws.{OneMeaning as OneJamMeaning}
use Rattle.b2_command_line.specs.Words.{Word}
use Rattle.b2_command_line.specs.JamWords.{jam_reading}
use Rattle.b2_command_line.specs.declared.jam.JamWords.{JamWords}
use Rattle.b2_top.specs.Askings.{Source, Source.project, Source.jam_file, build_of, jam_of, asking_in, planned_of, ComesToOne}
use Rattle.b2_top.proofs.JobsAreFromOne.{some_job, jam_jobs}
use Rattle.b2_top.proofs.PromisesFollowFromCalls.{IsLawful}

project_is_one : OneMeaning → ComesToOne project
project_is_one law disk words echoes others a b p q =
    let one = law disk None words echoes others (Ok a) (Ok b) p q in
    let e : ◌≡◌ {A = Result Planned Refusal} (Ok a) (Ok b) = one.1 in
    cc

file_is_one : OneJamMeaning → (file : Word) → ComesToOne (jam_file file)
file_is_one law file disk words echoes others a b (t, is, p) (u, also, q) =
    let one = law disk None file words echoes others (Ok t) (Ok u) p q in
    let e : ◌≡◌ {A = Result Target JamRefusal} (Ok t) (Ok u) = one.1 in
    let same : t ≡ u = cc in
    is ∙ ap planned_of same ∙ sym also

pub build_is_lawful : OneMeaning → (words : List Word) → IsLawful (build_of words)
build_is_lawful law words = (project_is_one law, λ command asked. some_job words command asked)

jam_is_one : OneJamMeaning → (read : Option JamWords) → ComesToOne (asking_in read).source
jam_is_one law None = file_is_one law []
jam_is_one law (Some read) = file_is_one law (normal_of read.file)

pub jam_is_lawful : OneJamMeaning → (words : List Word) → IsLawful (jam_of words)
jam_is_lawful law words = (jam_is_one law (jam_reading words), λ command asked. jam_jobs words command asked)

-- each source comes to one plan
pub source_is_one : OneMeaning → OneJamMeaning → (source : Source) → ComesToOne source
source_is_one law jam_law project = project_is_one law
source_is_one law jam_law (jam_file file) = file_is_one jam_law file
