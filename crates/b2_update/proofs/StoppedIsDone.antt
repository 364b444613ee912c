-- An update that has stopped anywhere is done as its answer says, also after its children have ended.
use Rattle.std.proofs.Common.{◌≡◌, inl, inr, ℕ, Bool, true, false, List, ◌++◌, Option, Some, None, IfSome, is_some, sym, ap, subst, ◌∙◌, append_assoc}
use Rattle.std.specs.Option.{option_map}
use Rattle.std.proofs.lemmas.List.{append_cancel_left}
use Rattle.b2_host.specs.declared.children.ChildEvent.{ChildEvent}
use Rattle.b2_host.specs.Disks.{File, Folder, Disk}
use Rattle.b2_host.specs.ChildProcesses.{Given}
use Rattle.b2_host.specs.Outside.{Read}
use Rattle.b2_host.specs.Output.{Output}
use Rattle.b2_host.specs.ReadsAdded.{AddsReads, reads_told}
use Rattle.b2_plan.specs.Plans.{Apart}
use Rattle.b2_runs.specs.LogFiles.{IsLogIn}
use Rattle.b2_runs.specs.Staleness.{Update}
use Rattle.b2_runs.specs.Outcomes.{OnlyOutputsChange}
use Rattle.b2_runs.specs.FileReads.{IsTooBig}
use Rattle.b2_runs.specs.LogCourses.{log_file}
use Rattle.b2_runs.specs.Moments.{Moment}
use Rattle.b2_runs.specs.UpdateAnswers.{UpdateAnswer as RunAnswer, AnswerTold, WrittenBy}
use Rattle.b2_runs.proofs.CutLogIsTrue.{cut_log_is_noted}
use Rattle.b2_drain.specs.Drains.{HasStopped, StaysStopped}
use Rattle.b2_facts.specs.declared.stop.FilesStop.TheVariants as files
use Rattle.b2_facts.specs.Facts.{Knowledge}
use Rattle.b2_endings.specs.Writings.{Adds}
use Rattle.b2_update.specs.declared.stop.UpdateStop.{UpdateStop}
use Rattle.b2_update.specs.declared.stop.UpdateStop.TheVariants as stops
use Rattle.b2_update.specs.declared.update_answer.UpdateAnswer.{UpdateAnswer}
use Rattle.b2_update.specs.Answers.{answer_of}
use Rattle.b2_update.specs.InRun.{StopWritten, StopTooBig, HasHalted}
use Rattle.b2_update.specs.Endings.{IsStopAnswer}
use Rattle.b2_update.specs.Updates.{HasWritten, IsDone}
use Rattle.b2_update.proofs.WrittenThroughEnds.{written_more}

-- ---- what was written

-- the events between two moments are one list
has_written : (u : Update) (answer : RunAnswer) (entry here : Moment) (now : Folder) (events : List ChildEvent) (part : List ℕ) → here.host.children.events ≡ entry.host.children.events ++ events
    → Adds part entry.out.written here.out.written → WrittenBy u events now answer part → HasWritten u answer entry here now
has_written u answer entry here now events part are adds written others others_are =
    let one : events ≡ others = append_cancel_left entry.host.children.events events others (sym are ∙ others_are) in
    by_sink entry.out.written adds (subst (λ (l : List ChildEvent). WrittenBy u l now answer part) one written)
  where
    by_sink : (before : Option (List ℕ)) → Adds part before here.out.written → WrittenBy u others now answer part
        → IfSome before (λ text. (written : List ℕ) × (here.out.written ≡ Some (text ++ written)) × WrittenBy u others now answer written)
    by_sink None added told = tt
    by_sink (Some text) added told = (part, added, told)

-- ---- an update that has stopped

-- It is done as an answer says that is so of its events, and of what was written.
pub stopped_is_done : (u : Update) (answer : RunAnswer) (entry here : Moment) (disk later : Disk) (events : List ChildEvent) (given : List Given) (reads : List Read) (part : List ℕ)
    → Apart u.build.steps u.build.roots → u.build.folder ≡ disk.now → IsLogIn disk.now u.log → is_some here.host.reads ≡ true
    → here.host.children.events ≡ entry.host.children.events ++ events → IfSome entry.host.children.given (λ list. here.host.children.given ≡ Some (list ++ given))
    → AddsReads reads entry.host.reads here.host.reads → HasStopped u events given reads here.host.children.running later → Adds part entry.out.written here.out.written
    → AnswerTold u events later.now answer → WrittenBy u events later.now answer part → IsDone u answer entry here disk later
stopped_is_done u answer entry here disk later events given reads part apart folder log_in visible are given_are reads_are stopped adds told written = record {
  updated = record {
    events = events;
    events_are = are;
    given = given;
    given_are = given_are;
    begun = stopped.begun;
    given_closure = stopped.given_closure;
    at_work = stopped.at_work;
    changed = subst (λ (f : Folder). OnlyOutputsChange u events f later.now) folder stopped.sound.only_outputs;
    done_well = stopped.sound.done_well;
    reads = reads;
    reads_are = reads_told reads entry.host.reads here.host.reads reads_are visible;
    once = stopped.once;
    leave_lines = stopped.leave;
    cut = stopped.cut;
    noted = λ log is_in limit. cut_log_is_noted u events later.now log apart stopped.none_older (subst (λ (f : Folder). IsLogIn f u.log) (sym folder) log_in) stopped.cut limit is_in;
    told = told;
  };
  written = has_written u answer entry here later.now events part are adds written;
}

-- the answer of an update that was stopped says what was written, and names a file that is too big
abbrev IsAnswer : Update → List ChildEvent → Folder → UpdateAnswer → List ℕ → Type 0
IsAnswer u events now answer part = AnswerTold u events now (answer_of answer) × WrittenBy u events now (answer_of answer) part

is_answer : (u : Update) (events : List ChildEvent) (now : Folder) (f : Knowledge) (stop : UpdateStop) (all : Bool) (answer : UpdateAnswer) (part : List ℕ) → StopWritten u events now stop part → StopTooBig u events now f stop → IsStopAnswer f stop all answer
    → IsAnswer u events now answer part
is_answer u events now f (stops.Files files.Host) all answer part written too_big is = subst (λ a. IsAnswer u events now a part) (sym is) (tt, written)
is_answer u events now f (stops.Files files.OutOfMemory) all answer part written too_big is = subst (λ a. IsAnswer u events now a part) (sym is) (tt, written)
is_answer u events now f (stops.Files (files.TooBig number size)) true answer part written too_big (inl is) = subst (λ a. IsAnswer u events now a part) (sym is) (tt, inl written)
is_answer u events now f (stops.Files (files.TooBig number size)) true answer part written too_big (inr (path, at, is)) =
    let one : too_big.0 ≡ path = (let e : Some too_big.0 ≡ Some path = sym too_big.1 ∙ at in cc) in
    subst (λ a. IsAnswer u events now a part) (sym is) (subst (λ (p : List ℕ). IsTooBig u events now p size) one too_big.2, written)
is_answer u events now f (stops.Files (files.TooBig number size)) false answer part written too_big is = subst (λ a. IsAnswer u events now a part) (sym is) (tt, written)
is_answer u events now f stops.Sink all answer part written too_big is = subst (λ a. IsAnswer u events now a part) (sym is) (tt, written)

pub halted_is_done : (u : Update) (entry here : Moment) (f : Knowledge) (disk later : Disk) (stop : UpdateStop) (all : Bool) (answer : UpdateAnswer) → Apart u.build.steps u.build.roots → u.build.folder ≡ disk.now → IsLogIn disk.now u.log
    → is_some here.host.reads ≡ true → HasHalted u entry here f later stop → IsStopAnswer f stop all answer → IsDone u (answer_of answer) entry here disk later
halted_is_done u entry here f disk later stop all answer apart folder log_in visible h is =
    let (told, written) = is_answer u h.events later.now f stop all answer h.part h.written h.too_big is in
    stopped_is_done u (answer_of answer) entry here disk later h.events h.given h.reads h.part apart folder log_in visible h.are h.given_are h.reads_are h.stopped h.adds told written

-- ---- as its children end

-- it stays stopped so, with more ends
pub halted_stays : (u : Update) (entry here there : Moment) (f : Knowledge) (old new : Disk) (stop : UpdateStop) → Apart u.build.steps u.build.roots → there.out ≡ here.out → there.host.reads ≡ here.host.reads
    → there.host.children.given ≡ here.host.children.given → (h : HasHalted u entry here f old stop) → StaysStopped u h.events h.given h.reads here.host there.host old new → HasHalted u entry there f new stop
halted_stays u entry here there f old new stop apart out reads given h stays = record {
  events = h.events ++ stays.ends;
  are = stays.came ∙ ap (λ (l : List ChildEvent). l ++ stays.ends) h.are ∙ append_assoc entry.host.children.events h.events stays.ends;
  given = h.given;
  given_are = subst (λ (now : Option (List Given)). IfSome entry.host.children.given (λ list. now ≡ Some (list ++ h.given))) (sym given) h.given_are;
  reads = h.reads;
  reads_are = subst (AddsReads h.reads entry.host.reads) (sym reads) h.reads_are;
  stopped = stays.stopped;
  part = h.part;
  adds = subst (Adds h.part entry.out.written) (sym (ap (λ (o : Output). o.written) out)) h.adds;
  written = written_more u h.events stays.ends old new apart stays.open_ends stays.changed log stop h.part h.written;
  too_big = too_big stop h.too_big;
}
  where
    log : log_file new.now ≡ log_file old.now
    log = ap (option_map (λ (file : File). file.bytes)) stays.log

    too_big : (s : UpdateStop) → StopTooBig u h.events old.now f s → StopTooBig u (h.events ++ stays.ends) new.now f s
    too_big (stops.Files files.Host) told = tt
    too_big (stops.Files files.OutOfMemory) told = tt
    too_big (stops.Files (files.TooBig number size)) (path, at, is) = (path, at, stays.too_big path size is)
    too_big stops.Sink told = tt
