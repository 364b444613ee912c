-- What a file comes to that is read, and runs to its end or not.
use Rattle.std.proofs.Common.{◌⊎◌, inl, inr, ◌≡◌, List, [], ◌∷◌, ◌++◌, Option, Some, None, Result, Ok, Err, IfOk, IfErr, refl, sym, ap, ap₂, ◌∙◌, subst, arith}
use Rattle.std.specs.Option.{IfSome}
use Rattle.std.specs.List.{AllByRecursion}
use Rattle.std.proofs.lemmas.Option.{same_Some}
use Rattle.b2_host.specs.Disks.{Disk}
use Rattle.b2_base.specs.Counts.{Rose}
use Rattle.b2_host.specs.declared.fault.IoFault.{IoFault}
use Rattle.b2_host.specs.declared.fault.IoFault.TheVariants as io
use Rattle.b2_host.specs.Outside.{Outside, Fails}
use Rattle.b2_host.specs.OutsideLaws.{keeps_same, keeps_then, keeps_fails, keeps_reads}
use Rattle.b2_host.specs.FileCalls.{after_read}
use Rattle.jam_grammar.specs.Trees.{StmtTrees}
use Rattle.jam_journal.specs.Tables.{Text}
use Rattle.jam_journal.specs.Scopes.{Frame}
use Rattle.jam_lexer.specs.declared.fault.LexFault.{LexFault}
use Rattle.jam_lexer.specs.declared.fault.LexFault.TheVariants as lexing
use Rattle.jam_scope.specs.Worlds.{World, Worlds}
use Rattle.jam_scope.specs.Changes.{first_worlds}
use Rattle.jam_meaning.specs.Eval.{run}
use Rattle.jam_meaning.specs.Kept.{Ends, Grows}
use Rattle.jam_meaning.specs.Laws.{bounds}
use Rattle.jam_meaning.specs.Outcomes.{Outcome, gives, faults}
use Rattle.jam_meaning.specs.Settings.{Setting, Reading, has_no_tokens, is_file, IsReading}
use Rattle.jam_meaning.specs.States.{State}
use Rattle.jam_effects.specs.Does.{Tells as EvalTells, Counts as EvalCounts, Agrees}
use Rattle.jam_effects.specs.Machines.{Machine, machine, state_of, folder_of, IsSettingOf}
use Rattle.jam_effects.specs.Views.{ended}
use Rattle.jam_effects.specs.declared.fault.EvalFault.{EvalFault}
use Rattle.jam_effects.specs.declared.fault.EvalFault.TheVariants as evaluating
use Rattle.jam_effects.specs.declared.turns.Turns.{Turns}
use Rattle.jam_interp.specs.FunctionParts.{run_at}
use Rattle.jam_values.specs.declared.files.FileReading.{FileReading}
use Rattle.jam_values.specs.FileReadings.{ReadsOnce}
use Rattle.jam_values.proofs.OneReading.{one_reading}
use Rattle.jam_graph.specs.declared.fault.JamFault.{JamFault}
use Rattle.jam_graph.specs.declared.fault.JamFault.TheVariants as jam
use Rattle.jam_graph.specs.declared.graph.Act.{Act}
use Rattle.jam_graph.specs.declared.graph.Graph.{Graph}
use Rattle.jam_graph.specs.declared.natives.GraphNatives.{GraphNatives}
use Rattle.jam_graph.specs.Calling.{kept_of}
use Rattle.jam_graph.specs.Graphs.{GraphKept, nothing_kept, graph_meaning, HasActions, HasTarget, IsReady}
use Rattle.jam_graph.specs.Loads.{Ending, after_run, after_reading, begun, loads}
use Rattle.jam_graph.specs.Loading.{IsSettingFor, of_eval, of_lex, IsEnding, TellsGraph, TellsReading, IsGraphOf, EndsSo, IsLoaded, Leaves, Counts, CountsFault, IsWhole, of_io}
use Rattle.jam_graph.proofs.LinesAreAdded.{echoes_of, lines_are_added}

-- ---- a file that runs

-- lines of an outcome come after those from before
lines_after : (path : Text) (s : State GraphKept) (o : Outcome GraphKept (Unit {0})) → Ends (Grows echoes_of) s o → (more : List Text) × ((after_run path o).echoes ≡ s.kept.jam.echoes ++ more)
lines_after path s (gives u later) h = h
lines_after path s (faults fault later) h = h

module _ (path : Text) (tree : StmtTrees) (host later : Outside) (turns left : Turns) (start worlds : Worlds) (before natives : GraphNatives) (first : start ≡ first_worlds) (none : kept_of before ≡ nothing_kept) where
  abbrev from : Machine GraphKept
  from = machine start turns (kept_of before) (Some graph_meaning) host

  abbrev to : Machine GraphKept
  to = machine worlds left (kept_of natives) (Some graph_meaning) later

  abbrev Ran : Result (Unit {0}) EvalFault → Type 0
  Ran result = EvalTells ended (run_at path tree) from to result

  -- it begins in the first world, with nothing kept
  begins : state_of from ≡ begun turns.left
  begins = ap₂ (λ (ws : Worlds) (kept : GraphKept). record { worlds = ws; left = turns.left; kept = kept }) first none

  setting_of : (setting : Setting GraphKept) → IsSettingFor setting turns.budget host → IsSettingOf setting from
  setting_of setting right = record { budget = right.budget; natives = ap Some (sym right.natives); folder = right.folder; right = right.right }

  abbrev Comes : Setting GraphKept → Ending
  Comes setting = after_run path (run setting path tree (begun turns.left))

  -- by how the run ended
  agreed : (setting : Setting GraphKept) → setting.natives ≡ graph_meaning → (result : Result (Unit {0}) EvalFault) → Agrees setting ended result (run setting path tree (state_of from)) (state_of to)
      → Agrees setting ended result (run setting path tree (begun turns.left)) (state_of to)
  agreed setting is result h = subst (λ s. Agrees setting ended result (run setting path tree s) (state_of to)) begins h

  stopped : (e : EvalFault) → Ran (Err e) → TellsReading (is_file tree) host path turns left (kept_of natives).jam.echoes (Err (of_eval e))
  stopped evaluating.Host ran setting right refuses =
      lines_after path (state_of to) (run setting path tree (begun turns.left))
      (agreed setting right.natives (Err evaluating.Host) (ran setting (setting_of setting right) refuses) echoes_of (lines_are_added setting right.natives))
  stopped evaluating.OutOfMemory ran setting right refuses = tt
  stopped (evaluating.At at line why) ran setting right refuses =
      ap (after_run path) (agreed setting right.natives (Err (evaluating.At at line why)) (ran setting (setting_of setting right) refuses))

  made : (graph : Graph) → Ran (Ok tt) → IsGraphOf path worlds natives graph → TellsReading (is_file tree) host path turns left (kept_of natives).jam.echoes (Ok graph)
  made graph ran is setting right refuses =
      ap (after_run path) (agreed setting right.natives (Ok tt) (ran setting (setting_of setting right) refuses))
      ∙ ap (λ (g : Graph). let whole : Ending = record { echoes = (kept_of natives).jam.echoes; result = Ok g } in whole) (sym is)

  pub tree_told : (run_ended : Result (Unit {0}) EvalFault) (result : Result Graph JamFault) → Ran run_ended → EndsSo path worlds natives run_ended result
      → TellsReading (is_file tree) host path turns left (kept_of natives).jam.echoes result
  tree_told (Ok tt) (Ok graph) ran is = made graph ran is
  tree_told (Ok tt) (Err fault) ran is = subst (λ f. TellsReading (is_file tree) host path turns left (kept_of natives).jam.echoes (Err f)) (sym is) (λ setting right refuses. tt)
  tree_told (Err e) (Ok graph) ran is = absurd is
  tree_told (Err e) (Err fault) ran is = subst (λ f. TellsReading (is_file tree) host path turns left (kept_of natives).jam.echoes (Err f)) (sym is) (stopped e ran)

-- the count of the host's faults
counts_eval : (e : EvalFault) (a b : Outside) → EvalCounts {A = Unit {0}} (Err e) a b → CountsFault (of_eval e) a b
counts_eval evaluating.Host a b h = h
counts_eval evaluating.OutOfMemory a b h = tt
counts_eval (evaluating.At path line why) a b h = h

pub tree_counts : (path : Text) (worlds : Worlds) (natives : GraphNatives) (run_ended : Result (Unit {0}) EvalFault) (result : Result Graph JamFault) (a b : Outside) → EvalCounts run_ended a b → EndsSo path worlds natives run_ended result → Counts result a b
tree_counts path worlds natives (Ok u) (Ok graph) a b h is = h
tree_counts path worlds natives (Ok u) (Err fault) a b h is = subst (λ f. CountsFault f a b) (sym is) tt
tree_counts path worlds natives (Err e) (Ok graph) a b h is = absurd is
tree_counts path worlds natives (Err e) (Err fault) a b h is = subst (λ f. CountsFault f a b) (sym is) (counts_eval e a b h)

-- frames that bind as none do are none
pub no_frames : (frames : List Frame) → bounds frames ≡ [] → frames ≡ []
no_frames [] h = refl
no_frames (frame ∷ frames) h = absurd (nil_cons (sym h))
  where
    nil_cons : {A : Type 0} {x : A} {xs : List A} → [] ≡ x ∷ xs → ⊥
    nil_cons e = (let both = e in cc)

-- acts that have actions and targets have actions, and have targets
pub all_ready : (w : World) (acts : List Act) → AllByRecursion (λ act. HasActions w act × HasTarget act) acts → AllByRecursion (HasActions w) acts × AllByRecursion HasTarget acts
all_ready w [] h = (tt, tt)
all_ready w (act ∷ acts) (one, more) = (let rest = all_ready w acts more in ((one.0, rest.0), (one.1, rest.1)))

-- ---- a file that does not run

pub tokens_told : (path : Text) (fault : LexFault) (host : Outside) (turns left : Turns) → TellsReading (has_no_tokens fault) host path turns left [] (Err (of_lex path fault))
tokens_told path (lexing.NotUtf8 at) host turns left setting right refuses = refl
tokens_told path (lexing.OpenQuote line) host turns left setting right refuses = refl
tokens_told path (lexing.OpenActions line) host turns left setting right refuses = refl
tokens_told path lexing.OutOfMemory host turns left setting right refuses = tt

pub tokens_counts : (path : Text) (fault : LexFault) (o : Outside) → CountsFault (of_lex path fault) o o
tokens_counts path (lexing.NotUtf8 at) o = refl
tokens_counts path (lexing.OpenQuote line) o = refl
tokens_counts path (lexing.OpenActions line) o = refl
tokens_counts path lexing.OutOfMemory o = tt

-- ---- reading it

-- a disk that was read holds the folder of the setting
same_reading : (disk : Option Disk) (setting : Setting GraphKept) (path : Text) (reading : Reading) → folder_of disk ≡ Some setting.sight.folder → IsReading setting.sight.folder path (setting.reading path)
    → IfSome disk (λ (d : Disk). IsReading d.now path reading) → setting.reading path ≡ reading
same_reading None setting path reading folder reads read = absurd (none_some folder)
  where
    none_some : {A : Type 0} {x : A} → None ≡ Some x → ⊥
    none_some e = (let both = e in cc)
same_reading (Some disk) setting path reading folder reads read =
    one_reading disk.now path (setting.reading path) reading (subst (λ f. IsReading f path (setting.reading path)) (sym (same_Some _ _ folder)) reads) read

pub file_told : (path : Text) (reading : Reading) (host read : Outside) (turns left : Turns) (echoes : List Text) (result : Result Graph JamFault) → read.disk ≡ host.disk
    → IfSome host.disk (λ (d : Disk). IsReading d.now path reading) → TellsReading reading read path turns left echoes result → TellsGraph host path turns left echoes result
file_told path reading host read turns left echoes result disk is told setting right refuses =
    subst (λ r. IsEnding (after_reading setting path turns.left r) echoes result) (sym (same_reading host.disk setting path reading right.folder (right.right.reads path) is))
    (told setting (record { budget = right.budget; natives = right.natives; folder = ap folder_of disk ∙ right.folder; right = right.right }) refuses)

-- a read, and what follows it
pub read_leaves : (path : Text) (before after last : Outside) (turns left : Turns) → after ≡ after_read path before → Leaves after last turns left → Leaves before last turns left
read_leaves path before after last turns left same h = record {
  turns_fall = h.turns_fall;
  budget = h.budget;
  disk = h.disk ∙ ap (λ (o : Outside). o.disk) same;
  children = h.children ∙ ap (λ (o : Outside). o.children) same;
  keeps = keeps_then before after last (keeps_reads {T = Unit {0}} path before after (Ok tt) same) h.keeps;
}

pub leaves_same : (o : Outside) (turns : Turns) → Leaves o o turns turns
leaves_same o turns = record { turns_fall = omega arith; budget = refl; disk = refl; children = refl; keeps = keeps_same o o refl }

-- ---- a load that was refused before anything ran

pub refused_told : (was is : Reading) (host : Outside) (path : Text) (turns left : Turns) (echoes : List Text) (result : Result Graph JamFault) (fault : JamFault) → was ≡ is → echoes ≡ [] → result ≡ Err fault
    → TellsReading is host path turns left [] (Err fault) → TellsReading was host path turns left echoes result
refused_told was is host path turns left echoes result fault same none why h =
    subst (λ r. TellsReading r host path turns left echoes result) (sym same)
    (subst (λ (e : List Text). TellsReading is host path turns left e result) (sym none) (subst (λ (r : Result Graph JamFault). TellsReading is host path turns left [] r) (sym why) h))

pub refused_ready : (result : Result Graph JamFault) (fault : JamFault) → result ≡ Err fault → IfOk result IsReady
refused_ready result fault why = subst (λ (r : Result Graph JamFault). IfOk r IsReady) (sym why) tt

pub refused_whole : (result : Result Graph JamFault) (fault : JamFault) → result ≡ Err fault → IsWhole fault → IfErr result IsWhole
refused_whole result fault why h = subst (λ (r : Result Graph JamFault). IfErr r IsWhole) (sym why) h

pub refused_counts : (result : Result Graph JamFault) (fault : JamFault) (a b : Outside) → result ≡ Err fault → CountsFault fault a b → Counts result a b
refused_counts result fault a b why h = subst (λ (r : Result Graph JamFault). Counts r a b) (sym why) h

-- the file is not read, or memory ran out as it was
pub unread_leaves : (before after : Outside) (turns : Turns) → Fails before after → Leaves before after turns turns
unread_leaves before after turns failed = record {
  turns_fall = omega arith;
  budget = refl;
  disk = ap (λ (o : Outside). o.disk) failed.same;
  children = ap (λ (o : Outside). o.children) failed.same;
  keeps = keeps_fails before after failed;
}

pub memory_leaves : (path : Text) (before after : Outside) (turns : Turns) → (after ≡ before) ⊎ (after ≡ after_read path before) → Leaves before after turns turns
memory_leaves path before after turns (inl same) = record {
  turns_fall = omega arith;
  budget = refl;
  disk = ap (λ (o : Outside). o.disk) same;
  children = ap (λ (o : Outside). o.children) same;
  keeps = keeps_same before after same;
}
memory_leaves path before after turns (inr read) = read_leaves path before after after turns turns read (leaves_same after turns)

-- nothing is said of a load that ran out of memory, or of a host that failed before anything ran
pub memory_told : (host : Outside) (path : Text) (turns left : Turns) (echoes : List Text) (result : Result Graph JamFault) → result ≡ Err jam.OutOfMemory → TellsGraph host path turns left echoes result
memory_told host path turns left echoes result why = subst (λ (r : Result Graph JamFault). TellsGraph host path turns left echoes r) (sym why) (λ setting right refuses. tt)

pub host_told : (host : Outside) (path : Text) (turns left : Turns) (echoes : List Text) (result : Result Graph JamFault) → echoes ≡ [] → result ≡ Err jam.Host → TellsGraph host path turns left echoes result
host_told host path turns left echoes result none why =
    subst (λ (e : List Text). TellsGraph host path turns left e result) (sym none)
    (subst (λ (r : Result Graph JamFault). TellsGraph host path turns left [] r) (sym why) (λ setting right refuses. ((loads setting path turns.left).echoes, refl)))

-- the count of faults before a read
pub read_counts : (path : Text) (before after last : Outside) (result : Result Graph JamFault) → after ≡ after_read path before → Counts result after last → Counts result before last
read_counts path before after last (Ok graph) same h = h ∙ ap (λ (o : Outside). o.faults) same
read_counts path before after last (Err fault) same h = go fault h
  where
    faults_same : after.faults ≡ before.faults
    faults_same = ap (λ (o : Outside). o.faults) same

    go : (f : JamFault) → CountsFault f after last → CountsFault f before last
    go jam.Host k = subst (λ n. Rose n last.faults) faults_same k
    go jam.OutOfMemory k = tt
    go (jam.NoFile at) k = k ∙ faults_same
    go (jam.TooBig at size) k = k ∙ faults_same
    go (jam.Lex at f) k = k ∙ faults_same
    go (jam.Syntax at f) k = k ∙ faults_same
    go (jam.Eval f) k = k ∙ faults_same
    go (jam.NoTarget name) k = k ∙ faults_same
    go (jam.MixedNotFile target) k = k ∙ faults_same
    go (jam.PathClash at) k = k ∙ faults_same
    go (jam.LocationOutside at) k = k ∙ faults_same
    go (jam.TooManySteps count) k = k ∙ faults_same

-- ---- all that is promised

pub found_nothing : (reading : Reading) (host after : Outside) (path : Text) (turns left : Turns) (echoes : List Text) (result : Result Graph JamFault) → result ≡ Err jam.OutOfMemory → Leaves host after turns left
    → IsLoaded (TellsReading reading host path turns left echoes result) host after turns left result
found_nothing reading host after path turns left echoes result why leaves = record {
  told = subst (λ (r : Result Graph JamFault). TellsReading reading host path turns left echoes r) (sym why) (λ setting right refuses. tt);
  ready = refused_ready result jam.OutOfMemory why;
  whole = refused_whole result jam.OutOfMemory why tt;
  leaves = leaves;
  counts = refused_counts result jam.OutOfMemory host after why tt;
}

pub file_loaded : (path : Text) (reading : Reading) (host read after : Outside) (turns left : Turns) (echoes : List Text) (result : Result Graph JamFault) → read ≡ after_read path host → IfSome host.disk (λ (d : Disk). IsReading d.now path reading)
    → IsLoaded (TellsReading reading read path turns left echoes result) read after turns left result → IsLoaded (TellsGraph host path turns left echoes result) host after turns left result
file_loaded path reading host read after turns left echoes result same is h = record {
  told = file_told path reading host read turns left echoes result (ap (λ (o : Outside). o.disk) same) is h.told;
  ready = h.ready;
  whole = h.whole;
  leaves = read_leaves path host read after turns left same h.leaves;
  counts = read_counts path host read after result same h.counts;
}

pub file_unread : (fault : IoFault) (path : Text) (host after : Outside) (turns : Turns) (echoes : List Text) (result : Result Graph JamFault) → ReadsOnce {T = FileReading} path host after (Err fault) → echoes ≡ [] → result ≡ Err (of_io fault)
    → IsLoaded (TellsGraph host path turns turns echoes result) host after turns turns result
file_unread io.Failed path host after turns echoes result failed none why = record {
  told = host_told host path turns turns echoes result none why;
  ready = refused_ready result jam.Host why;
  whole = refused_whole result jam.Host why tt;
  leaves = unread_leaves host after turns failed;
  counts = refused_counts result jam.Host host after why failed.rose;
}
file_unread io.OutOfMemory path host after turns echoes result either none why = record {
  told = memory_told host path turns turns echoes result why;
  ready = refused_ready result jam.OutOfMemory why;
  whole = refused_whole result jam.OutOfMemory why tt;
  leaves = memory_leaves path host after turns either;
  counts = refused_counts result jam.OutOfMemory host after why tt;
}
