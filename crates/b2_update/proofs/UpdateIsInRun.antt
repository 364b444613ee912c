-- An update that has begun is between two events, where the files are visible.
use Rattle.std.proofs.Common.{◌≡◌, ◌⊎◌, inl, inr, ℕ, zero, suc, ◌+◌, ◌<◌, List, [], ◌∷◌, Some, false, sym, ap, subst, ◌∙◌, arith, length, slice_get, slice_index_or, is_some}
use Rattle.std.specs.List.{Contains, AllByRecursion}
use Rattle.std.proofs.lemmas.Bool.{cases_lt, true≢false, false≢true}
use Rattle.std.proofs.lemmas.List.{get_or_past}
use Rattle.b2_host.specs.Disks.{Disk, Past, IsConsistent}
use Rattle.b2_host.specs.Outside.{Read}
use Rattle.b2_host.specs.OutsideLaws.{only_one}
use Rattle.b2_host.specs.FileCalls.{log_path}
use Rattle.b2_host.specs.LogChanges.{ChangesOnlyAt}
use Rattle.b2_host.specs.ReadsAdded.{AddsReads}
use Rattle.b2_plan.specs.declared.plan.Plan.{Plan}
use Rattle.b2_plan.specs.declared.step.Step.{Step}
use Rattle.b2_plan.specs.Plans.{Apart, step_at}
use Rattle.b2_plan.specs.Sources.{IsInRoots}
use Rattle.b2_log.specs.declared.line.LogLine.{LogLine}
use Rattle.b2_log.specs.declared.line.LogLine.TheVariants as lines
use Rattle.b2_log.specs.Good.{IsGood}
use Rattle.b2_runs.specs.Logs.{RecordsTrue, ScansTrue}
use Rattle.b2_runs.specs.LogFiles.{IsLogIn}
use Rattle.b2_runs.specs.Staleness.{Update, making}
use Rattle.b2_runs.specs.Soundness.{Distinguishes}
use Rattle.b2_runs.specs.LogCourses.{Opening.to_update, FirstLines, IsLogAfter.begins, held_bytes, log_file}
use Rattle.b2_runs.specs.Moments.{Moment}
use Rattle.b2_runs.proofs.CutLogIsTrue.{held_counts}
use Rattle.b2_runs.proofs.FailuresLeaveNothing.{nothing_left_at_entry}
use Rattle.b2_runs.proofs.FirstLinesAreOne.{begin_tells_records, begin_is_among}
use Rattle.b2_runs.proofs.SourcesAreKept.{log_in_roots}
use Rattle.b2_runs.proofs.TrueWithLine.{record_grows, scan_grows}
use Rattle.b2_sched.specs.Schedules.{IsUnjudged, IsStep, state_of}
use Rattle.b2_sched.specs.Keeping.{is_unjudged}
use Rattle.b2_turns.specs.Starts.{is_settled}
use Rattle.b2_sched.specs.declared.state.State.{State}
use Rattle.b2_sched.specs.declared.state.State.TheVariants.{Unjudged, Stale, Running, Settled}
use Rattle.b2_facts.specs.declared.file_facts.FileFacts.{FileFacts}
use Rattle.b2_facts.specs.Facts.{Knowledge, IsAbout, no_facts, file_at}
use Rattle.b2_facts.specs.Truth.{AreTrue}
use Rattle.b2_journal.specs.Notes.{HasLines}
use Rattle.b2_journal.specs.Openings.{IsOpened}
use Rattle.b2_reach.specs.declared.sights.Sights.{Sights}
use Rattle.b2_reach.specs.Sightings.{IsTrueSight}
use Rattle.b2_reach.specs.Laws.{IsUpdateOf}
use Rattle.b2_looks.specs.declared.looks.Looks.{Looks}
use Rattle.b2_looks.specs.Looks.{AreLooks, Follows}
use Rattle.b2_looks.specs.UnderWay.{AreTrueLooks}
use Rattle.b2_update.specs.declared.run.Run.{Run}
use Rattle.b2_update.specs.InRun.{IsInRun}
use Rattle.b2_update.proofs.UpdateStandsAtEntry.{grown, writes_none, log_once, log_leaves, sound_begins, ran_none}

-- ---- the log

-- the records that an update begins with are true where those of the log at entry were
first_records : (u : Update) (disk later : Disk) (first : List LogLine) → FirstLines to_update (held_bytes (log_file disk.now)) first
    → IsLogIn disk.now u.log → ((old : Past) → Contains disk.past old → Contains later.past old) → RecordsTrue (making u) disk.past u.log
    → RecordsTrue (making u) later.past first
first_records u disk later first b log_in grows records r among =
    record_grows (making u) disk.past later.past r grows
    (records r (begin_is_among to_update (held_bytes (log_file disk.now)) first u.log (lines.Record r) b (held_counts (log_file disk.now) u.log log_in) among))

first_scans : (u : Update) (disk later : Disk) (first : List LogLine) → FirstLines to_update (held_bytes (log_file disk.now)) first
    → IsLogIn disk.now u.log → ((old : Past) → Contains disk.past old → Contains later.past old) → ScansTrue (making u) disk.past u.log
    → ScansTrue (making u) later.past first
first_scans u disk later first b log_in grows scans s among =
    scan_grows (making u) disk.past later.past s grows
    (scans s (begin_is_among to_update (held_bytes (log_file disk.now)) first u.log (lines.Scan s) b (held_counts (log_file disk.now) u.log log_in) among))

-- ---- what is known

nothing_at : {X : Type 0} (n : ℕ) (x : X) → slice_get [] n ≡ Some x → ⊥
nothing_at zero x e = false≢true (ap is_some e)
nothing_at (suc n) x e = false≢true (ap is_some e)

sight_begins : (u : Update) (disk later : Disk) (s : Sights) → Apart u.build.steps u.build.roots → IsConsistent later → u.build.folder ≡ disk.now
    → ChangesOnlyAt log_path disk later → s.facts ≡ no_facts → IsAbout u.build.steps u.build.roots s.facts → AreTrue u.build later.now s.facts
    → ScansTrue (making u) later.past s.journal → IsTrueSight u later s
sight_begins u disk later s apart consistent folder only none about facts scans = record {
  consistent = consistent;
  sources = λ path outside. only.others path (λ log. outside (subst (IsInRoots u.build.roots) (sym log) (log_in_roots u.build apart))) ∙ sym (ap (λ f. f path) folder);
  about = about;
  facts = facts;
  log_unseen = λ n file is. absurd (nothing_at n file (sym (ap (λ (f : Knowledge). slice_get f.files n) none) ∙ is.file_is));
  scans = scans;
}

-- ---- the steps

-- a step that makes a path is one of the schedule
step_within : (steps : List Step) (i : ℕ) (step : Step) → step_at steps i ≡ Some step → (0 < i) × (i < length steps + 1)
step_within steps zero step at = absurd (false≢true (ap is_some at))
step_within steps (suc place) step at = (omega arith, (let w = get_within steps place step at in omega (arith, w)))
  where
    get_within : {X : Type 0} (xs : List X) (n : ℕ) (x : X) → slice_get xs n ≡ Some x → n < length xs
    get_within [] zero x e = absurd (false≢true (ap is_some e))
    get_within [] (suc n) x e = absurd (false≢true (ap is_some e))
    get_within (y ∷ xs) zero x e = omega arith
    get_within (y ∷ xs) (suc n) x e = let w = get_within xs n x e in omega (arith, w)

not_both : (s : State) → s ≡ Unjudged → s ≡ Settled → ⊥
not_both s a b = true≢false (sym (ap is_unjudged a) ∙ ap is_unjudged b)

not_stale : (s : State) → s ≡ Unjudged → s ≡ Stale → ⊥
not_stale s a b = true≢false (sym (ap is_unjudged a) ∙ ap is_unjudged b)

not_running : (s : State) → s ≡ Unjudged → s ≡ Running → ⊥
not_running s a b = true≢false (sym (ap is_unjudged a) ∙ ap is_unjudged b)

settled_else : (s : State) → s ≡ Settled → (s ≡ Stale) ⊎ (s ≡ Running) → ⊥
settled_else s a (inl b) = true≢false (sym (ap is_settled a) ∙ ap is_settled b)
settled_else s a (inr b) = true≢false (sym (ap is_settled a) ∙ ap is_settled b)

-- what is not judged is neither stale nor running, and no number of another kind is
unjudged_else : (states : List State) (i : ℕ) → ((k : ℕ) → 0 < k → k < length states → slice_index_or states k Settled ≡ Unjudged)
    → slice_index_or states 0 Settled ≡ Settled → (slice_index_or states i Settled ≡ Unjudged) ⊎ (slice_index_or states i Settled ≡ Settled)
unjudged_else states zero unjudged first = inr first
unjudged_else states (suc i) unjudged first = elim (cases_lt (suc i) (length states)) [
  | inl within ↦ inl (unjudged (suc i) (omega arith) within)
  | inr past ↦ inr (get_or_past states (suc i) Settled past)
]

looks_begin : (u : Update) (plan : Plan) (disk : Disk) (s : Sights) (l : Looks) → u.build.steps ≡ plan.steps → AreLooks plan 0 s.facts l
    → ((i : ℕ) → IsStep l.board.sched i → IsUnjudged l.board.sched i) → AreTrueLooks u [] disk s l
looks_begin u plan disk s l steps looks unjudged =
    let states = l.board.sched.states in
    let within : (i : ℕ) (step : Step) → step_at u.build.steps i ≡ Some step → IsStep l.board.sched i = λ i step at.
    let w = step_within u.build.steps i step at in
    let size = looks.board.size ∙ sym (ap (λ (xs : List Step). length xs + 1) steps) in
    record { some = w.0; within = (let v = w.1 in omega (arith, v, size)) } in
    let else = λ (i : ℕ). unjudged_else states i (λ k some below. unjudged k (record { some = some; within = below })) looks.board.request in
    record {
      settled = λ i is step path makes. absurd (not_both (state_of l.board.sched i) (unjudged i (within i step makes.at)) is);
      stale = λ i is. absurd (elim (else i) [ inl none ↦ not_stale (state_of l.board.sched i) none is | inr settled ↦ settled_else (state_of l.board.sched i) settled (inl is) ]);
      ready = λ i numbers is kept. absurd (elim is [
        | inl stale ↦ elim (else i) [ inl none ↦ not_stale (state_of l.board.sched i) none stale | inr settled ↦ settled_else (state_of l.board.sched i) settled (inl stale) ]
        | inr running ↦ elim (else i) [ inl none ↦ not_running (state_of l.board.sched i) none running | inr settled ↦ settled_else (state_of l.board.sched i) settled (inr running) ]
      ]);
      migrated = λ digests i step members settled at none closure. absurd (not_both (state_of l.board.sched i) (unjudged i (within i step at)) settled);
    }

-- ---- the update

pub in_run_begins : (u : Update) (plan : Plan) (entry here : Moment) (disk later : Disk) (run : Run) (read : Read)
    → Apart u.build.steps u.build.roots → IsUpdateOf u.build.steps u.build.roots u → u.build.steps ≡ plan.steps → u.by_digest ≡ run.sights.by_digest
    → entry.host.children.running ≡ [] → here.host.children ≡ entry.host.children → here.out ≡ entry.out
    → IsConsistent disk → IsConsistent later → u.build.folder ≡ disk.now → IsLogIn disk.now u.log
    → (u.all ≡ false → RecordsTrue (making u) disk.past u.log) → ScansTrue (making u) disk.past u.log
    → ChangesOnlyAt log_path disk later → Distinguishes u later.past
    → read.path ≡ log_path → AddsReads (read ∷ []) entry.host.reads here.host.reads
    → IsOpened to_update disk later run.sights.journal → AllByRecursion IsGood run.sights.journal
    → run.sights.facts ≡ no_facts → IsAbout u.build.steps u.build.roots run.sights.facts → AreTrue u.build later.now run.sights.facts
    → AreLooks plan 0 run.sights.facts run.looks → Follows [] run.looks
    → ((i : ℕ) → IsStep run.looks.board.sched i → IsUnjudged run.looks.board.sched i) → run.updated ≡ 0
    → IsInRun u entry here run later []
in_run_begins u plan entry here disk later run read apart update steps by_digest idle same out consistent consistent_later folder log_in records scans only distinct at adds opened good none about facts looks follows unjudged updated =
    let grows = grown log_path disk later only in
    let first = run.sights.journal in
    let file : log_file u.build.folder ≡ log_file disk.now = ap log_file folder in
    let no_file : (n : ℕ) (file : FileFacts) → file_at run.sights.facts n ≡ Some file → ⊥ = λ n x is. nothing_at n x (sym (ap (λ (f : Knowledge). slice_get f.files n) none) ∙ is) in
    record {
      stands = record {
        ran = ran_none u entry here later idle same;
        gone = nothing_left_at_entry u later.now [];
        first = first;
        reads = read ∷ [];
        reads_are = adds;
        under_way = record {
          apart = apart;
          update = update;
          run = tt;
          sound = sound_begins u disk later apart consistent consistent_later records folder only distinct;
          begins = subst (λ held. FirstLines to_update (held_bytes held) first) (sym file) opened.begins;
          tells = λ outs. begin_tells_records to_update (held_bytes (log_file disk.now)) first u.log outs opened.begins (held_counts (log_file disk.now) u.log log_in);
          first_true = λ some. first_records u disk later first opened.begins log_in grows (records some);
          course = begins;
          good = good;
          file = subst (λ held. HasLines held later.now first) (sym file) opened.file;
          once = log_once u [] later.past read at;
          leave = log_leaves u later.past read;
          have = λ other stamp among scan. absurd (scan.not_log (sym (ap (λ (r : Read). r.path) (only_one read other among)) ∙ at));
          sight = sight_begins u disk later run.sights apart consistent_later folder only none about facts (first_scans u disk later first opened.begins log_in grows scans);
          lined = λ n path file is. absurd (no_file n file is.file_is);
          blank = λ n k file is. absurd (no_file n file is);
          by_digest = by_digest;
        };
        true_looks = looks_begin u plan later run.sights run.looks steps looks unjudged;
        written = writes_none entry.out.written here.out.written (ap (λ o. o.written) out);
      };
      counted = record { follows = follows; updated = updated };
    }
