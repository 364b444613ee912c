use Rattle.std.proofs.Common.{◌≡◌, ℕ, ◌<◌, ◌+◌, Bool, true, false, List, [], ◌∷◌, ◌⊎◌, inl, inr, refl, sym, ap, subst, ◌∙◌, arith, Some, None, if◌then◌else◌}
use Rattle.std.specs.List.{Contains}
use Rattle.std.specs.Str.{bytes_eq}
use Rattle.std.proofs.lemmas.Slice.Eq.{bytes_eq-Decides}
use Rattle.b2_host.specs.declared.children.ChildEvent.{ChildEvent}
use Rattle.b2_host.specs.declared.children.ChildEvent.TheVariants.{Start, Done}
use Rattle.b2_host.specs.ChildProcesses.{Given, IsWritten, ChangesOnlyOutputs, HasMade, Ends}
use Rattle.b2_host.specs.Disks.{File, Past, Stood, IsConsistent, IsOneEach}
use Rattle.b2_plan.specs.declared.step.Step.{Step}
use Rattle.b2_plan.specs.Plans.{Makes, Apart}
use Rattle.b2_plan.specs.Sources.{IsSource}
use Rattle.b2_plan.specs.Closures.{Value, Known, Known.input, Known.include, IsClosure}
use Rattle.b2_plan.specs.Cleans.{Clean}
use Rattle.b2_runs.specs.Logs.{LogTrue}
use Rattle.b2_log.specs.declared.line.LogLine.TheVariants as lines
use Rattle.b2_runs.specs.Staleness.{making, NoneOlder}
use Rattle.b2_runs.specs.Records.{IsRecordOf}
use Rattle.b2_runs.specs.Events.{IsOpen}
use Rattle.b2_runs.specs.Runs.{Settled, Settled.source, Settled.done_well, on_settled, Needed.wanted, CanStart, MayCome, IsRun}
use Rattle.b2_runs.specs.Outcomes.{AllWent, IsSettledStep, Skipped, Skipped.missing, Skipped.failed, Skipped.skipped, Skipped.quits}
use Rattle.b2_runs.specs.Soundness.{Holds, Distinguishes, IsSound, IsAllowedChange, IsAtWork, AreAtWork}
use Rattle.b2_runs.specs.Afterwards.{IsNoted}
use Rattle.b2_runs.specs.CompleteLaws.{CleanIsDefined}
use Rattle.b2_run_examples.specs.Examples.{in_path, out_path, in_file, at_entry, copying, copied, out_file, in_past, out_past, disk_before, disk_after, copy_record, log_after, copy_given, copy_child, copy_step, family_before, family_after, CopyingHolds}
use Rattle.b2_runs.proofs.FirstElementOrLater.{Contains_here, Contains_there, Contains_cases, Contains_nil}
use Rattle.b2_runs.proofs.TrueWithLine.{empty_is_true, true_with_line}
use Rattle.b2_runs.proofs.CleanIsOne.{clean_is_made}
use Rattle.b2_runs.proofs.SourcesAreKept.{source_clean}
use Rattle.b2_runs.proofs.SettledStays.{closure_on_settled}
use Rattle.b2_runs.proofs.DiskStaysSound.{sound_at_entry, sound_after_start, sound_after_change, sound_done}
use Rattle.b2_runs.proofs.RecordIsTrue.{record_is_true}
use Rattle.b2_runs.proofs.NotedAfterEachEvent.{noted_at_entry, noted_after_start, noted_after_change, noted_after_record}
use Rattle.b2_run_examples.proofs.OneStepPlan.{only_number, only_out, one_of, makes_out, in_outside, is_apart}

pub apart : Apart copying.build.steps copying.build.roots
apart = is_apart (in_path ∷ [])

abbrev member_in : List ℕ × Value
member_in = (in_path, Some (7 ∷ []))

abbrev members_in : List (List ℕ × Value)
members_in = member_in ∷ []

in_source : IsSource copying.build in_path (7 ∷ [])
in_source = record { outside = in_outside; stands = refl }

-- what is known of the step is what it reads
known_in : (path : List ℕ) → Known copying.build (Clean copying.build) copy_step path → in_path ≡ path
known_in path (input p c) = one_of in_path p c
known_in path (include p bytes found k says inc) = absurd (Contains_nil inc.include inc.listed)

pub closure : IsClosure copying.build (Clean copying.build) copy_step members_in
closure = record {
  ordered = λ i j d lt h. absurd (omega arith);
  each = λ path value c.
      let e : ◌≡◌ {A = List ℕ × Value} member_in (path, value) = one_of member_in (path, value) c in (
        subst (λ (z : List ℕ × Value). Known copying.build (Clean copying.build) copy_step z.0) e (input in_path (Contains_here in_path [])),
        subst (λ (z : List ℕ × Value). Clean copying.build z.0 z.1) e (source_clean copying.build apart in_path (7 ∷ []) in_source),
      );
  whole = λ path k. (Some (7 ∷ []), subst (λ p. Contains members_in (p, Some (7 ∷ []))) (known_in path k) (Contains_here member_in []));
}

inside : (events : List ChildEvent) (member : List ℕ) (value : Value) → Contains members_in (member, value) → Settled copying events member
inside events member value c =
    let e : ◌≡◌ {A = List ℕ × Value} member_in (member, value) = one_of member_in (member, value) c in
    subst (λ (z : List ℕ × Value). Settled copying events z.0) e (source in_path (7 ∷ []) in_source)

close_on : (events : List ChildEvent) → IsClosure copying.build (on_settled copying events) copy_step members_in
close_on events = (closure_on_settled copying events copy_step members_in apart).1 closure (inside events)

can : CanStart copying [] 1
can = record {
  step = copy_step;
  at = refl;
  needed = wanted 1 copy_step out_path (Contains_here out_path []) (makes_out (in_path ∷ []));
  not_started = λ c. Contains_nil (Start 1) c;
  members = members_in;
  closure = close_on [];
  stale = λ f. let e : None ≡ Some f.recorded.last = f.recorded.found in cc;
  room = (let h : 0 < 0 + 1 = omega arith in h);
  goes_on = λ quit k c. Contains_nil (Done k false) c;
}

-- no other step can start
none_other : (events : List ChildEvent) → Contains events (Start 1) → (k : ℕ) → CanStart copying events k → ⊥
none_other events started k c = c.not_started (subst (λ j. Contains events (Start j)) (sym (only_number (in_path ∷ []) k c.step c.at)) started)

none_lower : (k : ℕ) → k < 1 → CanStart copying [] k → ⊥
none_lower k less c = let e = only_number (in_path ∷ []) k c.step c.at in omega (arith, less, e)

pub opened : IsOpen (Start 1 ∷ []) 1
opened = (Contains_here (Start 1) [], λ well d. absurd (let e : Start 1 ≡ Done 1 well = one_of (Start 1) (Done 1 well) d in cc))

done : Contains copied (Done 1 true)
done = Contains_there (Start 1) (Done 1 true) (Done 1 true ∷ []) (Contains_here (Done 1 true) [])

may_start : MayCome copying [] (Start 1)
may_start = (can, none_lower)

pub run : IsRun copying copied
run = record {
  each = (may_start, ((opened, none_other (Start 1 ∷ []) (Contains_here (Start 1) [])), tt));
  none_open = λ i o. elim (Contains_cases (Start 1) (Start i) (Done 1 true ∷ []) o.0) [
    | inl e ↦ (let f : 1 ≡ i = (let g : Start 1 ≡ Start i = e in cc) in o.1 true (subst (λ j. Contains copied (Done j true)) f done))
    | inr c ↦ absurd (let e : Done 1 true ≡ Start i = one_of (Done 1 true) (Start i) c in cc)
  ];
  none_left = none_other copied (Contains_here (Start 1) (Done 1 true ∷ []));
}

all_settled : (i : ℕ) → IsSettledStep copying copied i
all_settled i step path m = done_well 1 step path (subst (λ j. Makes copying.build.steps j step path) (only_number (in_path ∷ []) i step m.at) m) done

none_skipped : (i : ℕ) → Skipped copying copied i → ⊥
none_skipped i (missing k step path left at known miss) = left.not_settled (all_settled i)
none_skipped i (failed k step path j other left at known makes bad) = left.not_settled (all_settled i)
none_skipped i (skipped k step path j other left at known makes bad) = left.not_settled (all_settled i)
none_skipped i (quits k j left quit bad) = left.not_settled (all_settled i)

pub went : AllWent copying copied
went = record {
  given = λ path c. inr (1, copy_step, subst (Makes copying.build.steps 1 copy_step) (one_of out_path path c) (makes_out (in_path ∷ [])));
  none_failed = λ i c. elim (Contains_cases (Start 1) (Done i false) (Done 1 true ∷ []) c) [
    | inl e ↦ absurd (let f : Start 1 ≡ Done i false = e in cc)
    | inr d ↦ absurd (let f : Done 1 true ≡ Done i false = one_of (Done 1 true) (Done i false) d in let g : true ≡ false = cc in cc)
  ];
  none_skipped = none_skipped;
  none_stuck = λ i needed. inl (all_settled i);
}

child_at_work : IsAtWork copying (Start 1 ∷ []) copy_child
child_at_work = record {
  is_open = opened;
  given = copy_given;
  told = refl;
  given_closure = record { step = copy_step; at = refl; members = members_in; closure = closure; step_is = refl; text = refl; ins = refl; outs = refl; held = refl };
  ins = refl;
  outs = refl;
}

at_work : AreAtWork copying (Start 1 ∷ []) (copy_child ∷ [])
at_work = record {
  each = λ child c. subst (IsAtWork copying (Start 1 ∷ [])) (one_of copy_child child c) child_at_work;
  once = λ i j d lt h. absurd (omega arith);
  whole = λ i o. (copy_child, Contains_here copy_child [], (let e : Start 1 ≡ Start i = one_of (Start 1) (Start i) o.0 in cc));
}

-- the file at a path of the entry
entry_file : (path : List ℕ) (file : File) → at_entry path ≡ Some file → ◌≡◌ {A = Past} in_past (record { path = path; file = file })
entry_file path file e = go (bytes_eq in_path path) refl e
  where
    go : (t : Bool) → bytes_eq in_path path ≡ t → (if t then Some in_file else None) ≡ Some file → ◌≡◌ {A = Past} in_past (record { path = path; file = file })
    go true f g =
        let p : in_path ≡ path = (bytes_eq-Decides in_path path).0 f in
        let q : in_file ≡ file = (let h : Some in_file ≡ Some file = g in cc) in
        λ i. record { path = p i; file = q i }
    go false f g = absurd (let h : None ≡ Some file = g in cc)

pub keeps_before : IsConsistent disk_before
keeps_before = record {
  one_each = λ path stamp x y a b. sym (ap (λ (p : Past). p.file.bytes) (one_of in_past _ a)) ∙ ap (λ (p : Past). p.file.bytes) (one_of in_past _ b);
  stands = λ path file e. subst (Contains (in_past ∷ [])) (entry_file path file e) (Contains_here in_past []);
}

pub one_each_after : IsOneEach disk_after.past
one_each_after path stamp x y a b = go (Contains_cases in_past (record { path = path; file = record { stamp = stamp; bytes = x } }) (out_past ∷ []) a) (Contains_cases in_past (record { path = path; file = record { stamp = stamp; bytes = y } }) (out_past ∷ []) b)
  where
    go : (◌≡◌ {A = Past} in_past (record { path = path; file = record { stamp = stamp; bytes = x } })) ⊎ Contains (out_past ∷ []) (record { path = path; file = record { stamp = stamp; bytes = x } })
        → (◌≡◌ {A = Past} in_past (record { path = path; file = record { stamp = stamp; bytes = y } })) ⊎ Contains (out_past ∷ []) (record { path = path; file = record { stamp = stamp; bytes = y } }) → x ≡ y
    go (inl p) (inl q) = sym (ap (λ (r : Past). r.file.bytes) p) ∙ ap (λ (r : Past). r.file.bytes) q
    go (inr p) (inr q) = sym (ap (λ (r : Past). r.file.bytes) (one_of out_past _ p)) ∙ ap (λ (r : Past). r.file.bytes) (one_of out_past _ q)
    go (inl p) (inr q) = absurd (let e : 1 ≡ stamp = ap (λ (r : Past). r.file.stamp) p in let f : 2 ≡ stamp = ap (λ (r : Past). r.file.stamp) (one_of out_past _ q) in omega (arith, e, f))
    go (inr p) (inl q) = absurd (let e : 2 ≡ stamp = ap (λ (r : Past). r.file.stamp) (one_of out_past _ p) in let f : 1 ≡ stamp = ap (λ (r : Past). r.file.stamp) q in omega (arith, e, f))

pub stands_after : (path : List ℕ) (file : File) → disk_after.now path ≡ Some file → Stood disk_after.past path file
stands_after path file e = go (bytes_eq out_path path) refl e
  where
    go : (t : Bool) → bytes_eq out_path path ≡ t → (if t then Some out_file else at_entry path) ≡ Some file → Stood disk_after.past path file
    go true f g =
        let p : out_path ≡ path = (bytes_eq-Decides out_path path).0 f in
        let q : out_file ≡ file = (let h : Some out_file ≡ Some file = g in cc) in
        let same : ◌≡◌ {A = Past} out_past (record { path = path; file = file }) = λ i. record { path = p i; file = q i } in
        Contains_there in_past (record { path = path; file = file }) (out_past ∷ []) (subst (Contains (out_past ∷ [])) same (Contains_here out_past []))
    go false f g = subst (Contains (in_past ∷ out_past ∷ [])) (entry_file path file g) (Contains_here in_past (out_past ∷ []))

keeps_after : IsConsistent disk_after
keeps_after = record { one_each = one_each_after; stands = stands_after }

pub others_after : (path : List ℕ) → (out_path ≡ path → ⊥) → disk_after.now path ≡ at_entry path
others_after path differ = go (bytes_eq out_path path) refl
  where
    go : (t : Bool) → bytes_eq out_path path ≡ t → (if t then Some out_file else at_entry path) ≡ at_entry path
    go true f = absurd (differ ((bytes_eq-Decides out_path path).0 f))
    go false f = refl

change : IsAllowedChange copying (Start 1 ∷ []) disk_before disk_after
change = record {
  keeps = keeps_after;
  others = λ path not_log none. others_after path (λ e. none 1 copy_step (subst (Makes copying.build.steps 1 copy_step) e (makes_out (in_path ∷ []))) (opened.0, λ d. opened.1 true d));
  grows = λ old c. subst (Contains (in_past ∷ out_past ∷ [])) (one_of in_past old c) (Contains_here in_past (out_past ∷ []));
}

out_clean : (step : Step) (path : List ℕ) → Makes copying.build.steps 1 step path → (value : Value) × Clean copying.build path value × Holds disk_after.now path value
out_clean step path m =
    let e : out_path ≡ path = only_out (in_path ∷ []) 1 step path m in
    subst (λ p. (value : Value) × Clean copying.build p value × Holds disk_after.now p value) e
    (Some (7 ∷ []), clean_is_made copying.build 1 copy_step out_path members_in apart (makes_out (in_path ∷ [])) closure, refl)

-- judging is by stamps
pub by_stamps_alone : (past : List Past) → Distinguishes copying past
by_stamps_alone past on = absurd (let e : false ≡ true = on in cc)

sound : IsSound copying copied disk_after
sound =
    let entry = sound_at_entry copying disk_before keeps_before (λ off r c. absurd (Contains_nil (lines.Record r) c)) (λ path. refl) (by_stamps_alone disk_before.past) in
    let begun = sound_after_start copying [] disk_before 1 entry in
    let changed = sound_after_change copying (Start 1 ∷ []) disk_before disk_after apart begun change (by_stamps_alone disk_after.past) in
    sound_done copying (Start 1 ∷ []) disk_after 1 true changed (λ good. out_clean)

-- the record is that of the step
copy_is : IsRecordOf copying disk_after.now copy_step members_in copy_record
copy_is = record { text = refl; outs = ((refl, refl), tt); ins = ((refl, refl), tt); digests = refl }

pub log_true : LogTrue (making copying) disk_after.past log_after
log_true =
    true_with_line (making copying) disk_after.past [] (lines.Record copy_record) (empty_is_true (making copying) disk_after.past)
    (record_is_true copying copied disk_after 1 copy_step members_in copy_record apart sound refl refl (λ path c. done_well 1 copy_step path (record { at = refl; among = c }) done) closure (inside copied) copy_is)

pub none_older : NoneOlder disk_after.now copy_step members_in
none_older out member value written read c_out c_member at_out at_member =
    let p : out_path ≡ out = one_of out_path out c_out in
    let q : in_path ≡ member = ap (λ (z : List ℕ × Value). z.0) (one_of member_in (member, value) c_member) in
    let a : Some out_file ≡ Some written = ap disk_after.now p ∙ at_out in
    let b : Some in_file ≡ Some read = ap disk_after.now q ∙ at_member in
    let w : out_file ≡ written = cc in
    let r : in_file ≡ read = cc in
    let x : 2 ≡ written.stamp = ap (λ (f : File). f.stamp) w in
    let y : 1 ≡ read.stamp = ap (λ (f : File). f.stamp) r in
    omega (arith, x, y)

noted : IsNoted copying copied disk_after.now log_after
noted =
    let begun = noted_after_start copying [] disk_before.now [] 1 apart can (noted_at_entry copying disk_before.now [] (λ outs. refl)) in
    let changed = noted_after_change copying (Start 1 ∷ []) disk_before disk_after [] apart (may_start, tt) change begun in
    noted_after_record copying (Start 1 ∷ []) disk_after.now [] 1 copy_step members_in copy_record apart changed opened refl closure copy_is none_older

defined : CleanIsDefined copying copied
defined = record {
  wanted = λ path c. (let (value, clean, holds) = out_clean copy_step path (subst (Makes copying.build.steps 1 copy_step) (one_of out_path path c) (makes_out (in_path ∷ []))) in (value, clean));
  outputs = λ i step path needed m. (let (value, clean, holds) = out_clean step path (subst (λ j. Makes copying.build.steps j step path) (only_number (in_path ∷ []) i step m.at) m) in (value, clean));
}

worked : ChangesOnlyOutputs family_before.running disk_before disk_after
worked = record {
  others = λ path none. others_after path (λ e. none (written_out path e));
  more = out_past ∷ [];
  past = refl;
  written = λ old c. written_out old.path (ap (λ (p : Past). p.path) (one_of out_past old c));
}
  where
    written_out : (path : List ℕ) → out_path ≡ path → IsWritten family_before.running path
    written_out path e = record { child = copy_child; runs = Contains_here copy_child []; out = subst (Contains (out_path ∷ [])) e (Contains_here out_path []) }

has_made : HasMade copying.build.made copy_child disk_before disk_after
has_made given told out c =
    let same : copy_given ≡ given = (let f : Some copy_given ≡ Some given = told in cc) in
    let e : out_path ≡ out = one_of out_path out c in (
      out_file,
      ap disk_after.now (sym e),
      subst (λ (g : Given). out_file.bytes ≡ copying.build.made g.text g.held out) same refl,
      λ old d. subst (λ (p : Past). p.file.stamp < 2) (one_of in_past old d) (omega arith),
    )

ends : Ends copying.build.made family_before (Some disk_before) 1 true family_after (Some disk_after)
ends = record {
  place = 0;
  child = copy_child;
  ran = refl;
  step_is = refl;
  running = refl;
  events = refl;
  given = refl;
  worked = worked;
  made_all = λ well. has_made;
}

-- the example holds
pub copying_holds : CopyingHolds
copying_holds = record { apart = apart; run = run; went = went; defined = defined; ends = ends; at_work = at_work; change = change; sound = sound; log_true = log_true; noted = noted }
