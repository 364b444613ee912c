use Rattle.std.proofs.Common.{◌≡◌, ℕ, zero, suc, Bool, true, false, List, [], length, inl, inr, refl, sym, subst, ◌∙◌, ◌⊎◌}
use Rattle.std.specs.List.{Contains}
use Rattle.b2_host.specs.declared.children.ChildEvent.{ChildEvent}
use Rattle.b2_host.specs.declared.children.ChildEvent.TheVariants.{Start, Done}
use Rattle.b2_host.specs.Disks.{Folder, Disk}
use Rattle.b2_plan.specs.declared.step.Step.{Step}
use Rattle.b2_plan.specs.Plans.{Makes, Apart}
use Rattle.b2_plan.specs.Sources.{Build, IsInRoots}
use Rattle.b2_plan.specs.Closures.{Value, IsClosure}
use Rattle.b2_plan.specs.Cleans.{Val, Clean}
use Rattle.b2_log.specs.declared.line.LogLine.{LogLine}
use Rattle.b2_log.specs.Finding.{find_record}
use Rattle.b2_runs.specs.Staleness.{Update, Agrees, Agrees.by_stamps, Agrees.by_digests, IsRecorded, IsFresh}
use Rattle.b2_runs.specs.Runs.{Settled, Settled.source, Settled.done_well, Settled.fresh, IsRunSoFar}
use Rattle.b2_runs.specs.Soundness.{IsSound}
use Rattle.b2_runs.specs.Afterwards.{at_present, next_update, IsMadeEachTime, IsMadeEachTime.always, IsMadeEachTime.notfile, IsMadeEachTime.through, IsNotedStep, IsMigrated, IsNoted}
use Rattle.b2_runs.specs.AfterLaws.{SettledAfterwards, FreshAfterwards}
use Rattle.b2_runs.proofs.FirstElementOrLater.{Contains_nil}
use Rattle.b2_runs.proofs.ClosureIsOne.{closure_is_one}
use Rattle.b2_runs.proofs.MakerIsOne.{source_not_made, maker_is_one}
use Rattle.b2_runs.proofs.MoreRoundsSayNoLess.{close_at}
use Rattle.b2_runs.proofs.RoundsAreEnough.{rounds_enough}
use Rattle.b2_runs.proofs.CleanIsOne.{clean_is_one}
use Rattle.b2_runs.proofs.SameByStamp.{stamp_of, stamped_file}
use Rattle.b2_runs.proofs.SourcesAreKept.{log_in_roots, unstarted_kept}
use Rattle.b2_runs.proofs.SettledStays.{fresh_events, closure_on_settled}
use Rattle.b2_runs.proofs.RunGoesOn.{started_has_closure, done_was_started, settled_has_value}
use Rattle.b2_runs.proofs.CleanBySources.{SameSources, source_to, clean_close_to}
use Rattle.b2_runs.proofs.JudgedByPresent.{fresh_move, settled_kept}

is_false : (t : Bool) → (t ≡ true → ⊥) → t ≡ false
is_false true no_true = absurd (no_true refl)
is_false false no_true = refl

-- the files outside the roots are as at entry
pub same_sources : (u : Update) (events : List ChildEvent) (disk : Disk) → Apart u.build.steps u.build.roots → IsSound u events disk → SameSources u.build disk.now
same_sources u events disk apart sound path outside =
    sound.only_outputs path (λ e. outside (subst (IsInRoots u.build.roots) (sym e) (log_in_roots u.build apart))) (λ i step started makes. outside (apart.under_root i step path makes))

-- a value by some rounds has its closure's members by one round fewer
below : (b : Build) → Apart b.steps b.roots → (n i : ℕ) (step : Step) (path : List ℕ) (x : Value) (members : List (List ℕ × Value)) → Makes b.steps i step path → IsClosure b (Clean b) step members → Val b n path x
    → (k : ℕ) × (n ≡ suc k) × ((member : List ℕ) (value : Value) → Contains members (member, value) → Val b k member value)
below b apart zero i step path x members makes closure (bytes, s, e) = absurd (source_not_made b apart path bytes s i step makes)
below b apart (suc n) i step path x members makes closure (inl (bytes, s, e)) = absurd (source_not_made b apart path bytes s i step makes)
below b apart (suc n) i step path x members makes closure (inr s) =
    let same : s.step ≡ step = maker_is_one b apart s.number i s.step step path s.makes makes in
    let wide : IsClosure b (Clean b) s.step s.members = close_at b apart n (length b.steps) s.step s.members s.closure (λ p y c. rounds_enough b apart n p y (s.closure.each p y c).1) in
    let one : s.members ≡ members = closure_is_one (Clean b) b step s.members members (clean_is_one b apart) (subst (λ z. IsClosure b (Clean b) z s.members) same wide) closure in
    (n, refl, subst (λ ms. (member : List ℕ) (value : Value) → Contains ms (member, value) → Val b n member value) one (λ m y c. (s.closure.each m y c).1))

-- What the next update judges of a step whose outputs were settled.
pub record Judged (u : Update) (events : List ChildEvent) (next : Update) (step : Step) : Type 0 where
  pub members : List (List ℕ × Value)
  pub closure : IsClosure u.build (Clean u.build) step members
  pub inside : (member : List ℕ) (value : Value) → Contains members (member, value) → Settled u events member
  pub is_fresh : IsFresh next [] step members

-- a record of the files as they stand agrees with them next time
pub recorded_next : (u : Update) (now : Folder) (log : List LogLine) (quit : Bool) (jobs : ℕ) (step : Step) (members : List (List ℕ × Value)) → IsNotedStep u now log step members → IsRecorded (next_update u now log quit jobs) [] step members
recorded_next u now log quit jobs step members n = record {
  last = n.last;
  found = n.found;
  agrees = by_stamps (record { text = n.is_record.text; outs = n.is_record.outs; ins = n.is_record.ins; none_done = λ m y j s w c makes d. Contains_nil (Done j w) d });
}

-- a step that was done well is fresh by its record
judge_done : (u : Update) (events : List ChildEvent) (disk : Disk) (log : List LogLine) (quit : Bool) (jobs : ℕ) → Apart u.build.steps u.build.roots → IsRunSoFar u events → IsNoted u events disk.now log
    → (i : ℕ) (step : Step) (path : List ℕ) → Makes u.build.steps i step path → Contains events (Done i true) → (IsMadeEachTime u.build path → ⊥) → Judged u events (next_update u disk.now log quit jobs) step
judge_done u events disk log quit jobs apart run noted i step path makes done calm =
    let (members, on) = started_has_closure u events i step apart run (done_was_started u events i true run done) makes.at in
    let (closure, inside) = (closure_on_settled u events step members apart).0 on in
    let file : step.notfile ≡ false = is_false step.notfile (λ e. calm (notfile i step path makes e)) in
    let n = noted.recorded i step members makes.at done file closure in
    record {
      members = members;
      closure = closure;
      inside = inside;
      is_fresh = record {
        not_all = refl;
        not_always = is_false step.always (λ e. calm (always i step path makes e));
        not_notfile = file;
        stand = λ out c. let (stamp, there, has) = stamp_of disk.now step.outs n.last.outs n.is_record.outs out c in let (f, at, e) = stamped_file disk.now out stamp has in (f, at);
        none_older = λ off. noted.none_older i step members makes.at done file closure;
        none_notfile = λ m y j s c makes_m. is_false s.notfile (λ e. calm (through i step path members m y makes closure c (notfile j s m makes_m e)));
        none_done = λ off m y j s w c makes_m d. Contains_nil (Done j w) d;
        recorded = recorded_next u disk.now log quit jobs step members n;
      };
    }

-- where no event has come yet, a step is fresh that was fresh as some came
fresh_anew : (next : Update) (events : List ChildEvent) (step : Step) (members : List (List ℕ × Value)) → IsFresh next events step members → IsFresh next [] step members
fresh_anew next events step members f = fresh_events next events [] step members (λ none m y j s w c makes d. absurd (Contains_nil (Done j w) d)) f

-- the next update is the one by the present files, but for options that the verdict on a step which is fresh does not see
fresh_next : (u : Update) (now : Folder) (log : List LogLine) (quit : Bool) (jobs : ℕ) (step : Step) (members : List (List ℕ × Value)) → IsFresh (at_present u now log) [] step members → IsFresh (next_update u now log quit jobs) [] step members
fresh_next u now log quit jobs step members f = record {
  not_all = refl;
  not_always = f.not_always;
  not_notfile = f.not_notfile;
  stand = f.stand;
  none_older = f.none_older;
  none_notfile = f.none_notfile;
  none_done = f.none_done;
  recorded = record { last = f.recorded.last; found = f.recorded.found; agrees = go f.recorded.agrees };
}
  where
    go : Agrees (at_present u now log) [] step members f.recorded.last → Agrees (next_update u now log quit jobs) [] step members f.recorded.last
    go (by_stamps a) = by_stamps (record { text = a.text; outs = a.outs; ins = a.ins; none_done = a.none_done })
    go (by_digests on a) = by_digests on (record { text = a.text; digests = a.digests; has = a.has; outs = a.outs; paths = a.paths; ins = a.ins })

-- a step that was fresh is fresh as before, or by the record with digests that it got
judge_fresh : (u : Update) (events : List ChildEvent) (disk : Disk) (log : List LogLine) (quit : Bool) (jobs : ℕ) → Apart u.build.steps u.build.roots → IsSound u events disk → IsNoted u events disk.now log
    → (i : ℕ) (step : Step) (path : List ℕ) (members : List (List ℕ × Value)) → Makes u.build.steps i step path → (Contains events (Start i) → ⊥) → IsClosure u.build (Clean u.build) step members
    → ((member : List ℕ) (value : Value) → Contains members (member, value) → Settled u events member) → IsFresh u events step members → Judged u events (next_update u disk.now log quit jobs) step
judge_fresh u events disk log quit jobs apart sound noted i step path members makes not_started closure inside f =
    record { members = members; closure = closure; inside = inside; is_fresh = go (noted.not_started i step makes.at not_started) }
  where
    out_same : (out : List ℕ) → Contains step.outs out → disk.now out ≡ u.build.folder out
    out_same out c = unstarted_kept u events disk apart sound i step out (record { at = makes.at; among = c }) not_started

    go : (find_record step.outs log ≡ find_record step.outs u.log) ⊎ IsMigrated u events disk.now log step → IsFresh (next_update u disk.now log quit jobs) [] step members
    go (inl says) = fresh_next u disk.now log quit jobs step members (fresh_anew (at_present u disk.now log) events step members
        (fresh_move u events disk.now log step members out_same
        (λ none m y c. settled_kept u events disk apart sound m (inside m y c) (λ k s well makes_m done. none m y k s well c makes_m done)) says f))
    go (inr g) =
        let one : g.members ≡ members = closure_is_one (Clean u.build) u.build step g.members members (clean_is_one u.build apart) g.closure closure in
        record {
          not_all = refl;
          not_always = f.not_always;
          not_notfile = f.not_notfile;
          stand = λ out c. let (file, at) = f.stand out c in (file, out_same out c ∙ at);
          none_older = λ off. absurd (let e : true ≡ false = sym g.by_digest ∙ off in cc);
          none_notfile = f.none_notfile;
          none_done = λ off m y j s w c makes_m d. Contains_nil (Done j w) d;
          recorded = subst (λ ms. IsRecorded (next_update u disk.now log quit jobs) [] step ms) one (recorded_next u disk.now log quit jobs step g.members g.noted);
        }

-- a step whose outputs were settled is fresh next time
pub judge_next : (u : Update) (events : List ChildEvent) (disk : Disk) (log : List LogLine) (quit : Bool) (jobs : ℕ) → Apart u.build.steps u.build.roots → IsRunSoFar u events → IsSound u events disk → IsNoted u events disk.now log
    → (i : ℕ) (step : Step) (path : List ℕ) → Makes u.build.steps i step path → Settled u events path → (IsMadeEachTime u.build path → ⊥) → Judged u events (next_update u disk.now log quit jobs) step
judge_next u events disk log quit jobs apart run sound noted i step path makes (source p bytes s) calm = absurd (source_not_made u.build apart p bytes s i step makes)
judge_next u events disk log quit jobs apart run sound noted i step path makes (done_well k s p makes_k done) calm =
    subst (Judged u events (next_update u disk.now log quit jobs)) (maker_is_one u.build apart k i s step p makes_k makes) (judge_done u events disk log quit jobs apart run noted k s p makes_k done calm)
judge_next u events disk log quit jobs apart run sound noted i step path makes (fresh k s p members makes_k not_started closure inside f) calm =
    subst (Judged u events (next_update u disk.now log quit jobs)) (maker_is_one u.build apart k i s step p makes_k makes) (judge_fresh u events disk log quit jobs apart sound noted k s p members makes_k not_started closure inside f)

-- a step that is fresh next time, and whose members are settled then, has settled outputs
settle_step : (u : Update) (events : List ChildEvent) (disk : Disk) (log : List LogLine) (quit : Bool) (jobs : ℕ) → SameSources u.build disk.now → (i : ℕ) (step : Step) (path : List ℕ) → Makes u.build.steps i step path
    → (j : Judged u events (next_update u disk.now log quit jobs) step) → ((member : List ℕ) (value : Value) → Contains j.members (member, value) → Settled (next_update u disk.now log quit jobs) [] member) → Settled (next_update u disk.now log quit jobs) [] path
settle_step u events disk log quit jobs same i step path makes j inside =
    fresh i step path j.members makes (λ c. Contains_nil (Start i) c) (clean_close_to u.build disk.now same step j.members j.closure) inside j.is_fresh

-- what was settled is settled next time, by the rounds of its value
settle_next : (u : Update) (events : List ChildEvent) (disk : Disk) (log : List LogLine) (quit : Bool) (jobs : ℕ) → Apart u.build.steps u.build.roots → IsRunSoFar u events → IsSound u events disk → IsNoted u events disk.now log
    → (n : ℕ) (path : List ℕ) (x : Value) → Val u.build n path x → Settled u events path → (IsMadeEachTime u.build path → ⊥) → Settled (next_update u disk.now log quit jobs) [] path
settle_next u events disk log quit jobs apart run sound noted n path x v (source p bytes s) calm = source p bytes (source_to u.build disk.now (same_sources u events disk apart sound) p bytes s)
settle_next u events disk log quit jobs apart run sound noted zero path x v (done_well i step p makes done) calm = absurd (source_not_made u.build apart p v.0 v.1 i step makes)
settle_next u events disk log quit jobs apart run sound noted zero path x v (fresh i step p members makes not_started closure inside f) calm = absurd (source_not_made u.build apart p v.0 v.1 i step makes)
settle_next u events disk log quit jobs apart run sound noted (suc n) path x v (done_well i step p makes done) calm =
    let j = judge_done u events disk log quit jobs apart run noted i step p makes done calm in
    let (k, e, low) = below u.build apart (suc n) i step p x j.members makes j.closure v in
    let same : n ≡ k = cc in
    settle_step u events disk log quit jobs (same_sources u events disk apart sound) i step p makes j
    (λ m y c. settle_next u events disk log quit jobs apart run sound noted n m y (subst (λ q. Val u.build q m y) (sym same) (low m y c)) (j.inside m y c) (λ r. calm (through i step p j.members m y makes j.closure c r)))
settle_next u events disk log quit jobs apart run sound noted (suc n) path x v (fresh i step p members makes not_started closure inside f) calm =
    let j = judge_fresh u events disk log quit jobs apart sound noted i step p members makes not_started closure inside f in
    let (k, e, low) = below u.build apart (suc n) i step p x j.members makes j.closure v in
    let same : n ≡ k = cc in
    settle_step u events disk log quit jobs (same_sources u events disk apart sound) i step p makes j
    (λ m y c. settle_next u events disk log quit jobs apart run sound noted n m y (subst (λ q. Val u.build q m y) (sym same) (low m y c)) (j.inside m y c) (λ r. calm (through i step p j.members m y makes j.closure c r)))

-- what was settled is settled next time
pub settled_afterwards : SettledAfterwards
settled_afterwards u events disk log quit jobs path apart run sound noted settled calm =
    let (value, clean) = settled_has_value u events path apart run settled in
    settle_next u events disk log quit jobs apart run sound noted (length u.build.steps) path value clean settled calm

-- and its step is fresh
pub fresh_afterwards : FreshAfterwards
fresh_afterwards u events disk log quit jobs i step path apart run sound noted makes settled calm =
    let j = judge_next u events disk log quit jobs apart run sound noted i step path makes settled calm in
    let inside : (m : List ℕ) (y : Value) → Contains j.members (m, y) → Settled (next_update u disk.now log quit jobs) [] m = λ m y c.
    settled_afterwards u events disk log quit jobs m apart run sound noted (j.inside m y c) (λ r. calm (through i step path j.members m y makes j.closure c r)) in
    record {
      members = j.members;
      closure = (closure_on_settled (next_update u disk.now log quit jobs) [] step j.members apart).1 (clean_close_to u.build disk.now (same_sources u events disk apart sound) step j.members j.closure) inside;
      is_fresh = j.is_fresh;
    }
