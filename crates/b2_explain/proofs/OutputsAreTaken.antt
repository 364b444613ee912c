-- How it ends that one output is removed, and that a drop is noted.
use Rattle.std.proofs.Common.{◌≡◌, ◌⊎◌, inl, inr, ℕ, ◌<◌, Bool, true, false, cond, List, [], ◌∷◌, ◌++◌, length, take, drop, Option, Some, None, option_map, is_some, Result, Ok, Err, Bor, refl, sym, ap, subst, ◌∙◌, arith, append-nil}
use Rattle.std.specs.Option.{IfSome, option_copied}
use Rattle.std.specs.List.{Contains, AllByRecursion, flat_map}
use Rattle.std.specs.Str.{bytes_eq}
use Rattle.std.proofs.lemmas.Bool.{cases_Bool}
use Rattle.std.proofs.lemmas.List.{length-map, take-append-drop}
use Rattle.std.proofs.lemmas.Slice.Eq.{bytes_eq-Decides}
use Rattle.b2_base.specs.Bytes.{IsFrontOf}
use Rattle.b2_host.specs.declared.fault.IoFault.{IoFault}
use Rattle.b2_host.specs.declared.fault.IoFault.TheVariants as io
use Rattle.b2_host.specs.Disks.{File, Folder, Disk, StatTold, put, without}
use Rattle.b2_host.specs.ChildProcesses.{BothTold}
use Rattle.b2_host.specs.Outside.{Outside, Fails}
use Rattle.b2_host.specs.OutsideLaws.{keeps_same, keeps_then, keeps_fails, keeps_removed, both_map}
use Rattle.b2_host.specs.Output.{Output, Prints, WriteFails, with_written}
use Rattle.b2_host.specs.OutputLaws.{OutKeeps, out_keeps_same, out_keeps_prints}
use Rattle.b2_host.specs.Faults.{IoFaultTold}
use Rattle.b2_host.specs.FileCalls.{log_path, removed, Appends, with_piece}
use Rattle.b2_host.specs.LogChanges.{ChangesOnlyLog, log_changes_same}
use Rattle.b2_host.specs.ReadsAdded.{reads_writes}
use Rattle.b2_plan.specs.declared.step.Step.{Step}
use Rattle.b2_log.specs.declared.line.Record.{Record}
use Rattle.b2_log.specs.declared.line.LogLine.{LogLine}
use Rattle.b2_log.specs.declared.line.LogLine.TheVariants as lines
use Rattle.b2_log.specs.Lines.{spelling}
use Rattle.b2_log.specs.Good.{IsGood, IsProper}
use Rattle.b2_log.specs.Finding.{path_of, find_record}
use Rattle.b2_runs.proofs.FirstElementOrLater.{Contains_here}
use Rattle.b2_runs.proofs.LastLineIsFound.{found_is_there}
use Rattle.b2_journal.specs.Notes.{HasLines, IsNoteCut, Notes}
use Rattle.b2_facts.proofs.ListsAtPlaces.{none_some}
use Rattle.b2_explain.specs.declared.fault.CleanFault.{CleanFault}
use Rattle.b2_explain.specs.declared.fault.CleanFault.TheVariants as faults
use Rattle.b2_explain.specs.Faults.{CleanCounts, clean_fault_of}
use Rattle.b2_explain.specs.Lines.{removed_line}
use Rattle.b2_explain.specs.Cleaning.{standing, with_drop}
use Rattle.b2_explain.specs.Removing.{Wrote, WritesLine, TakesAway, OneTaken, RemovesOne, DropTold, DropsRecord}
use Rattle.b2_explain.proofs.RemovalsCompose.{wrote_none, wrote_cut, wrote_err, counts_then, standing_yes, standing_no}

-- ---- one output

takes_none : (path : List ℕ) (disk : Disk) → TakesAway (path ∷ []) disk disk
takes_none path disk = record { others = λ other none. refl; gone = λ other. inl refl; past = refl }

put_at : (f : Folder) (path : List ℕ) → put path None f path ≡ None
put_at f path = ap (λ b. cond b None (f path)) ((bytes_eq-Decides path path).1 refl)

takes_one : (path : List ℕ) (disk : Disk) → TakesAway (path ∷ []) disk (without path disk)
takes_one path disk = record {
  others = λ other none. elim (cases_Bool (bytes_eq path other)) [
    | inl same ↦ absurd (none (subst (Contains (path ∷ [])) ((bytes_eq-Decides path other).0 same) (Contains_here path [])))
    | inr apart ↦ ap (λ b. cond b None (disk.now other)) apart
  ];
  gone = λ other. elim (cases_Bool (bytes_eq path other)) [
    | inl same ↦ inr (ap (λ b. cond b None (disk.now other)) same)
    | inr apart ↦ inl (ap (λ b. cond b None (disk.now other)) apart)
  ];
  past = refl;
}

-- a stamp that was told
pub stamp_told : (o : Option ℕ) → is_some o ≡ true → (stamp : ℕ) × (o ≡ Some stamp)
stamp_told None e = absurd (let f : false ≡ true = e in cc)
stamp_told (Some stamp) e = (stamp, refl)

-- whether a file stands, by its stamp
stands_not : (f : Folder) (path : List ℕ) → StatTold path None f → f path ≡ None
stands_not f path told = go (f path) told
  where
    go : (o : Option File) → None ≡ option_map (λ (file : File). file.stamp) o → o ≡ None
    go None e = refl
    go (Some file) e = absurd (none_some file.stamp e)

stands_so : (f : Folder) (path : List ℕ) (stamp : ℕ) → StatTold path (Some stamp) f → is_some (f path) ≡ true
stands_so f path stamp told = go (f path) told
  where
    go : (o : Option File) → Some stamp ≡ option_map (λ (file : File). file.stamp) o → is_some o ≡ true
    go None e = absurd (none_some stamp (sym e))
    go (Some file) e = refl

fails_rest : (x y : Outside) → Fails x y → y ≡ record x { disk = y.disk; faults = y.faults }
fails_rest x y fails = fails.same ∙ ap (λ d. record x { disk = d; faults = y.faults }) (sym (ap (λ (o : Outside). o.disk) fails.same))

-- nothing was removed
one_still : (path : List ℕ) (x y : Outside) (a : Output) → Fails x y → (r : Result Bool CleanFault) → r ≡ Err faults.Host → RemovesOne path x a y a r
one_still path x y a fails r e = subst (RemovesOne path x a y a) (sym e) (record {
  counts = (fails.may_fail, fails.rose, refl);
  rest = fails_rest x y fails;
  files = go x.disk y.disk (ap (λ (o : Outside). o.disk) fails.same);
  wrote = written x.disk;
  keeps = keeps_fails x y fails;
  out_keeps = out_keeps_same a a refl;
})
  where
    go : (o p : Option Disk) → p ≡ o → BothTold (λ old new. TakesAway (path ∷ []) old new × OneTaken path old new (Err faults.Host)) o p
    go None None same = tt
    go None (Some p) same = absurd (none_some p (sym same))
    go (Some o) None same = absurd (none_some o same)
    go (Some o) (Some p) same = (subst (TakesAway (path ∷ []) o) (let f : Some o ≡ Some p = sym same in let g : o ≡ p = cc in g) (takes_none path o), tt)

    written : (o : Option Disk) → IfSome o (λ disk. Wrote {T = Bool} (standing disk.now (path ∷ [])) a a (Err faults.Host))
    written None = tt
    written (Some disk) = wrote_cut Bool (standing disk.now (path ∷ [])) a a faults.Host refl

pub one_failed : (path : List ℕ) (x y : Outside) (a : Output) (r : Result Bool CleanFault) → r ≡ Err faults.Host → Fails x y → RemovesOne path x a y a r
one_failed path x y a r e fails = one_still path x y a fails r e

-- no file stands there
pub one_absent : (path : List ℕ) (x y : Outside) (a : Output) → y ≡ x → IfSome x.disk (λ disk. StatTold path None disk.now) → RemovesOne path x a y a (Ok false)
one_absent path x y a same told = subst (λ o. RemovesOne path x a o a (Ok false)) (sym same) (record {
  counts = (refl, refl);
  rest = refl;
  files = go x.disk told;
  wrote = written x.disk told;
  keeps = keeps_same x x refl;
  out_keeps = out_keeps_same a a refl;
})
  where
    left : (disk : Disk) → StatTold path None disk.now → standing disk.now (path ∷ []) ≡ []
    left disk told = standing_no disk.now path [] (ap is_some (stands_not disk.now path told))

    go : (o : Option Disk) → IfSome o (λ disk. StatTold path None disk.now) → BothTold (λ old new. TakesAway (path ∷ []) old new × OneTaken path old new (Ok false)) o o
    go None told = tt
    go (Some disk) told = (takes_none path disk, (stands_not disk.now path told, sym (ap length (left disk told))))

    written : (o : Option Disk) → IfSome o (λ disk. StatTold path None disk.now) → IfSome o (λ disk. Wrote (standing disk.now (path ∷ [])) a a (Ok false))
    written None told = tt
    written (Some disk) told = subst (λ paths. Wrote paths a a (Ok false)) (sym (left disk told)) (wrote_none a a false refl)

-- one stands there, which may be removed
module _ (path : List ℕ) (x y : Outside) (a : Output) (stamp : ℕ) (same : y ≡ x) (told : IfSome x.disk (λ disk. StatTold path (Some stamp) disk.now)) where
  away_files : (r : Result Bool CleanFault) → ((disk : Disk) → StatTold path (Some stamp) disk.now → OneTaken path disk (without path disk) r) → BothTold (λ old new. TakesAway (path ∷ []) old new × OneTaken path old new r) x.disk (option_map (without path) x.disk)
  away_files r taken = go x.disk told
    where
      go : (o : Option Disk) → IfSome o (λ disk. StatTold path (Some stamp) disk.now) → BothTold (λ old new. TakesAway (path ∷ []) old new × OneTaken path old new r) o (option_map (without path) o)
      go None h = tt
      go (Some disk) h = (takes_one path disk, taken disk h)

  one_taken : (disk : Disk) → StatTold path (Some stamp) disk.now → OneTaken path disk (without path disk) (Ok true)
  one_taken disk h = (put_at disk.now path, sym (ap length (standing_yes disk.now path [] (stands_so disk.now path stamp h))))

  away_wrote : (r : Result Bool CleanFault) (c : Output) → Wrote (path ∷ []) a c r → IfSome x.disk (λ disk. Wrote (standing disk.now (path ∷ [])) a c r)
  away_wrote r c wrote = go x.disk told
    where
      go : (o : Option Disk) → IfSome o (λ disk. StatTold path (Some stamp) disk.now) → IfSome o (λ disk. Wrote (standing disk.now (path ∷ [])) a c r)
      go None h = tt
      go (Some disk) h = subst (λ paths. Wrote paths a c r) (sym (standing_yes disk.now path [] (stands_so disk.now path stamp h))) wrote

  -- the removal failed, and the file stands or does not
  pub one_kept : (z : Outside) (r : Result Bool CleanFault) → r ≡ Err faults.Host → Fails y z ⊎ Fails (removed path y) z → RemovesOne path x a z a r
  one_kept z r e failed = elim failed [
    | inl still ↦ one_still path x z a (subst (λ o. Fails o z) same still) r e
    | inr away ↦ gone (subst (λ o. Fails (removed path o) z) same away)
  ]
    where
      gone : Fails (removed path x) z → RemovesOne path x a z a r
      gone fails = subst (RemovesOne path x a z a) (sym e) (record {
        counts = (fails.may_fail, fails.rose, refl);
        rest = fails.same ∙ ap (λ d. record x { disk = d; faults = z.faults }) (sym (ap (λ (o : Outside). o.disk) fails.same));
        files = subst (BothTold (λ old new. TakesAway (path ∷ []) old new × OneTaken path old new (Err faults.Host)) x.disk) (sym (ap (λ (o : Outside). o.disk) fails.same)) (away_files (Err faults.Host) (λ disk h. tt));
        wrote = away_wrote (Err faults.Host) a (wrote_cut Bool (path ∷ []) a a faults.Host refl);
        keeps = keeps_then x (removed path x) z (keeps_removed path x) (keeps_fails (removed path x) z fails);
        out_keeps = out_keeps_same a a refl;
      })

  away_is : (c : Output) (r : Result Bool CleanFault) → CleanCounts x a (removed path x) c r → ((disk : Disk) → StatTold path (Some stamp) disk.now → OneTaken path disk (without path disk) r) → Wrote (path ∷ []) a c r → OutKeeps a c → RemovesOne path x a (removed path x) c r
  away_is c r counts taken wrote keeps = record {
    counts = counts;
    rest = refl;
    files = away_files r taken;
    wrote = away_wrote r c wrote;
    keeps = keeps_removed path x;
    out_keeps = keeps;
  }

  -- it was removed, and its line was written
  pub one_removed : (z : Outside) (c : Output) → z ≡ removed path y → WritesLine path a c (Ok tt) → RemovesOne path x a z c (Ok true)
  one_removed z c away writes = subst (λ o. RemovesOne path x a o c (Ok true)) (sym (away ∙ ap (removed path) same))
      (away_is c (Ok true) (refl, (writes.counts x).1) one_taken writes.wrote writes.keeps)

  -- it was removed, and its line was not
  pub one_unwritten : (z : Outside) (c : Output) (fault : CleanFault) (r : Result Bool CleanFault) → r ≡ Err fault → z ≡ removed path y → WritesLine path a c (Err fault) → RemovesOne path x a z c r
  one_unwritten z c fault r e away writes = subst (RemovesOne path x a z c) (sym e) (subst (λ o. RemovesOne path x a o c (Err fault)) (sym (away ∙ ap (removed path) same))
      (away_is c (Err fault) (counts_then {T = Unit {0}} {S = Bool} x a (removed path x) a (removed path x) c (tt {0}) (Err fault) refl refl (refl, refl) (as_bool fault (writes.counts (removed path x)))) (λ disk h. tt) (as_wrote writes.wrote) writes.keeps))
    where
      as_bool : (f : CleanFault) → CleanCounts {T = Unit {0}} (removed path x) a (removed path x) c (Err f) → CleanCounts {T = Bool} (removed path x) a (removed path x) c (Err f)
      as_bool faults.Host counts = counts
      as_bool faults.Sink counts = counts
      as_bool faults.OutOfMemory counts = counts

      as_wrote : Wrote {T = Unit {0}} (path ∷ []) a c (Err fault) → Wrote {T = Bool} (path ∷ []) a c (Err fault)
      as_wrote wrote = wrote_err {T = Unit {0}} Bool (path ∷ []) a c (Err fault) fault refl wrote

-- ---- the line

-- a beginning of the line was written
wrote_piece : (path piece rest : List ℕ) (T : Type 0) (before after : Output) → after.written ≡ option_map (λ so_far. so_far ++ piece) before.written → removed_line path ≡ piece ++ rest → Wrote {T = T} (path ∷ []) before after (Err faults.Sink)
wrote_piece path piece rest T before after at is = go before.written at
  where
    go : (o : Option (List ℕ)) → after.written ≡ option_map (λ so_far. so_far ++ piece) o → IfSome o (λ so_far. (text : List ℕ) × (after.written ≡ Some (so_far ++ text)) × IsFrontOf text (flat_map removed_line (path ∷ [])))
    go None e = tt
    go (Some so_far) e = (piece, e, (rest, append-nil (removed_line path) ∙ is))

pub line_written : (path line : List ℕ) (a c : Output) → line ≡ removed_line path → c ≡ with_written line a → WritesLine path a c (Ok tt)
line_written path line a c is same = record {
  counts = λ x. (refl, ap (λ (o : Output). o.faults) same);
  wrote = go a.written (ap (λ (o : Output). o.written) same);
  keeps = out_keeps_prints {T = Unit {0}} line a c (Ok tt) same;
}
  where
    go : (o : Option (List ℕ)) → c.written ≡ option_map (λ so_far. so_far ++ line) o → IfSome o (λ so_far. (text : List ℕ) × (c.written ≡ Some (so_far ++ text)) × (text ≡ flat_map removed_line (path ∷ [])))
    go None e = tt
    go (Some so_far) e = (line, e, is ∙ sym (append-nil (removed_line path)))

pub line_unmade : (path : List ℕ) (a : Output) (r : Result (Unit {0}) CleanFault) → r ≡ Err faults.OutOfMemory → WritesLine path a a r
line_unmade path a r e = subst (WritesLine path a a) (sym e) (record {
  counts = λ x. (refl, refl);
  wrote = wrote_cut (Unit {0}) (path ∷ []) a a faults.OutOfMemory refl;
  keeps = out_keeps_same a a refl;
})

pub line_failed : (path line : List ℕ) (a c : Output) → line ≡ removed_line path → WriteFails line a c → WritesLine path a c (Err faults.Sink)
line_failed path line a c is failed = record {
  counts = λ x. (refl, record { may = failed.may_fail; faults = failed.rose });
  wrote = wrote_piece path (take failed.count line) (drop failed.count line) (Unit {0}) a c (ap (λ (o : Output). o.written) failed.same) (sym is ∙ sym (take-append-drop failed.count line));
  keeps = out_keeps_prints {T = Unit {0}} line a c (Err io.Failed) failed;
}

-- a write that failed
pub prints_failed : (line : List ℕ) (a c : Output) (r : Result (Unit {0}) IoFault) → r ≡ Err io.Failed → Prints line a c r → WriteFails line a c
prints_failed line a c r e printed = subst (Prints {T = Unit {0}} line a c) e printed

-- a write for which no memory was left
pub prints_nothing : (line : List ℕ) (a c : Output) (r : Result (Unit {0}) IoFault) → r ≡ Err io.OutOfMemory → Prints line a c r → c ≡ a
prints_nothing line a c r e printed = subst (Prints {T = Unit {0}} line a c) e printed

pub line_no_memory : (path : List ℕ) (a c : Output) → c ≡ a → WritesLine path a c (Err faults.OutOfMemory)
line_no_memory path a c same = subst (λ o. WritesLine path a o (Err faults.OutOfMemory)) (sym same) (line_unmade path a (Err faults.OutOfMemory) refl)

-- ---- the drop

-- a drop of outputs that have a record is proper
pub drop_is_proper : (outs made : List (List ℕ)) (log : List LogLine) (r : Record) → made ≡ outs → find_record outs log ≡ Some r → IsProper (lines.Record r) → IsProper (lines.Drop made)
drop_is_proper outs made log r same found proper =
    let there = (found_is_there outs log r found).1 in
    let long : length outs ≡ length r.outs = sym (ap length there) ∙ length-map r.outs path_of in
    subst (λ l. 0 < length l) (sym same) (let some = proper.some_out in omega (arith, long, some))

-- the log has no record of the step
pub absent : (outs : List (List ℕ)) (log : List LogLine) (o : Option (Bor Record)) → is_some o ≡ false → option_copied o ≡ find_record outs log → find_record outs log ≡ None
absent outs log None e found = sym found
absent outs log (Some r) e found = absurd (let h : true ≡ false = e in cc)

-- the log has one, which is proper
pub present : (outs : List (List ℕ)) (log : List LogLine) (o : Option (Bor Record)) → is_some o ≡ true → option_copied o ≡ find_record outs log → IfSome o (λ r. IsProper (lines.Record r.now)) → (r : Record) × (find_record outs log ≡ Some r) × IsProper (lines.Record r)
present outs log None e found proper = absurd (let h : false ≡ true = e in cc)
present outs log (Some r) e found proper = (r.now, sym found, proper)

without_drop : (step : Step) (log : List LogLine) → find_record step.outs log ≡ None → with_drop step log ≡ log
without_drop step log none = ap (λ o. cond (is_some o) (log ++ lines.Drop step.outs ∷ []) log) none

has_drop : (step : Step) (log : List LogLine) (r : Record) → find_record step.outs log ≡ Some r → with_drop step log ≡ log ++ lines.Drop step.outs ∷ []
has_drop step log r found = ap (λ o. cond (is_some o) (log ++ lines.Drop step.outs ∷ []) log) found

both_here : (P : Disk → Disk → Type 0) (o : Option Disk) → ((disk : Disk) → P disk disk) → BothTold P o o
both_here P None all = tt
both_here P (Some disk) all = all disk

pub drop_none : (step : Step) (x : Outside) (log : List LogLine) → find_record step.outs log ≡ None → DropsRecord step x log x log (Ok tt)
drop_none step x log none = record {
  only_log = log_changes_same x x refl;
  unread = refl;
  good = λ good. good;
  counts = λ out. (refl, refl);
  told = both_here (λ old new. (entry : Option (List ℕ)) → HasLines entry old.now log → DropTold entry step log old.now new.now log (Ok tt)) x.disk (λ disk entry has. (sym (without_drop step log none), has));
}

pub drop_no_memory : (step : Step) (x : Outside) (log : List LogLine) (r : Result (Unit {0}) CleanFault) → r ≡ Err faults.OutOfMemory → DropsRecord step x log x log r
drop_no_memory step x log r e = subst (DropsRecord step x log x log) (sym e) (record {
  only_log = log_changes_same x x refl;
  unread = refl;
  good = λ good. good;
  counts = λ out. (refl, refl);
  told = both_here (λ old new. (entry : Option (List ℕ)) → HasLines entry old.now log → DropTold entry step log old.now new.now log (Err faults.OutOfMemory)) x.disk (λ disk entry has. has);
})

append_may_fail : (piece : List ℕ) (y z : Outside) → Appends {T = Unit {0}} log_path piece y z (Err io.Failed) → y.risks.may_fail ≡ true
append_may_fail piece y z (inl failed) = failed.may_fail
append_may_fail piece y z (inr (count, torn, puts, failed)) = ap (λ (o : Outside). o.risks.may_fail) (sym puts.same) ∙ failed.may_fail

module _ (step : Step) (x y : Outside) (log more : List LogLine) (r : Record) (made : List (List ℕ)) (same : made ≡ step.outs) (found : find_record step.outs log ≡ Some r) (only : ChangesOnlyLog x y) where
  -- the drop was noted
  pub drop_stands : more ≡ log ++ lines.Drop made ∷ [] → AllByRecursion IsGood more → Appends {T = Unit {0}} log_path (spelling (lines.Drop made)) x y (Ok tt) → y.faults ≡ x.faults → BothTold (λ before after. Notes {T = Unit {0}} (lines.Drop made) log before after (Ok tt)) x.disk y.disk → DropsRecord step x log y more (Ok tt)
  drop_stands longer good appended counts notes =
      let longer_so : more ≡ log ++ lines.Drop step.outs ∷ [] = subst (λ l. more ≡ log ++ lines.Drop l ∷ []) same longer in
      record {
        only_log = only;
        unread = reads_writes {T = Unit {0}} log_path (with_piece log_path) (spelling (lines.Drop made)) x y (Ok tt) appended;
        good = λ was. good;
        counts = λ out. (counts, refl);
        told = both_map (λ before after. Notes {T = Unit {0}} (lines.Drop made) log before after (Ok tt)) (λ old new. (entry : Option (List ℕ)) → HasLines entry old.now log → DropTold entry step log old.now new.now more (Ok tt)) x.disk y.disk notes
            (λ old new noted entry has. (longer_so ∙ sym (has_drop step log r found), subst (HasLines entry new.now) (sym longer) (noted entry has)));
      }

  -- its note failed
  pub drop_fails : (fault : IoFault) (result : Result (Unit {0}) CleanFault) → result ≡ Err (clean_fault_of fault) → more ≡ log → Appends {T = Unit {0}} log_path (spelling (lines.Drop made)) x y (Err fault) → IoFaultTold {T = Unit {0}} x.faults y.faults (Err fault)
      → BothTold (λ before after. Notes {T = Unit {0}} (lines.Drop made) log before after (Err fault)) x.disk y.disk → DropsRecord step x log y more result
  drop_fails fault result is stays appended counts notes = subst (DropsRecord step x log y more) (sym is) (record {
    only_log = only;
    unread = reads_writes {T = Unit {0}} log_path (with_piece log_path) (spelling (lines.Drop made)) x y (Err fault) appended;
    good = λ good. subst (AllByRecursion IsGood) (sym stays) good;
    counts = counted fault appended counts;
    told = both_map (λ before after. Notes {T = Unit {0}} (lines.Drop made) log before after (Err fault)) (λ old new. (entry : Option (List ℕ)) → HasLines entry old.now log → DropTold entry step log old.now new.now more (Err (clean_fault_of fault))) x.disk y.disk notes (λ old new noted entry has. told_at fault old new entry noted has);
  })
    where
      counted : (f : IoFault) → Appends {T = Unit {0}} log_path (spelling (lines.Drop made)) x y (Err f) → IoFaultTold {T = Unit {0}} x.faults y.faults (Err f) → (out : Output) → CleanCounts {T = Unit {0}} x out y out (Err (clean_fault_of f))
      counted io.Failed cut rose out = (append_may_fail (spelling (lines.Drop made)) x y cut, rose, refl)
      counted io.OutOfMemory cut still out = (still, refl)

      told_at : (f : IoFault) (old new : Disk) (entry : Option (List ℕ)) → Notes {T = Unit {0}} (lines.Drop made) log old new (Err f) → HasLines entry old.now log → DropTold entry step log old.now new.now more (Err (clean_fault_of f))
      told_at io.Failed old new entry noted has = subst (λ l. IsNoteCut old.now new.now log (lines.Drop l)) same (noted entry has)
      told_at io.OutOfMemory old new entry noted has = subst (λ (d : Disk). HasLines entry d.now log) (sym noted) has
