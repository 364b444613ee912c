-- Steps that are cleaned, one after another.
use Rattle.std.proofs.Common.{◌≡◌, ◌≢◌, ◌⊎◌, inl, inr, ℕ, Bool, true, false, cond, List, [], ◌∷◌, ◌++◌, length, Option, Some, None, option_map, is_some, Result, Ok, Err, refl, sym, ap, subst, ◌∙◌, arith, append_assoc, append-nil}
use Rattle.std.specs.List.{Contains, AllByRecursion}
use Rattle.std.specs.Option.{IfSome}
use Rattle.std.specs.Str.{bytes_eq}
use Rattle.std.proofs.lemmas.List.{length-append}
use Rattle.std.proofs.lemmas.List.Elements.{Contains-append_left, Contains-append_cases}
use Rattle.b2_host.specs.Disks.{File, Folder, Disk, put}
use Rattle.b2_host.specs.ChildProcesses.{BothTold}
use Rattle.b2_host.specs.Outside.{Outside}
use Rattle.b2_host.specs.OutsideLaws.{keeps_same, keeps_then}
use Rattle.b2_host.specs.Output.{Output}
use Rattle.b2_host.specs.OutputLaws.{out_keeps_same, out_keeps_then}
use Rattle.b2_host.specs.LogChanges.{ChangesOnlyAt, keeps_log_changes}
use Rattle.b2_host.specs.FileCalls.{log_path}
use Rattle.b2_plan.specs.declared.step.Step.{Step}
use Rattle.b2_log.specs.declared.line.LogLine.{LogLine}
use Rattle.b2_log.specs.declared.line.LogLine.TheVariants as lines
use Rattle.b2_log.specs.Good.{IsGood}
use Rattle.b2_journal.specs.Notes.{HasLines, IsNoteCut}
use Rattle.b2_runs.proofs.FirstElementOrLater.{Contains_here, Contains_there, Contains_nil}
use Rattle.b2_explain.specs.declared.fault.CleanFault.{CleanFault}
use Rattle.b2_explain.specs.declared.fault.CleanFault.TheVariants as faults
use Rattle.b2_explain.specs.Faults.{CleanCounts}
use Rattle.b2_explain.specs.Cleaning.{standing, removed_of, removals, with_drop, after_drops}
use Rattle.b2_explain.specs.Removing.{Wrote, outs_to_clean, TakesAway, TakenAway, RemovesSome, DropTold, DropsRecord, all_to_clean, HaveOwnOuts, HasFirstDrops, HasFirstDrops.whole as first_whole, HasFirstDrops.torn as first_torn, StepsTaken, AllDropped, CleanedSteps, CleansMore}
use Rattle.b2_explain.proofs.RemovalsCompose.{flat_more, wrote_none, wrote_then, wrote_err, wrote_longer, counts_err, counts_then, standing_yes, standing_no}

-- ---- what is removed

-- a folder without a file, where two folders are the same at a path
put_same : (f g : Folder) (path other : List ℕ) → g other ≡ f other → put path None g other ≡ put path None f other
put_same f g path other same = ap (λ o. cond (bytes_eq path other) None o) same

-- what stands of some paths depends on them alone
pub standing_same : (f g : Folder) (paths : List (List ℕ)) → ((path : List ℕ) → Contains paths path → g path ≡ f path) → standing g paths ≡ standing f paths
standing_same f g [] same = refl
standing_same f g (path ∷ paths) same = go (is_some (f path)) refl (λ h k alike. standing_same h k paths alike)
  where
    here : g path ≡ f path
    here = same path (Contains_here path paths)

    go : (b : Bool) → is_some (f path) ≡ b → ((h k : Folder) → ((other : List ℕ) → Contains paths other → k other ≡ h other) → standing k paths ≡ standing h paths) → standing g (path ∷ paths) ≡ standing f (path ∷ paths)
    go true e more =
        standing_yes g path paths (ap is_some here ∙ e)
        ∙ ap (λ l. path ∷ l) (more (put path None f) (put path None g) (λ other among. put_same f g path other (same other (Contains_there path other paths among))))
        ∙ sym (standing_yes f path paths e)
    go false e more =
        standing_no g path paths (ap is_some here ∙ e)
        ∙ more f g (λ other among. same other (Contains_there path other paths among))
        ∙ sym (standing_no f path paths e)

removed_by : (b : Bool) (f : Folder) (outs : List (List ℕ)) → cond b [] (standing f outs) ≡ standing f (cond b [] outs)
removed_by true f outs = refl
removed_by false f outs = refl

-- what is removed of a step are those of its outputs that stand and are cleaned
pub removed_standing : (f : Folder) (step : Step) → removed_of f step ≡ standing f (outs_to_clean step)
removed_standing f step = removed_by step.notfile f step.outs

pub one_removed : (f : Folder) (step : Step) → removals f (step ∷ []) ≡ standing f (outs_to_clean step)
one_removed f step = append-nil (removed_of f step) ∙ removed_standing f step

one_to_clean : (step : Step) → all_to_clean (step ∷ []) ≡ outs_to_clean step
one_to_clean step = append-nil (outs_to_clean step)

-- what is cleaned of a step is one of its outputs
cleaned_out : (step : Step) (path : List ℕ) → Contains (outs_to_clean step) path → Contains step.outs path
cleaned_out step path among = go step.notfile among
  where
    go : (b : Bool) → Contains (cond b [] step.outs) path → Contains step.outs path
    go true none = absurd (Contains_nil path none)
    go false inside = inside

-- ---- drops

pub drops_then : (front : List Step) (more : List Step) (log : List LogLine) → after_drops log (front ++ more) ≡ after_drops (after_drops log front) more
drops_then [] more log = refl
drops_then (step ∷ front) more log = drops_then front more (with_drop step log)

-- a log's file that stays has the same lines
has_same : (entry : Option (List ℕ)) (f g : Folder) (log : List LogLine) → g log_path ≡ f log_path → HasLines entry f log → HasLines entry g log
has_same entry f g log same has = ap (option_map (λ (x : File). x.bytes)) same ∙ has

-- the drops of some steps after those of others
drops_more : (entry : Option (List ℕ)) (log : List LogLine) (front : List Step) (step : Step) (now : Folder) → HasFirstDrops entry (after_drops log front) (step ∷ []) now → HasFirstDrops entry log (front ++ step ∷ []) now
drops_more entry log front step now (first_whole inner rest is good has) =
    first_whole (front ++ inner) rest (ap (λ l. front ++ l) is ∙ sym (append_assoc front inner rest)) (subst (AllByRecursion IsGood) (sym (drops_then front inner log)) good)
    (subst (HasLines entry now) (sym (drops_then front inner log)) has)
drops_more entry log front step now (first_torn inner rest other before is good has cut) =
    first_torn (front ++ inner) rest other before (ap (λ l. front ++ l) is ∙ sym (append_assoc front inner (other ∷ rest))) (subst (AllByRecursion IsGood) (sym (drops_then front inner log)) good)
    (subst (HasLines entry before) (sym (drops_then front inner log)) has) (subst (λ l. IsNoteCut before now l (lines.Drop other.outs)) (sym (drops_then front inner log)) cut)

-- those of a beginning of the steps
drops_front : (entry : Option (List ℕ)) (log : List LogLine) (front more : List Step) (now : Folder) → HasFirstDrops entry log front now → HasFirstDrops entry log (front ++ more) now
drops_front entry log front more now (first_whole inner rest is good has) = first_whole inner (rest ++ more) (ap (λ l. l ++ more) is ∙ append_assoc inner rest more) good has
drops_front entry log front more now (first_torn inner rest other before is good has cut) =
    first_torn inner (rest ++ more) other before (ap (λ l. l ++ more) is ∙ append_assoc inner (other ∷ rest) more) good has cut

-- ---- nothing was cleaned yet

pub cleans_none : (count : ℕ) (x : Outside) (a : Output) (log : List LogLine) → CleansMore [] count x a log x a log (Ok count)
cleans_none count x a log = record {
  counts = (refl, refl);
  children = refl;
  good = λ good. good;
  files = go x.disk;
  wrote = written x.disk;
  keeps = keeps_same x x refl;
  out_keeps = out_keeps_same a a refl;
}
  where
    go : (o : Option Disk) → BothTold (λ old new. CleanedSteps [] count log old new log (Ok count)) o o
    go None = tt
    go (Some disk) = record {
      others = λ path apart none. refl;
      gone = λ path apart. inl refl;
      taken = (λ path among. absurd (Contains_nil path among), omega arith);
      drops = λ entry has good. (refl, has);
    }

    written : (o : Option Disk) → IfSome o (λ disk. Wrote (removals disk.now []) a a (Ok count))
    written None = tt
    written (Some disk) = wrote_none a a count refl

-- ---- one step

module _ (step : Step) (own : HaveOwnOuts (step ∷ [])) (count : ℕ) (x y : Outside) (a b : Output) (log : List LogLine) where
  not_log : Contains (outs_to_clean step) log_path → ⊥
  not_log among = own.not_log step (Contains_here step []) (cleaned_out step log_path among)

  log_stays : (old mid : Disk) → TakesAway (outs_to_clean step) old mid → mid.now log_path ≡ old.now log_path
  log_stays old mid away = away.others log_path not_log

  none_cleaned : (path : List ℕ) → (Contains (all_to_clean (step ∷ [])) path → ⊥) → Contains (outs_to_clean step) path → ⊥
  none_cleaned path none among = none (Contains-append_left (outs_to_clean step) [] path among)

  -- its outputs were not all removed
  pub cleans_cut : (fault : CleanFault) → RemovesSome (outs_to_clean step) count x a y b (Err fault) → CleansMore (step ∷ []) count x a log y b log (Err fault)
  cleans_cut fault r = record {
    counts = r.counts;
    children = ap (λ (o : Outside). o.children) r.rest;
    good = λ good. good;
    files = go x.disk y.disk r.files;
    wrote = written x.disk r.wrote;
    keeps = r.keeps;
    out_keeps = r.out_keeps;
  }
    where
      go : (o p : Option Disk) → BothTold (λ old new. TakesAway (outs_to_clean step) old new × TakenAway (outs_to_clean step) count old new (Err fault)) o p
          → BothTold (λ old new. CleanedSteps (step ∷ []) count log old new log (Err fault)) o p
      go None None told = tt
      go None (Some p) told = absurd told
      go (Some o) None told = absurd told
      go (Some o) (Some p) told = record {
        others = λ path apart none. told.0.others path (none_cleaned path none);
        gone = λ path apart. told.0.gone path;
        taken = tt;
        drops = λ entry has good. first_whole [] (step ∷ []) refl good (has_same entry o.now p.now log (log_stays o p told.0) has);
      }

      written : (o : Option Disk) → IfSome o (λ disk. Wrote {T = ℕ} (standing disk.now (outs_to_clean step)) a b (Err fault)) → IfSome o (λ disk. Wrote {T = ℕ} (removals disk.now (step ∷ [])) a b (Err fault))
      written None told = tt
      written (Some disk) told = subst (λ l. Wrote {T = ℕ} l a b (Err fault)) (sym (one_removed disk.now step)) told

  -- they were, and then its record was dropped, or a fault came
  module _ (total : ℕ) (z : Outside) (more : List LogLine) (r : RemovesSome (outs_to_clean step) count x a y b (Ok total)) where
    written_ok : (o : Option Disk) → IfSome o (λ disk. Wrote {T = ℕ} (standing disk.now (outs_to_clean step)) a b (Ok total)) → IfSome o (λ disk. Wrote {T = ℕ} (removals disk.now (step ∷ [])) a b (Ok total))
    written_ok None told = tt
    written_ok (Some disk) told = subst (λ l. Wrote {T = ℕ} l a b (Ok total)) (sym (one_removed disk.now step)) told

    written_err : (fault : CleanFault) (o : Option Disk) → IfSome o (λ disk. Wrote {T = ℕ} (standing disk.now (outs_to_clean step)) a b (Ok total)) → IfSome o (λ disk. Wrote {T = ℕ} (removals disk.now (step ∷ [])) a b (Err fault))
    written_err fault None told = tt
    written_err fault (Some disk) told =
        subst (λ l. Wrote {T = ℕ} l a b (Err fault)) (sym (one_removed disk.now step)) (wrote_err ℕ (standing disk.now (outs_to_clean step)) a b (Ok total) fault tt told)

    both_others : (old mid new : Disk) → TakesAway (outs_to_clean step) old mid → ChangesOnlyAt log_path mid new → (path : List ℕ) → path ≢ log_path → (Contains (all_to_clean (step ∷ [])) path → ⊥) → new.now path ≡ old.now path
    both_others old mid new away only path apart none = only.others path apart ∙ away.others path (none_cleaned path none)

    both_gone : (old mid new : Disk) → TakesAway (outs_to_clean step) old mid → ChangesOnlyAt log_path mid new → (path : List ℕ) → path ≢ log_path → (new.now path ≡ old.now path) ⊎ (new.now path ≡ None)
    both_gone old mid new away only path apart = elim (away.gone path) [ inl same ↦ inl (only.others path apart ∙ same) | inr gone ↦ inr (only.others path apart ∙ gone) ]

    -- what is told of the files, by what is told of each of them
    in_turn : (q : Result ℕ CleanFault) (d : Result (Unit {0}) CleanFault) → DropsRecord step y log z more d
        → ((old mid new : Disk) → TakesAway (outs_to_clean step) old mid → TakenAway (outs_to_clean step) count old mid (Ok total) → ChangesOnlyAt log_path mid new → StepsTaken (step ∷ []) count old new q)
        → ((entry : Option (List ℕ)) (mid new : Disk) → HasLines entry mid.now log → AllByRecursion IsGood log → DropTold entry step log mid.now new.now more d → AllDropped (step ∷ []) entry log new more q)
        → BothTold (λ old new. CleanedSteps (step ∷ []) count log old new more q) x.disk z.disk
    in_turn q d drops takes tells = go x.disk y.disk z.disk r.files drops.only_log.files drops.told
      where
        go : (o p l : Option Disk) → BothTold (λ old new. TakesAway (outs_to_clean step) old new × TakenAway (outs_to_clean step) count old new (Ok total)) o p → BothTold (ChangesOnlyAt log_path) p l → BothTold (λ old new. (entry : Option (List ℕ)) → HasLines entry old.now log → DropTold entry step log old.now new.now more d) p l
            → BothTold (λ old new. CleanedSteps (step ∷ []) count log old new more q) o l
        go None None None one two three = tt
        go None None (Some l) one two three = absurd two
        go None (Some p) l one two three = absurd one
        go (Some o) None l one two three = absurd one
        go (Some o) (Some p) None one two three = absurd two
        go (Some o) (Some p) (Some l) one two three = record {
          others = both_others o p l one.0 two;
          gone = both_gone o p l one.0 two;
          taken = takes o p l one.0 one.1 two;
          drops = λ entry has good. (let mid = has_same entry o.now p.now log (log_stays o p one.0) has in tells entry p l mid good (three entry mid));
        }

    drop_counts : {T : Type 0} (d : Result (Unit {0}) CleanFault) (q : Result T CleanFault) → DropsRecord step y log z more d → (CleanCounts y b z b d → CleanCounts y b z b q) → CleanCounts x a z b q
    drop_counts d q drops turns = counts_then x a y b z b total q r.keeps.risks r.out_keeps.may_fail r.counts (turns (drops.counts b))

    pub cleans_one : DropsRecord step y log z more (Ok tt) → CleansMore (step ∷ []) count x a log z b more (Ok total)
    cleans_one drops = record {
      counts = drop_counts (Ok tt) (Ok total) drops (λ counts. counts);
      children = drops.only_log.children ∙ ap (λ (o : Outside). o.children) r.rest;
      good = drops.good;
      files = in_turn (Ok total) (Ok tt) drops (λ old mid new away taken only. (
        λ path among. (
            let inside = subst (λ l. Contains l path) (one_to_clean step) among in
            only.others path (λ same. not_log (subst (Contains (outs_to_clean step)) same inside)) ∙ taken.0 path inside),
        (let sum = taken.1 in let own_count = ap length (one_removed old.now step) in omega (arith, sum, own_count)),
      )) (λ entry mid new has good told. told);
      wrote = written_ok x.disk r.wrote;
      keeps = keeps_then x y z r.keeps (keeps_log_changes y z drops.only_log);
      out_keeps = r.out_keeps;
    }

    pub cleans_undropped : (fault : CleanFault) → DropsRecord step y log z more (Err fault) → CleansMore (step ∷ []) count x a log z b more (Err fault)
    cleans_undropped fault drops = record {
      counts = drop_counts {T = ℕ} (Err fault) (Err fault) drops (counts_err (Unit {0}) ℕ y b z b fault);
      children = drops.only_log.children ∙ ap (λ (o : Outside). o.children) r.rest;
      good = drops.good;
      files = in_turn (Err fault) (Err fault) drops (λ old mid new away taken only. tt) (by_fault fault);
      wrote = written_err fault x.disk r.wrote;
      keeps = keeps_then x y z r.keeps (keeps_log_changes y z drops.only_log);
      out_keeps = r.out_keeps;
    }
      where
        by_fault : (f : CleanFault) (entry : Option (List ℕ)) (mid new : Disk) → HasLines entry mid.now log → AllByRecursion IsGood log → DropTold entry step log mid.now new.now more (Err f) → HasFirstDrops entry log (step ∷ []) new.now
        by_fault faults.Host entry mid new has good cut = first_torn [] [] step mid.now refl good has cut
        by_fault faults.Sink entry mid new has good told = absurd told
        by_fault faults.OutOfMemory entry mid new has good told = first_whole [] (step ∷ []) refl good told

-- ---- one step more

module _ (front : List Step) (step : Step) (rest : List Step) (own : HaveOwnOuts (front ++ step ∷ rest)) (count total : ℕ) (x y z : Outside) (a b c : Output) (log mid more : List LogLine) (first : CleansMore front count x a log y b mid (Ok total)) where
  -- an output of the step was not cleaned before
  own_out : (path : List ℕ) → Contains (outs_to_clean step) path → Contains (all_to_clean front) path → ⊥
  own_out path among before = own.one_maker front rest step path refl before (cleaned_out step path among)

  own_not_log : (path : List ℕ) → Contains (outs_to_clean step) path → path ≢ log_path
  own_not_log path among same = own.not_log step (step_there front) (subst (Contains step.outs) same (cleaned_out step path among))
    where
      step_there : (l : List Step) → Contains (l ++ step ∷ rest) step
      step_there [] = Contains_here step rest
      step_there (s ∷ l) = Contains_there s step (l ++ step ∷ rest) (step_there l)

  -- so what is removed of it is what stood of it before the steps
  removed_later : (old between : Disk) → CleanedSteps front count log old between mid (Ok total) → removals between.now (step ∷ []) ≡ removals old.now (step ∷ [])
  removed_later old between is =
      one_removed between.now step
      ∙ standing_same old.now between.now (outs_to_clean step) (λ path among. is.others path (own_not_log path among) (own_out path among))
      ∙ sym (one_removed old.now step)

  to_clean : all_to_clean (front ++ step ∷ []) ≡ all_to_clean front ++ all_to_clean (step ∷ [])
  to_clean = flat_more outs_to_clean front (step ∷ [])

  removed_all : (f : Folder) → removals f (front ++ step ∷ []) ≡ removals f front ++ removals f (step ∷ [])
  removed_all f = flat_more (removed_of f) front (step ∷ [])

  not_first : (path : List ℕ) → (Contains (all_to_clean (front ++ step ∷ [])) path → ⊥) → Contains (all_to_clean front) path → ⊥
  not_first path none among = none (subst (λ l. Contains l path) (sym to_clean) (Contains-append_left (all_to_clean front) (all_to_clean (step ∷ [])) path among))

  not_second : (path : List ℕ) → (Contains (all_to_clean (front ++ step ∷ [])) path → ⊥) → Contains (all_to_clean (step ∷ [])) path → ⊥
  not_second path none among = none (subst (λ l. Contains l path) (sym to_clean) (later (all_to_clean front)))
    where
      later : (l : List (List ℕ)) → Contains (l ++ all_to_clean (step ∷ [])) path
      later [] = among
      later (p ∷ l) = Contains_there p path (l ++ all_to_clean (step ∷ [])) (later l)

  front_not_log : (path : List ℕ) → Contains (all_to_clean front) path → path ≢ log_path
  front_not_log path among same = go front (λ s inside. own.not_log s (Contains-append_left front (step ∷ rest) s inside)) among
    where
      go : (l : List Step) → ((s : Step) → Contains l s → Contains s.outs log_path → ⊥) → Contains (all_to_clean l) path → ⊥
      go [] none inside = Contains_nil path inside
      go (s ∷ l) none inside = elim (Contains-append_cases (outs_to_clean s) (all_to_clean l) path inside) [
        | inl here ↦ none s (Contains_here s l) (subst (Contains s.outs) same (cleaned_out s path here))
        | inr later ↦ go l (λ t inner. none t (Contains_there s t l inner)) later
      ]

  both_taken : (q : Result ℕ CleanFault) (o p l : Disk) → CleanedSteps front count log o p mid (Ok total) → CleanedSteps (step ∷ []) total mid p l more q → StepsTaken (step ∷ []) total p l q → StepsTaken (front ++ step ∷ []) count o l q
  both_taken (Ok last) o p l one two (none, sum) = (
    λ path among. elim (Contains-append_cases (all_to_clean front) (all_to_clean (step ∷ [])) path (subst (λ l. Contains l path) to_clean among)) [
      | inl before ↦ elim (two.gone path (front_not_log path before)) [ inl same ↦ same ∙ one.taken.0 path before | inr away ↦ away ]
      | inr here ↦ none path here
    ],
    (let before = one.taken.1 in
        let both = ap length (removed_all o.now) ∙ length-append (removals o.now front) (removals o.now (step ∷ [])) in
        let same = ap length (removed_later o p one) in
        omega (arith, sum, before, both, same)),
  )
  both_taken (Err fault) o p l one two told = tt

  both_dropped : (q : Result ℕ CleanFault) (entry : Option (List ℕ)) (l : Disk) → mid ≡ after_drops log front → AllDropped (step ∷ []) entry mid l more q → AllDropped (front ++ step ∷ []) entry log l more q
  both_dropped (Ok last) entry l same (lines_are, has) = (lines_are ∙ ap (λ m. after_drops m (step ∷ [])) same ∙ sym (drops_then front (step ∷ []) log), has)
  both_dropped (Err fault) entry l same told = drops_more entry log front step l.now (subst (λ m. HasFirstDrops entry m (step ∷ []) l.now) same told)

  both_cleaned : (q : Result ℕ CleanFault) (o p l : Disk) → CleanedSteps front count log o p mid (Ok total) → CleanedSteps (step ∷ []) total mid p l more q → CleanedSteps (front ++ step ∷ []) count log o l more q
  both_cleaned q o p l one two = record {
    others = λ path apart none. two.others path apart (not_second path none) ∙ one.others path apart (not_first path none);
    gone = λ path apart. elim (two.gone path apart) [
      | inl same ↦ elim (one.gone path apart) [ inl before ↦ inl (same ∙ before) | inr away ↦ inr (same ∙ away) ]
      | inr away ↦ inr away
    ];
    taken = both_taken q o p l one two two.taken;
    drops = λ entry has good. (let told = one.drops entry has good in both_dropped q entry l told.0 (two.drops entry told.1 (first.good good)));
  }

  pub cleans_next : (q : Result ℕ CleanFault) → CleansMore (step ∷ []) total y b mid z c more q → CleansMore (front ++ step ∷ []) count x a log z c more q
  cleans_next q next = record {
    counts = counts_then x a y b z c total q first.keeps.risks first.out_keeps.may_fail first.counts next.counts;
    children = next.children ∙ first.children;
    good = λ good. next.good (first.good good);
    files = go x.disk y.disk z.disk first.files next.files;
    wrote = written x.disk y.disk first.files first.wrote next.wrote;
    keeps = keeps_then x y z first.keeps next.keeps;
    out_keeps = out_keeps_then a b c first.out_keeps next.out_keeps;
  }
    where
      go : (o p l : Option Disk) → BothTold (λ old new. CleanedSteps front count log old new mid (Ok total)) o p → BothTold (λ old new. CleanedSteps (step ∷ []) total mid old new more q) p l
          → BothTold (λ old new. CleanedSteps (front ++ step ∷ []) count log old new more q) o l
      go None None None one two = tt
      go None None (Some l) one two = absurd two
      go None (Some p) l one two = absurd one
      go (Some o) None l one two = absurd one
      go (Some o) (Some p) None one two = absurd two
      go (Some o) (Some p) (Some l) one two = both_cleaned q o p l one two

      written : (o p : Option Disk) → BothTold (λ old new. CleanedSteps front count log old new mid (Ok total)) o p
          → IfSome o (λ disk. Wrote (removals disk.now front) a b (Ok total)) → IfSome p (λ disk. Wrote (removals disk.now (step ∷ [])) b c q)
          → IfSome o (λ disk. Wrote (removals disk.now (front ++ step ∷ [])) a c q)
      written None p files one two = tt
      written (Some o) None files one two = absurd files
      written (Some o) (Some p) files one two =
          subst (λ paths. Wrote paths a c q) (sym (removed_all o.now)) (wrote_then (removals o.now front) (removals o.now (step ∷ [])) a b c total q one (subst (λ paths. Wrote paths b c q) (removed_later o p files) two))

-- ---- a fault before all steps were cleaned

pub cleans_early : (front rest : List Step) (count : ℕ) (x y : Outside) (a b : Output) (log more : List LogLine) (fault : CleanFault) → CleansMore front count x a log y b more (Err fault) → CleansMore (front ++ rest) count x a log y b more (Err fault)
cleans_early front rest count x y a b log more fault is = record {
  counts = is.counts;
  children = is.children;
  good = is.good;
  files = go x.disk y.disk is.files;
  wrote = written x.disk is.wrote;
  keeps = is.keeps;
  out_keeps = is.out_keeps;
}
  where
    not_front : (path : List ℕ) → (Contains (all_to_clean (front ++ rest)) path → ⊥) → Contains (all_to_clean front) path → ⊥
    not_front path none among = none (subst (λ l. Contains l path) (sym (flat_more outs_to_clean front rest)) (Contains-append_left (all_to_clean front) (all_to_clean rest) path among))

    go : (o p : Option Disk) → BothTold (λ old new. CleanedSteps front count log old new more (Err fault)) o p → BothTold (λ old new. CleanedSteps (front ++ rest) count log old new more (Err fault)) o p
    go None None told = tt
    go None (Some p) told = absurd told
    go (Some o) None told = absurd told
    go (Some o) (Some p) told = record {
      others = λ path apart none. told.others path apart (not_front path none);
      gone = told.gone;
      taken = tt;
      drops = λ entry has good. drops_front entry log front rest p.now (told.drops entry has good);
    }

    written : (o : Option Disk) → IfSome o (λ disk. Wrote {T = ℕ} (removals disk.now front) a b (Err fault)) → IfSome o (λ disk. Wrote {T = ℕ} (removals disk.now (front ++ rest)) a b (Err fault))
    written None told = tt
    written (Some disk) told =
        subst (λ paths. Wrote {T = ℕ} paths a b (Err fault)) (sym (flat_more (removed_of disk.now) front rest)) (wrote_longer ℕ (removals disk.now front) (removals disk.now rest) a b fault told)
