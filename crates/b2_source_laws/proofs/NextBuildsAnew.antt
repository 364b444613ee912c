-- After cleaning the next call that asks for a build of the same free words builds the cleaned plan anew.
use Rattle.std.proofs.Common.{◌≡◌, ℕ, List, ◌++◌, codes, Option, Some, None, Result, Ok, inl, inr, refl, sym, ap, ◌∙◌, subst}
use Rattle.std.specs.Option.{option_map}
use Rattle.std.proofs.lemmas.List.{append_cancel_left}
use Rattle.b2_base.specs.Normal.{IsUnder}
use Rattle.b2_host.specs.declared.children.ChildEvent.{ChildEvent}
use Rattle.b2_host.specs.ChildProcesses.{BothTold, Family}
use Rattle.b2_host.specs.Disks.{File, Disk, IsConsistent}
use Rattle.b2_host.specs.Outside.{Outside}
use Rattle.b2_plan.specs.declared.step.Step.{Step}
use Rattle.b2_plan.specs.Plans.{Apart, step_at}
use Rattle.b2_plan.specs.Sources.{IsInRoots}
use Rattle.b2_log.specs.declared.line.LogLine.{LogLine}
use Rattle.b2_runs.specs.LogFiles.{IsLogIn}
use Rattle.b2_runs.specs.NextLaws.{AreEventsBetween}
use Rattle.b2_runs.specs.Outcomes.{IsCleanBuild}
use Rattle.b2_runs.specs.Staleness.{Update}
use Rattle.b2_runs.specs.UpdateAnswers.{UpdateAnswer, HasUpdated}
use Rattle.b2_runs.specs.UpdateAnswers.UpdateAnswer.{all_went, failed as some_failed, step_cycle}
use Rattle.b2_runs.proofs.CleanBySources.{clean_from}
use Rattle.b2_runs.proofs.DiskStaysSound.{true_log_serves}
use Rattle.b2_runs.proofs.NextStartsNoMore.{log_is_one}
use Rattle.b2_drain.specs.Drains.{Made}
use Rattle.b2_endings.specs.declared.failed_lists.FailedLists.{FailedLists}
use Rattle.b2_endings.specs.Endings.{lists_of}
use Rattle.b2_explain.specs.Cleaning.{IsToClean, IsCleaned}
use Rattle.b2_explain.specs.Laws.{IsFirstPoint, CleanedIsStale}
use Rattle.b2_generate.specs.Planning.{Planned}
use Rattle.b2_prepare.specs.Laws.{OneMeaning}
use Rattle.b2_prepare.specs.Meaning.{Refusal, Means}
use Rattle.b2_top.specs.Askings.{IsProjectRefusal}
use Rattle.b2_refusals.specs.declared.fault.Fault.TheVariants as faults
use Rattle.b2_command_line.specs.Words.{Word}
use Rattle.b2_top.specs.declared.answer.Answer.{Answer}
use Rattle.b2_top.specs.declared.answer.Answer.TheVariants as answers
use Rattle.b2_top.specs.Builds.{HasBuilt, HappenedBy, LeavesClean}
use Rattle.b2_top.specs.Cleans.{HasPlan as HasCleaningPlan, LeavesFiles, IsCleanedTold}
use Rattle.b2_top.specs.Endings.{IfRefused}
use Rattle.b2_top.specs.Plans.{HasPlan, build_at, update_for, MeetsPremises, making_by}
use Rattle.b2_top.specs.BetweenMoments.{Wrote}
use Rattle.b2_source_laws.specs.AfterCleaning.{IsBuildOf, HasTrueLog, HasNoneFresh, EachStarts, BuildsAnew, NextAfterCleaning}
use Rattle.b2_source_laws.specs.Laws.{MeaningIsApart}
use Rattle.b2_source_laws.specs.NextPlans.{SourcesStay}
use Rattle.b2_source_laws.proofs.CleanedStepsStart.{all_stale, settled_by_work, starts_or, starts_or_left}
use Rattle.b2_source_laws.proofs.MeaningBySources.{means_by_sources}
use Rattle.b2_source_laws.proofs.NextFindsFresh.{both_told, one_update}
use Rattle.b2_source_laws.proofs.NextPlanIsTheSame.{log_under}
use Rattle.b2_source_laws.proofs.RefusalIsOfPattern.{refused_for_pattern}

-- what is told of two disks that are known
told_of : (P : Disk → Disk → Type 0) (a b : Option Disk) (x y : Disk) → a ≡ Some x → b ≡ Some y → BothTold P a b → P x y
told_of P None b x y e f told = let clash : None ≡ Some x = e in cc
told_of P (Some a) None x y e f told = absurd told
told_of P (Some a) (Some b) x y e f told =
    let one : a ≡ x = (let g : Some a ≡ Some x = e in cc) in
    let other : b ≡ y = (let g : Some b ≡ Some y = f in cc) in
    subst (λ d. P x d) other (subst (λ d. P d b) one told)

one_text : (a b : List Word) → Some a ≡ Some b → a ≡ b
one_text a b e = cc

one_plan : (a b : Planned) → ◌≡◌ {A = Result Planned Refusal} (Ok a) (Ok b) → a ≡ b
one_plan a b e = cc

module _ (one_meaning : OneMeaning) (apart_of : MeaningIsApart) (words : List Word) (disk later : Disk) (leaves : LeavesFiles words disk later) (plan : HasCleaningPlan words disk) where
  -- the words come to no other plan
  same_planned : (p : HasCleaningPlan words disk) → p.planned ≡ plan.planned
  same_planned p =
      let free : p.words ≡ plan.words = one_text p.words plan.words (sym p.asked ∙ plan.asked) in
      let means : Means disk None plan.words p.echoes (Ok p.planned) = subst (λ ws. Means disk None ws p.echoes (Ok p.planned)) free p.means in
      one_plan p.planned plan.planned (one_meaning disk None plan.words p.echoes plan.echoes (Ok p.planned) (Ok plan.planned) means plan.means).1

  apart : Apart plan.planned.steps plan.planned.roots
  apart = apart_of disk None plan.words plan.echoes plan.planned plan.means

  -- no source has changed
  files_stay : (path : List ℕ) → (IsInRoots plan.planned.roots path → ⊥) → later.now path ≡ disk.now path
  files_stay path outside =
      leaves.others path
      (λ is. outside (codes "bin", apart.bin, subst (λ p. IsUnder p (codes "bin")) (sym is) log_under))
      (λ p cleaned. (let (i, step, makes, owes) = subst (λ (q : Planned). IsToClean q.steps path) (same_planned p) cleaned in outside (apart.under_root i step path makes)))

  sources_stay : SourcesStay plan.planned.roots disk.now later.now
  sources_stay = λ path outside. ap (option_map (λ (file : File). file.bytes)) (files_stay path outside)

  module _ (stale_of : CleanedIsStale) (cleaned : IsCleaned plan.planned.steps disk later) (made : Made) (again : List Word) (answer : Answer) (last : Disk)
      (consistent : IsConsistent disk) (also : IsConsistent later) (b : IsBuildOf made plan.words again answer later last) where
    -- the plan that the call has again
    means_again : Means later None b.command.words plan.echoes (Ok plan.planned)
    means_again =
        subst (λ ws. Means later None ws plan.echoes (Ok plan.planned)) (sym b.words)
        (means_by_sources disk later None plan.words plan.echoes plan.planned consistent also sources_stay plan.means)

    abbrev found : HasPlan again later
    found = record { command = b.command; echoes = plan.echoes; planned = plan.planned; asked = b.asked; means = means_again }

    abbrev update : List LogLine → Update
    update log = update_for made found log

    points : (log : List LogLine) (i : ℕ) (step : Step) → step_at plan.planned.steps i ≡ Some step → IsFirstPoint (update log) step
    points log i step at = stale_of (update log) disk later i step apart cleaned refl at

    none_fresh : (log : List LogLine) → IsLogIn later.now log → HasNoneFresh (update log)
    none_fresh log is = record {
      first_point = points log;
      no_record = λ i step at. cleaned.no_record log is i step at;
      stale = all_stale (update log) apart (points log);
      by_work = settled_by_work (update log) apart (points log);
    }

    module _ (true_log : HasTrueLog made again disk last) where
      meets : (log : List LogLine) → MeetsPremises (update log) later last
      meets log = record {
        uses_true = true_log_serves (update log) later (leaves.true_log (making_by made) true_log.true_log);
        distinct = λ digest. true_log.tells b.command b.asked digest;
      }

      -- any plan of the call is that one, so that its update is the same
      same_update : (p : HasPlan again later) (log other : List LogLine) → log ≡ other → update log ≡ update_for made p other
      same_update p log other is = one_update one_meaning made again b.before.host b.after.host later last found p log other is

      -- ---- what happened

      happened : HappenedBy made again b.before.host b.after.host later last answer
      happened =
          told_of (λ x y. HappenedBy made again b.before.host b.after.host x y answer) b.before.host.disk b.after.host.disk later last b.shows b.shows_then b.answered.happened

      module _ (log : List LogLine) (events : List ChildEvent) (is : IsLogIn later.now log) (are : AreEventsBetween b.before.host b.after.host events) where
        abbrev Updated : UpdateAnswer → Type 0
        Updated ended = (begun : Outside) × (begun.children ≡ b.before.host.children) × HasUpdated (update log) ended begun b.after.host later last

        updated : (ended : UpdateAnswer) (h : HasBuilt made again b.before.host b.after.host later last ended) (other : List LogLine) → IsLogIn later.now other
            → (MeetsPremises (update_for made h.plan other) later last → HasUpdated (update_for made h.plan other) ended (record b.before.host { reads = h.reads }) b.after.host later last)
            → Updated ended
        updated ended h other also did =
            let begun : Outside = record b.before.host { reads = h.reads } in
            let same : update log ≡ update_for made h.plan other = same_update h.plan log other (log_is_one later.now log other is also) in
            (begun, refl, subst (λ u. HasUpdated u ended begun b.after.host later last) (sym same) (did (subst (λ u. MeetsPremises u later last) same (meets log))))

        -- its events are those of the call
        same_events : (begun : Outside) → begun.children ≡ b.before.host.children → (mine : List ChildEvent) → b.after.host.children.events ≡ begun.children.events ++ mine → mine ≡ events
        same_events begun family mine mine_are =
            append_cancel_left b.before.host.children.events mine events (sym (subst (λ (f : Family). b.after.host.children.events ≡ f.events ++ mine) family mine_are) ∙ are)

        abbrev Starts : Answer → Type 0
        Starts result = EachStarts (update log) events result

        after_ok : Updated all_went → Starts answers.Ok
        after_ok (begun, family, h) = subst (λ es. EachStarts (update log) es answers.Ok) (same_events begun family h.events h.events_are) each
          where
            each : EachStarts (update log) h.events answers.Ok
            each i needed =
                let (ended, went, is_clean) = h.told in
                starts_or (update log) apart (points log) h.events ended.run i needed (elim (went.none_stuck i needed) [
                  | inl settled ↦ inl settled
                  | inr (inl failed) ↦ inr (inl failed)
                  | inr (inr held) ↦ inr (inr (went.none_skipped i held))
                ])

        after_failed : (lists : FailedLists) → Updated (some_failed (lists_of lists)) → Starts (answers.Failed lists)
        after_failed lists (begun, family, h) = subst (λ es. EachStarts (update log) es (answers.Failed lists)) (same_events begun family h.events h.events_are) each
          where
            each : EachStarts (update log) h.events (answers.Failed lists)
            each i needed =
                let (ended, none_stuck, are_lists, lacks) = h.told in
                starts_or (update log) apart (points log) h.events ended.run i needed (elim (none_stuck i needed) [
                  | inl settled ↦ inl settled
                  | inr (inl failed) ↦ inr (inl failed)
                  | inr (inr held) ↦ inr (inr (are_lists.skipped.whole i held))
                ])

        after_cycle : (list : List ℕ) → Updated (step_cycle list) → Starts (answers.Refused (faults.StepCycle list))
        after_cycle list (begun, family, h) = subst (λ es. EachStarts (update log) es (answers.Refused (faults.StepCycle list))) (same_events begun family h.events h.events_are) each
          where
            each : EachStarts (update log) h.events (answers.Refused (faults.StepCycle list))
            each i needed = let (ended, cycle) = h.told in starts_or_left (update log) apart (points log) h.events ended.run i needed

        each_starts : (result : Answer) → HappenedBy made again b.before.host b.after.host later last result → IfRefused IsProjectRefusal result → Starts result
        each_starts answers.Ok h whole = let (other, also, did) = h.updated in after_ok (updated all_went h other also did)
        each_starts (answers.Failed lists) h whole = let (other, also, did) = h.updated in after_failed lists (updated (some_failed (lists_of lists)) h other also did)
        each_starts (answers.Refused (faults.Plan why)) (still, (echoes, none)) whole =
            λ i needed. inr (refused_for_pattern one_meaning again later found why whole echoes none)
        each_starts (answers.Refused (faults.Jam fault)) (still, (echoes, none)) whole = absurd none.cause
        each_starts (answers.Refused (faults.StepCycle list)) h whole = let (other, also, did) = h.updated in after_cycle list (updated (step_cycle list) h other also did)
        each_starts (answers.Refused (faults.TooBig path size)) h whole = λ i needed. inr tt
        each_starts answers.Usage (still, none) whole = let clash : None ≡ Some b.command = sym none ∙ b.asked in λ i needed. cc
        each_starts answers.HostFault h whole = λ i needed. inr tt
        each_starts answers.OutOfMemory h whole = λ i needed. inr tt
        each_starts answers.SinkFault h whole = λ i needed. inr tt

      -- ---- after Ok

      left_clean : LeavesClean made again later last → IsCleanBuild (build_at made plan.planned later.now) last.now
      left_clean c =
          let same : update c.log ≡ update_for made c.plan c.log = same_update c.plan c.log c.log refl in
          subst (λ (u : Update). IsCleanBuild u.build last.now) (sym same) (c.clean (subst (λ u. MeetsPremises u later last) same (meets c.log)))

      -- the clean build is that of the sources as they stood
      from_sources : IsCleanBuild (build_at made plan.planned later.now) last.now → IsCleanBuild (build_at made plan.planned disk.now) last.now
      from_sources clean path wanted = elim (clean path wanted) [
        | inl (bytes, value, stands) ↦ inl (bytes, clean_from (build_at made plan.planned disk.now) later.now files_stay path (Some bytes) value, stands)
        | inr makes ↦ inr makes
      ]

      ends_clean : answer ≡ answers.Ok → IsCleanBuild (build_at made plan.planned disk.now) last.now
      ends_clean is = from_sources (left_clean (told_of (LeavesClean made again) b.before.host.disk b.after.host.disk later last b.shows b.shows_then (b.answered.clean is)))

    builds_anew : BuildsAnew words made plan again answer later last b
    builds_anew = record {
      found = found;
      same = refl;
      echoes = refl;
      none_fresh = none_fresh;
      each_starts = λ true_log log events is are. each_starts true_log log events is are answer (happened true_log) b.answered.whole;
      clean = ends_clean;
    }

pub next_after_cleaning : OneMeaning → MeaningIsApart → CleanedIsStale → NextAfterCleaning
next_after_cleaning one_meaning apart_of stale_of made words before after cleaning =
    both_told
    (λ disk later. ((p : HasCleaningPlan words disk) × IsCleaned p.planned.steps disk later) × Wrote before.out after.out (IsCleanedTold words disk later))
    (LeavesFiles words)
    (λ disk later. (plan : HasCleaningPlan words disk) (again : List Word) (answer : Answer) (last : Disk) → IsConsistent disk → IsConsistent later
    → (b : IsBuildOf made plan.words again answer later last) → BuildsAnew words made plan again answer later last b)
    before.host.disk after.host.disk
    (λ disk later done leaves plan again answer last consistent also b.
    builds_anew one_meaning apart_of words disk later leaves plan stale_of
    (subst (λ (q : Planned). IsCleaned q.steps disk later) (same_planned one_meaning apart_of words disk later leaves plan done.0.0) done.0.1)
    made again answer last consistent also b)
    (cleaning.cleaned refl) cleaning.leaves
