use Rattle.std.proofs.Common.{◌⊎◌, ◌∙◌, ◌<◌, ℕ, [], List, Option, length, sym, subst}
use Rattle.std.specs.List.{Contains}
use Rattle.b2_facts.specs.Facts.{IsNumber}
use Rattle.b2_runs.specs.Outcomes.{IsListOf}
use Rattle.b2_sched.specs.Schedules.{IsFailed, IsSkipped}
use Rattle.b2_board.specs.declared.work.Work.{Work}
use Rattle.b2_board.specs.Boards.{work_at}
use Rattle.b2_endings.specs.Missing.{ListsMissing, IsOfLacking, lacking_in}
use Rattle.b2_endings.proofs.LackingAreSkipped.{skipped_left, lacking_numbered, needed_within}
use Rattle.b2_endings.proofs.ending.name_lists.Goals as goal

pub missing_files-requires-clause-within : goal.missing_files-requires-clause-within
missing_files-requires-clause-within g c =
    let l = c.args.looks.now in
    let b = l.board in
    let within = λ (i : ℕ) (among : Contains c.in_ok-skipped.skipped.items i).
    needed_within c.args.plan.now c.args.sights.now.facts b c.requires.looks.board c.requires.about c.requires.none_looks i (skipped_left b.sched c.args.quit i (c.in_ok-skipped.ensures.each i among)).needed in
    λ i among. subst (λ (works : List (Option Work)). i < length works) (sym c.as_slice-works.ensures.value) (within i (subst (λ (l : List ℕ). Contains l i) c.as_slice-numbers.ensures.value among))

pub missing_files-requires-clause-numbered : goal.missing_files-requires-clause-numbered
missing_files-requires-clause-numbered g c =
    let b = c.args.looks.now.board in
    subst (λ (works : List (Option Work)). (i n : ℕ) → Contains (lacking_in (work_at works i)) n → IsNumber c.args.sights.now.facts n) (sym c.as_slice-works.ensures.value)
    (lacking_numbered c.args.plan.now c.args.sights.now.facts b c.requires.looks.board)

pub returns-clause-named : goal.returns-clause-named
returns-clause-named g c =
    let plan = c.args.plan.now in
    let s = c.args.looks.now.board.sched in
    let f = c.args.sights.now.facts in
    let k = c.missing_files.new.facts in
    let list = c.in_ok-missing.missing in
    let steps = c.as_slice-numbers.ensures.value ∙ sym c.from_vec-2.ensures in
    record {
      failed = subst (λ (l : List ℕ). IsListOf (IsFailed s) l) (sym c.from_vec.ensures) c.in_ok-failed.ensures;
      skipped = subst (λ (l : List ℕ). IsListOf (IsSkipped s c.args.quit) l) (sym c.from_vec-2.ensures) c.in_ok-skipped.ensures;
      rising = c.in_ok-missing.ensures.rising;
      missing = subst (λ (works : List (Option Work)). ListsMissing (λ path. IsOfLacking f works c.from_vec-2.result path ⊎ Contains plan.wanted path) k [] list) c.as_slice-works.ensures.value
          (subst (λ (l : List ℕ). ListsMissing (λ path. IsOfLacking f c.as_slice-works.result.now l path ⊎ Contains plan.wanted path) k [] list) steps c.in_ok-missing.ensures.lists);
    }
