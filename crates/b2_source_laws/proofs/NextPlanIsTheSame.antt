-- The plan of a call that comes after an update is the same.
use Rattle.std.proofs.Common.{◌≡◌, Bool, List, [], codes, Some, None, Ok, refl, sym, ap, ◌∙◌, subst}
use Rattle.std.specs.Option.{option_map}
use Rattle.b2_base.specs.Normal.{IsUnder}
use Rattle.b2_host.specs.declared.children.ChildEvent.{ChildEvent}
use Rattle.b2_host.specs.Disks.{File, Folder, Disk, IsConsistent}
use Rattle.b2_host.specs.FileCalls.{log_path}
use Rattle.b2_plan.specs.Plans.{Apart}
use Rattle.b2_log.specs.declared.line.LogLine.{LogLine}
use Rattle.b2_runs.specs.NextLaws.{IsOfSamePlan}
use Rattle.b2_runs.specs.Outcomes.{OnlyOutputsChange}
use Rattle.b2_runs.specs.Staleness.{Update}
use Rattle.b2_drain.specs.Drains.{Made}
use Rattle.b2_generate.specs.Planning.{Planned}
use Rattle.b2_command_line.specs.Words.{Word}
use Rattle.b2_prepare.specs.Laws.{OneMeaning}
use Rattle.b2_prepare.specs.Meaning.{Means}
use Rattle.b2_top.specs.declared.build_command.BuildCommand.{BuildCommand}
use Rattle.b2_top.specs.Commands.{build_command}
use Rattle.b2_top.specs.Plans.{HasPlan, update_at, update_for}
use Rattle.b2_source_laws.specs.NextPlans.{SourcesStay, AsksAgain}
use Rattle.b2_source_laws.proofs.MeaningBySources.{means_by_sources}

-- the log lies in `bin`
pub log_under : IsUnder log_path (codes "bin")
log_under = record { next = codes "b2.log"; more = []; rooted = refl; goes_on = refl; not_above = λ e. cc }

pub updates_leave_sources : (u : Update) (events : List ChildEvent) (before now : Folder) → Apart u.build.steps u.build.roots → OnlyOutputsChange u events before now → SourcesStay u.build.roots before now
updates_leave_sources u events before now apart changed = λ path outside.
    ap (option_map (λ (file : File). file.bytes))
    (changed path
    (λ is. outside (codes "bin", apart.bin, subst (λ p. IsUnder p (codes "bin")) (sym is) log_under))
    (λ i step started makes. outside (apart.under_root i step path makes)))

means_again : (words again : List Word) (disk later : Disk) (plan : HasPlan words disk) → IsConsistent disk → IsConsistent later → SourcesStay plan.planned.roots disk.now later.now
    → (free : List Word) → free ≡ plan.command.words → Means later None free plan.echoes (Ok plan.planned)
means_again words again disk later plan consistent also stay free is =
    subst (λ ws. Means later None ws plan.echoes (Ok plan.planned)) (sym is)
    (means_by_sources disk later None plan.command.words plan.echoes plan.planned consistent also stay plan.means)

pub plan_comes_again : (words again : List Word) (disk later : Disk) (plan : HasPlan words disk) (command : BuildCommand) → IsConsistent disk → IsConsistent later
    → SourcesStay plan.planned.roots disk.now later.now → build_command again ≡ Some command → command.words ≡ plan.command.words
    → (next : HasPlan again later) × (next.planned ≡ plan.planned) × (next.echoes ≡ plan.echoes)
plan_comes_again words again disk later plan command consistent also stay asked is = (
  record { command = command; echoes = plan.echoes; planned = plan.planned; asked = asked; means = means_again words again disk later plan consistent also stay command.words is },
  refl,
  refl,
)

module _ (one_meaning : OneMeaning) (words again : List Word) (disk later : Disk) (plan : HasPlan words disk) (next : HasPlan again later)
    (consistent : IsConsistent disk) (also : IsConsistent later) (stay : SourcesStay plan.planned.roots disk.now later.now) (asks : AsksAgain plan.command next.command) where
  same_planned : next.planned ≡ plan.planned
  same_planned =
      let both : Ok next.planned ≡ Ok plan.planned =
      (one_meaning later None next.command.words next.echoes plan.echoes (Ok next.planned) (Ok plan.planned) next.means
      (means_again words again disk later plan consistent also stay next.command.words asks.words)).1 in
      cc

  pub next_is_of_same_plan : (made : Made) (first log : List LogLine) → IsOfSamePlan (update_for made plan first) (update_for made next log)
  next_is_of_same_plan made first log =
      let at : Planned → Bool → Bool → Update =
      λ planned by_digest all. update_at made (record { jobs = next.command.options.jobs; all = all; quit = next.command.options.quit; by_digest = by_digest }) planned later.now log in
      ap (λ p. at p next.command.options.digest next.command.options.all) same_planned
      ∙ ap (λ d. at plan.planned d next.command.options.all) asks.judged
      ∙ ap (λ a. at plan.planned plan.command.options.digest a) asks.not_all
