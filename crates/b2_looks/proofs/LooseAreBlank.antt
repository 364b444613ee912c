-- Of outputs of steps that run or failed nothing is known, so what is known stays true while they change.
use Rattle.std.proofs.Common.{◌≡◌, ◌⊎◌, inl, inr, ℕ, true, List, Some, sym, ap, subst, ◌∙◌}
use Rattle.std.specs.List.{Contains}
use Rattle.b2_host.specs.declared.children.ChildEvent.{ChildEvent}
use Rattle.b2_host.specs.declared.children.ChildEvent.TheVariants.{Start, Done}
use Rattle.b2_plan.specs.declared.step.Step.{Step}
use Rattle.b2_plan.specs.Plans.{step_at, Makes, Apart}
use Rattle.b2_plan.specs.Sources.{IsInRoots}
use Rattle.b2_plan.specs.Closures.{Value, IsClosure}
use Rattle.b2_runs.specs.Staleness.{Update, making}
use Rattle.b2_runs.specs.Runs.{Settled, Settled.source as settled_source, Settled.done_well as settled_done, Settled.fresh as settled_fresh, on_settled}
use Rattle.b2_runs.specs.Soundness.{IsLoose}
use Rattle.b2_runs.proofs.MakerIsOne.{source_not_made}
use Rattle.b2_runs.proofs.SourcesAreKept.{log_in_roots}
use Rattle.b2_runs.proofs.TrueWithLine.{scans_true_as_past_grows}
use Rattle.b2_sched.specs.Schedules.{IsSettled}
use Rattle.b2_facts.specs.declared.file_facts.FileFacts.{FileFacts}
use Rattle.b2_facts.specs.Facts.{Knowledge, IsAbout, path_at, file_at}
use Rattle.b2_facts.specs.Growth.{LearnsOf}
use Rattle.b2_facts.proofs.ListsAtPlaces.{some_is, none_some}
use Rattle.b2_facts.proofs.FactsTellSources.{true_as_files_change}
use Rattle.b2_reach.specs.Files.{IsAtHand, IsAtHand.source as hand_source, IsAtHand.made as hand_made, IsNumberAtHand}
use Rattle.b2_reach.proofs.FoundMakerMakesPath.{maker_makes}
use Rattle.b2_reach.proofs.ReachGrows.{has_path}
use Rattle.b2_verdicts.specs.declared.step_numbers.StepNumbers.{StepNumbers}
use Rattle.b2_verdicts.specs.VerdictCalls.{IsOfStep}
use Rattle.b2_looks.specs.declared.looks.Looks.{Looks}
use Rattle.b2_looks.specs.Looks.{Follows}
use Rattle.b2_looks.specs.UnderWay.{LooseAreBlank}
use Rattle.b2_looks.specs.Laws.{SightStaysTrue}
use Rattle.b2_looks.proofs.FilesAreLookedAt.{made_by}

-- what is learned of some files leaves outputs blank whose steps are loose, where none of these files is one
pub blank_learned : (P : ℕ → Type 0) (events : List ChildEvent) (f g : Knowledge) → LearnsOf P f g → ((n k : ℕ) (file : FileFacts) → P n → file_at g n ≡ Some file → file.maker ≡ Some k → IsLoose events k → ⊥) → LooseAreBlank events f → LooseAreBlank events g
blank_learned P events f g only none blank n k file at made loose = elim (only n file at) [
  | inl looked ↦ absurd (none_some k (sym looked.outside.0 ∙ made))
  | inr (inl p) ↦ absurd (none n k file p at made loose)
  | inr (inr (inl same)) ↦ blank n k file same made loose
  | inr (inr (inr is)) ↦ is
]

-- a file at hand is no output of a loose step
pub hand_not_loose : (steps : List Step) (events : List ChildEvent) (l : Looks) (g : Knowledge) → Follows events l → (n k : ℕ) (file : FileFacts) → IsNumberAtHand steps (IsSettled l.board.sched) g n → file_at g n ≡ Some file → file.maker ≡ Some k → IsLoose events k → ⊥
hand_not_loose steps events l g follows n k file is at made loose =
    let same : is.file ≡ file = some_is is.file file (sym is.file_is ∙ at) in
    go is.file (ap (λ (x : FileFacts). x.maker) same ∙ made) is.hand
  where
    go : (x : FileFacts) → x.maker ≡ Some k → IsAtHand steps (IsSettled l.board.sched) x → ⊥
    go x e (hand_source stamp unmade rooted stands) = none_some k (sym unmade ∙ e)
    go x e (hand_made number owed settled) = loose.1 (follows.settled k (subst (IsSettled l.board.sched) (some_is number k (sym owed.made ∙ e)) settled) loose.0)

-- a settled path is no output of a loose step
pub settled_not_loose : (u : Update) (events : List ChildEvent) → Apart u.build.steps u.build.roots → (i : ℕ) → IsLoose events i → (step : Step) (path : List ℕ) → Makes u.build.steps i step path → Settled u events path → ⊥
settled_not_loose u events apart i loose step path makes (settled_source p bytes s) = source_not_made u.build apart p bytes s i step makes
settled_not_loose u events apart i loose step path makes (settled_done k s p makes_k done) = loose.1 (subst (λ j. Contains events (Done j true)) (apart.one_maker k i s step p makes_k makes) done)
settled_not_loose u events apart i loose step path makes (settled_fresh k s p members makes_k not_started closure inside f) = not_started (subst (λ j. Contains events (Start j)) (apart.one_maker i k step s p makes makes_k) loose.0)

-- neither is a file of a step that was not started, whose closure is settled
pub step_not_loose : (u : Update) (events : List ChildEvent) (step : Step) (members : List (List ℕ × Value)) (number : ℕ) (numbers : StepNumbers) (g : Knowledge) → Apart u.build.steps u.build.roots → IsAbout u.build.steps u.build.roots g → step_at u.build.steps number ≡ Some step → (Contains events (Start number) → ⊥)
    → IsClosure u.build (on_settled u events) step members → ((n : ℕ) (path : List ℕ) → IsOfStep numbers n → path_at g n ≡ Some path → Contains step.outs path ⊎ ((bytes : List ℕ) × Contains members (path, Some bytes)))
    → (n k : ℕ) (file : FileFacts) → IsOfStep numbers n → file_at g n ≡ Some file → file.maker ≡ Some k → IsLoose events k → ⊥
step_not_loose u events step members number numbers g apart about at not_started closure which n k file of known made loose =
    let (path, path_is) = has_path u.build.steps u.build.roots g n file about known in
    let (maker, makes) = maker_makes u.build.steps path k (sym (about.planned n path file (record { path_is = path_is; file_is = known })).maker ∙ made) in
    elim (which n path of path_is) [
      | inl out ↦ not_started (subst (λ j. Contains events (Start j)) (apart.one_maker k number maker step path makes (record { at = at; among = out })) loose.0)
      | inr (bytes, among) ↦ settled_not_loose u events apart k loose maker path makes (closure.each path (Some bytes) among).1.0
    ]

-- ---- files change

pub sight_stays_true : SightStaysTrue
sight_stays_true u events before after s apart change blank is = record {
  consistent = change.keeps;
  sources = λ path outside. change.others path (λ log. outside (subst (IsInRoots u.build.roots) (sym log) (log_in_roots u.build apart))) (λ i step makes loose. outside (apart.under_root i step path makes)) ∙ is.sources path outside;
  about = is.about;
  facts = true_as_files_change u.build.steps u.build.roots u.build before.now after.now s.facts is.about is.facts (λ n path file at known. change.others path
      (λ log. known (is.log_unseen n file (record { path_is = subst (λ p. path_at s.facts n ≡ Some p) log at.path_is; file_is = at.file_is })))
      (λ i step makes loose. known (blank n i file at.file_is ((is.about.planned n path file at).maker ∙ made_by u.build.steps u.build.roots i step path apart makes) loose)));
  log_unseen = is.log_unseen;
  scans = scans_true_as_past_grows (making u) before.past after.past s.journal change.grows is.scans;
}
