-- Files that agree outside the output roots of a plan come to that plan.
use Rattle.std.proofs.Common.{◌≡◌, ℕ, true, false, List, [], ◌∷◌, All, Option, None, Result, Ok, Err, refl, sym, ap, ◌∙◌, subst}
use Rattle.std.specs.List.{AllByRecursion}
use Rattle.std.proofs.lemmas.Bool.{false≢true}
use Rattle.std.proofs.lemmas.List.Elements.{All-from_recursion}
use Rattle.std.proofs.lemmas.List.Folds.{list_any_at}
use Rattle.b2_base.specs.Normal.{IsNormal}
use Rattle.b2_base.specs.Below.{is_below}
use Rattle.b2_base.proofs.TestTellsWhatIsBelow.{below_is}
use Rattle.b2_evaluator.specs.Answers.{Answers}
use Rattle.b2_host.specs.Disks.{Disk, IsConsistent, bytes_at}
use Rattle.b2_declared.specs.declared.whole.Declared.{Declared}
use Rattle.b2_plan.specs.Sources.{IsInRoots}
use Rattle.b2_props.specs.Sets.{Pair}
use Rattle.b2_props.specs.Words.{target_words}
use Rattle.b2_props.specs.Requests.{request_sets, request_fault}
use Rattle.jam_effects.specs.declared.fault.EvalFault.{EvalFault}
use Rattle.jam_meaning.specs.Settings.{Reading, IsSetting}
use Rattle.jam_journal.specs.Tables.{Text}
use Rattle.b2_project_walk.specs.Walks.{Walk}
use Rattle.b2_project.specs.Loads.{loaded, Loads}
use Rattle.b2_generate.specs.Answers.{Generated}
use Rattle.b2_generate.specs.Answers as generation
use Rattle.b2_generate.specs.Faults.{Fault}
use Rattle.b2_generate.specs.LoadedProjects.{LoadedProject}
use Rattle.b2_generate.specs.Planning.{Planned, Plans, planned_of}
use Rattle.b2_own_text.specs.Names.{names_in}
use Rattle.b2_own_text.specs.Readings.{reads}
use Rattle.b2_own_text.specs.DiskViews.{setting_of}
use Rattle.b2_own_text.specs.Worlds.{answers_in}
use Rattle.b2_own_text.proofs.EvaluationsGiveWhatIsTold.{right as rightly_seen}
use Rattle.b2_testing.specs.Adding.{with_tests}
use Rattle.b2_testing.specs.Readying.{IsEquippedFor}
use Rattle.jam_scope.specs.Worlds.{Worlds}
use Rattle.b2_prepare.specs.Meaning.{Refusal, of_load, of_request, of_generation, load_turns, load_setting, project_of, Means}
use Rattle.b2_prepare.specs.Meaning.{not_loaded, not_asked, not_planned, planned}
use Rattle.jam_source_laws.specs.Sources.{is_hidden, ShowSame, BytesAgree, AreRoots}
use Rattle.jam_source_laws.proofs.RightSettingsShowSame.{files_show_same}
use Rattle.b2_source_laws.proofs.RootsStayInWalks.{load_settles, equipped_keeps}
use Rattle.b2_source_laws.proofs.WalksBySources.{loads_agree}
use Rattle.b2_source_laws.proofs.AnswersBySources.{answers_same}

-- a path that lies under an output root is hidden
pub hidden_in : (roots : List Text) (path : Text) → IsInRoots roots path → is_hidden roots path ≡ true
hidden_in roots path (root, at, under) =
    list_any_at (λ r. is_below path r) roots at.0 root at.1 (ap (λ r. is_below path r) at.2 ∙ sym (below_is true path root ((λ yes. under), (λ u. refl))))

outside_hidden : (roots : List Text) (path : Text) → is_hidden roots path ≡ false → IsInRoots roots path → ⊥
outside_hidden roots path outside inside = false≢true (sym outside ∙ hidden_in roots path inside)

normals : (roots : List Text) → AreRoots roots → AllByRecursion IsNormal roots
normals [] are = tt
normals (root ∷ roots) are = (are.0.normal, normals roots are.1)

-- a plan has the roots of the project
roots_or : {E : Type 0} → List Text → Result Planned (Fault E) → List Text
roots_or roots (Ok plan) = plan.roots
roots_or roots (Err why) = roots

roots_of : {E : Type 0} (l : LoadedProject E) (outcome : generation.Outcome E (List Generated)) → roots_or l.roots (planned_of l outcome) ≡ l.roots
unfolding roots_or
roots_of l (Ok made) = refl
roots_of l (Err why) = refl

plan_roots : {E : Type 0} (l : LoadedProject E) (sets : List (List Pair)) (words : List Text) (plan : Planned) → Plans l sets words (Ok plan) → plan.roots ≡ l.roots
unfolding roots_or
plan_roots l sets words plan plans = ap (roots_or l.roots) plans.is ∙ roots_of l plans.outcome

module _ (disk other : Disk) (refused : Option (ℕ × Text)) (words : List Text) (consistent : IsConsistent disk) (also : IsConsistent other) where
  abbrev names : Text → List Text
  names = names_in other

  abbrev reading : Text → Reading
  reading = λ path. (reads other.now path).0

  loading : IsSetting (load_setting disk refused)
  loading = record { sees = (rightly_seen disk consistent).sees; reads = (rightly_seen disk consistent).reads }

  other_loading : IsSetting (load_setting other refused)
  other_loading = record { sees = (rightly_seen other also).sees; reads = (rightly_seen other also).reads }

  made_so : (w : Walk) (found : Declared) (worlds : Worlds) (plan : Planned) → BytesAgree worlds.now.roots disk.now other.now → Loads (load_setting disk refused) load_turns words (loaded w found)
      → IsEquippedFor found.tests w.state.worlds worlds → request_fault found.registry words ≡ None
      → Plans (project_of disk worlds (with_tests found)) (request_sets found.registry words) (target_words found.registry words) (Ok plan) → Means other refused words w.state.kept.echoes (Ok plan)
  made_so w found worlds plan agree loads equips asked plans =
      let roots : List Text = w.state.worlds.now.roots in
      let settled = load_settles (load_setting disk refused) refl load_turns words w found loads in
      let later = (equipped_keeps found.tests w.state.worlds worlds equips).0 settled.0 in
      let agree_there : BytesAgree roots disk.now other.now = subst (λ rs. BytesAgree rs disk.now other.now) later.1 agree in
      let normal : All IsNormal roots = All-from_recursion IsNormal roots (normals roots settled.1) in
      let shown : ShowSame roots (load_setting disk refused) (load_setting other refused) = files_show_same roots (load_setting disk refused) other.now names reading normal refl loading other_loading agree_there in
      let told : ShowSame roots (setting_of disk) (setting_of other) = files_show_same roots (setting_of disk) other.now names reading normal refl (rightly_seen disk consistent) (rightly_seen other also) agree_there in
      let again : Loads (load_setting other refused) load_turns words (loaded w found) =
      loads_agree roots (load_setting disk refused) other.now names reading refl shown settled.1 load_turns words (loaded w found) loads (λ frozen. refl) in
      let same : answers_in (setting_of disk) found.places worlds ≡ answers_in (setting_of other) found.places worlds =
      answers_same roots (setting_of disk) other.now names reading refl told found.places worlds later.0 later.1 in
      let project : Answers EvalFault → LoadedProject EvalFault = λ answers. record { declared = with_tests found; roots = worlds.now.roots; answers = answers } in
      planned w found worlds plan again equips asked (subst (λ answers. Plans (project answers) (request_sets found.registry words) (target_words found.registry words) (Ok plan)) same plans)

  same_bytes : (roots : List Text) (plan : Planned) → plan.roots ≡ roots → ((path : Text) → (IsInRoots plan.roots path → ⊥) → bytes_at other.now path ≡ bytes_at disk.now path) → BytesAgree roots disk.now other.now
  same_bytes roots plan is agree = λ path outside. sym (agree path (λ inside. outside_hidden roots path outside (subst (λ rs. IsInRoots rs path) is inside)))

  moves : (lines : List Text) (result : Result Planned Refusal) (plan : Planned) → Means disk refused words lines result → result ≡ Ok plan
      → ((path : Text) → (IsInRoots plan.roots path → ⊥) → bytes_at other.now path ≡ bytes_at disk.now path) → Means other refused words lines (Ok plan)
  moves lines result plan (not_loaded why s ends) is agree = let clash : Err (of_load why) ≡ Ok plan = is in cc
  moves lines result plan (not_asked w found why ends asked) is agree = let clash : Err (of_request why) ≡ Ok plan = is in cc
  moves lines result plan (not_planned w found worlds why ends equips asked plans) is agree = let clash : Err (of_generation why) ≡ Ok plan = is in cc
  moves lines result plan (planned w found worlds made ends equips asked plans) is agree =
      let one : made ≡ plan = cc in
      let plans' = subst (λ p. Plans (project_of disk worlds (with_tests found)) (request_sets found.registry words) (target_words found.registry words) (Ok p)) one plans in
      made_so w found worlds plan
      (same_bytes worlds.now.roots plan (plan_roots (project_of disk worlds (with_tests found)) (request_sets found.registry words) (target_words found.registry words) plan plans') agree)
      ends equips asked plans'

pub means_by_sources : (disk other : Disk) (refused : Option (ℕ × Text)) (words lines : List Text) (plan : Planned) → IsConsistent disk → IsConsistent other
    → ((path : Text) → (IsInRoots plan.roots path → ⊥) → bytes_at other.now path ≡ bytes_at disk.now path)
    → Means disk refused words lines (Ok plan) → Means other refused words lines (Ok plan)
means_by_sources disk other refused words lines plan consistent also agree means = moves disk other refused words consistent also lines (Ok plan) plan means refl agree
