-- A load and the request after it give what the files and words come to, and keep the files, children and counts.
use Rattle.std.proofs.Common.{◌≡◌, ℕ, is_some, false, Option, Some, None, List, Result, Ok, Err, refl, sym, ap, ◌∙◌, subst}
use Rattle.std.specs.Prelude.{IfOk, IfErr}
use Rattle.std.specs.Option.{IfSome, option_map}
use Rattle.b2_host.specs.Disks.{Disk, IsConsistent}
use Rattle.b2_host.specs.Outside.{Outside}
use Rattle.b2_host.specs.OutsideLaws.{Keeps, keeps_then}
use Rattle.jam_journal.specs.Tables.{Text}
use Rattle.jam_scope.specs.Worlds.{Worlds}
use Rattle.jam_meaning.specs.Refused.{Refuses}
use Rattle.jam_effects.specs.declared.fault.EvalFault.{EvalFault}
use Rattle.b2_request_plan.specs.Plans.{seen}
use Rattle.b2_testing.specs.Adding.{with_tests}
use Rattle.b2_testing.specs.Readying.{IsEquippedFor}
use Rattle.b2_testing.specs.Requested.{requested}
use Rattle.jam_effects.specs.declared.turns.Turns.{Turns}
use Rattle.jam_effects.specs.Machines.{folder_of}
use Rattle.b2_plan.specs.Plans.{Apart}
use Rattle.b2_declared.specs.declared.whole.Declared.{Declared}
use Rattle.b2_project_walk.specs.declared.fault.LoadFault.{LoadFault}
use Rattle.b2_project_walk.specs.declared.fault.LoadFault.TheVariants as loading
use Rattle.b2_project_walk.specs.Faults.{refusal_of as load_refusal, refused_by, IsWhole as IsWholeLoad}
use Rattle.b2_project_walk.specs.Finding.{CountsFault as CountsLoad, Counts as CountsLoaded}
use Rattle.b2_project_walk.specs.Walking.{IsSettingFor}
use Rattle.b2_project_walk.specs.Walks.{Walk, Refusal as LoadRefusal}
use Rattle.b2_project.specs.declared.project.Project.{Project}
use Rattle.b2_project.specs.Loading.{IsRefused, IsLoaded, TellsLoad}
use Rattle.b2_declared.specs.Numbered.{IsNumbered}
use Rattle.b2_project.specs.Loads.{Loads, loaded}
use Rattle.b2_prepare.proofs.LinesBeginTheLoad.{loaded_begins}
use Rattle.b2_request_plan.specs.declared.planned.Planned.{Planned as Made}
use Rattle.b2_generate.specs.Planning.{Planned}
use Rattle.b2_prepare.specs.declared.refusal.PlanStop.{PlanStop}
use Rattle.b2_prepare.specs.declared.refusal.PlanStop.TheVariants as stops
use Rattle.b2_prepare.specs.Meaning.{Refusal, of_load, of_request, of_generation, load_turns, load_setting, project_of, HasLoaded, Means}
use Rattle.b2_prepare.specs.Meaning.{IsRefusedInGeneration, not_loaded, not_asked, not_planned, planned}
use Rattle.b2_prepare.specs.Refusals.{stop_of_load}
use Rattle.b2_prepare.specs.Preparing.{IfRefusal, Tells, call_of, IsPrepared, LinesTold, TestsTold, IsWhole, Counts}
use Rattle.b2_prepare.specs.PlanningParts.{IsReady, IsAsked, IsRefusedFor, AreAsked, GoesOn}
use Rattle.b2_prepare.specs.PlanningParts.AsksLoaded.{asks_after, ran_out}
use Rattle.b2_prepare.proofs.FaultsAreToldAsAnswers.{load_told, tells_map}
use Rattle.b2_prepare.proofs.RefusalsHoldNoHostFault.{load_whole, load_counts}
use Rattle.b2_prepare.proofs.RefusedPatternGivesNoPlan.{counts_then}
use Rattle.b2_prepare.proofs.LoadSettingIsRight.{right}

-- the call of a pattern is what was refused
call_refuses : (before after : ℕ) (pattern : Option Text) → Refuses (call_of after pattern) before after pattern
call_refuses before after None = λ left low high. refl
call_refuses before after (Some text) = refl

module _ (disk : Disk) (words lines : List Text) where
  abbrev Comes : Option Text → Result Planned Refusal → Type 0
  Comes pattern outcome = (left : ℕ) × Means disk (call_of left pattern) words lines outcome

  -- the words over a project that was loaded, in the worlds that its tests need
  comes_of : (w : Walk) (found : Declared) (worlds : Worlds) → Loads (load_setting disk None) load_turns words (loaded w found) → IsEquippedFor found.tests w.state.worlds worlds
      → (outcome : Result Planned Refusal) → IsAsked (project_of disk worlds (with_tests found)) words outcome → Means disk None words w.state.kept.echoes outcome
  comes_of w found worlds loads equips (Ok plan) h = planned w found worlds plan loads equips h.0 h.1
  comes_of w found worlds loads equips (Err (of_load why)) h = absurd h
  comes_of w found worlds loads equips (Err (of_request why)) h = not_asked w found why loads h
  comes_of w found worlds loads equips (Err (of_generation why)) h = not_planned w found worlds why loads equips h.0 h.1

  abbrev Asked : Declared → Worlds → Option Text → Result Planned Refusal → Type 0
  Asked found worlds pattern outcome = (pattern ≡ None) × IsAsked (project_of disk worlds (with_tests found)) words outcome

  prepared_so : (project : Project) (last : ℕ) → IsLoaded (load_setting disk None) words load_turns last lines (Ok project)
      → (later : Worlds) → IsEquippedFor project.declared.tests project.world later → (result : Result Made PlanStop)
      → Tells (IsRefusedFor words (with_tests project.declared) later disk) (Asked project.declared later) result → IsPrepared disk words lines result
  prepared_so project last (w, found, loads, is, echoes, after) later equips result told =
      tells_map (IsRefusedFor words (with_tests project.declared) later disk) (Asked project.declared later) (IsRefusedInGeneration disk words lines) Comes refused follows result told
    where
      equips_so : IsEquippedFor found.tests w.state.worlds later
      equips_so = subst (λ (d : Declared). IsEquippedFor d.tests w.state.worlds later) is.declared (subst (λ (v : Worlds). IsEquippedFor project.declared.tests v later) is.world equips)

      refused : (fault : EvalFault) → IsRefusedFor words (with_tests project.declared) later disk fault → IsRefusedInGeneration disk words lines fault
      refused fault h =
          let is_for = subst (λ (d : Declared). IsRefusedFor words (with_tests d) later disk fault) is.declared h in
          record { walk = w; found = found; worlds = later; loads = loads; equipped = equips_so; asked = is_for.0; refuses = is_for.1; echoes = echoes }

      follows : (pattern : Option Text) (outcome : Result Planned Refusal) → Asked project.declared later pattern outcome → Comes pattern outcome
      follows pattern outcome h = (
        0,
        subst (λ p. Means disk (call_of 0 p) words lines outcome) (sym h.0)
            (subst (λ ls. Means disk None words ls outcome) (sym echoes)
            (comes_of w found later loads equips_so outcome (subst (λ (d : Declared). IsAsked (project_of disk later (with_tests d)) words outcome) is.declared h.1))),
      )

  -- the tests
  tests_so : (project : Project) (last : ℕ) → IsLoaded (load_setting disk None) words load_turns last lines (Ok project) → (result : Result Made PlanStop) (tests : List (List ℕ × ℕ))
      → AreAsked project.declared result tests → TestsTold disk words result tests
  tests_so project last (w, found, loads, is, echoes, after) (Ok made) tests are = record {
    walk = w;
    found = found;
    loads = loads;
    are = subst (λ (d : Declared). tests ≡ requested d (seen made).rows (seen made).steps (seen made).wanted) is.declared are;
  }
  tests_so project last (w, found, loads, is, echoes, after) (Err stop) tests are = are

  -- what is told of a fault that is none of the host
  as_refused : (fault : LoadFault) (last : ℕ) → IsLoaded (load_setting disk (call_of last (refused_by fault))) words load_turns last lines (Err fault)
      → IsRefused (load_setting disk (call_of last (refused_by fault))) words load_turns last lines (load_refusal fault)
  as_refused loading.Host last h = tt
  as_refused fault last h = h

  refused_so : (fault : LoadFault) (last : ℕ) → IsLoaded (load_setting disk (call_of last (refused_by fault))) words load_turns last lines (Err fault)
      → IsPrepared disk words lines (Err (stop_of_load fault))
  refused_so fault last h = load_told (IsRefusedInGeneration disk words lines) Comes fault (go (load_refusal fault) (as_refused fault last h))
    where
      go : (why : Option LoadRefusal) → IsRefused (load_setting disk (call_of last (refused_by fault))) words load_turns last lines why
          → IfRefusal (Unit {0}) (option_map of_load why) (λ f. Comes (refused_by fault) (Err f))
      go None g = tt
      go (Some why) (s, loads, echoes, after) = (last, subst (λ ls. Means disk (call_of last (refused_by fault)) words ls (Err (of_load why))) (sym echoes) (not_loaded why s loads))

  -- ---- the lines

  loaded_so : (project : Project) (last : ℕ) → IsLoaded (load_setting disk None) words load_turns last lines (Ok project) → HasLoaded disk words lines
  loaded_so project last (w, found, loads, is, echoes, after) = record { walk = w; found = found; loads = loads; echoes = echoes }

  all_lines : HasLoaded disk words lines → (result : Result Made PlanStop) → LinesTold disk words lines result
  all_lines has (Ok plan) = tt
  all_lines has (Err (stops.Refused why)) = tt
  all_lines has (Err stops.HostInLoad) = loaded_begins disk words lines has
  all_lines has (Err stops.HostInGeneration) = has
  all_lines has (Err stops.OutOfMemory) = tt

  first_lines : (fault : LoadFault) (last : ℕ) → IsLoaded (load_setting disk (call_of last (refused_by fault))) words load_turns last lines (Err fault)
      → LinesTold disk words lines (Err (stop_of_load fault))
  first_lines loading.Host last h = h
  first_lines loading.OutOfMemory last h = tt
  first_lines loading.NoJamroot last h = tt
  first_lines (loading.NoJamfile dir) last h = tt
  first_lines (loading.TooBig path size) last h = tt
  first_lines (loading.Lex path fault) last h = tt
  first_lines (loading.Syntax path fault) last h = tt
  first_lines (loading.Eval fault) last h = tt
  first_lines (loading.Declaration path rule line) last h = tt
  first_lines (loading.Feature path line fault) last h = tt

-- ---- where the files are visible

setting_for : (outside : Outside) (disk : Disk) → outside.disk ≡ Some disk → IsConsistent disk → (refused : Option (ℕ × Text)) → IsSettingFor (load_setting disk refused) load_turns outside
setting_for outside disk visible consistent refused = record { budget = refl; natives = refl; folder = ap folder_of visible; right = right disk consistent refused }

module _ (words lines : List Text) (from mid to : Outside) (first last : Turns) (left_is : first.left ≡ load_turns) (budget_is : first.budget ≡ load_turns) where
  loads_so : (disk : Disk) → from.disk ≡ Some disk → IsConsistent disk → (project : Project) → TellsLoad from words first last lines (Ok project)
      → IsLoaded (load_setting disk None) words load_turns last.left lines (Ok project)
  loads_so disk visible consistent project told =
      subst (λ n. IsLoaded (load_setting disk None) words n last.left lines (Ok project)) left_is
      (told (load_setting disk None) (subst (λ n. IsSettingFor (load_setting disk None) n from) (sym budget_is) (setting_for from disk visible consistent None)) (λ left low high. refl))

  fails_so : (disk : Disk) → from.disk ≡ Some disk → IsConsistent disk → (fault : LoadFault) → TellsLoad from words first last lines (Err fault)
      → IsLoaded (load_setting disk (call_of last.left (refused_by fault))) words load_turns last.left lines (Err fault)
  fails_so disk visible consistent fault told =
      let call = call_of last.left (refused_by fault) in
      subst (λ n. IsLoaded (load_setting disk call) words n last.left lines (Err fault)) left_is
      (told (load_setting disk call) (subst (λ n. IsSettingFor (load_setting disk call) n from) (sym budget_is) (setting_for from disk visible consistent call)) (call_refuses first.left last.left (refused_by fault)))

  module _ (result : Result Made PlanStop) (tests : List (List ℕ × ℕ)) where
    so : (disk : Disk) → from.disk ≡ Some disk → IsConsistent disk → (ended : Result Project LoadFault) → TellsLoad from words first last lines ended
        → mid.disk ≡ from.disk → GoesOn words ended mid to result tests → IsPrepared disk words lines result
    so disk visible consistent (Ok project) told same (asks_after later equips asks) =
        prepared_so disk words lines project last.left (loads_so disk visible consistent project told) later equips result
        (subst (λ d. IfSome d (λ (e : Disk). Tells (IsRefusedFor words (with_tests project.declared) later e) (Asked e words lines project.declared later) result)) (same ∙ visible) asks.asks.told)
    so disk visible consistent (Ok project) told same (ran_out is still none) = subst (IsPrepared disk words lines) (sym is) tt
    so disk visible consistent (Err fault) told same goes =
        subst (IsPrepared disk words lines) (sym goes.0) (refused_so disk words lines fault last.left (fails_so disk visible consistent fault told))

    pub told_prepared : IfSome from.disk IsConsistent → (ended : Result Project LoadFault) → TellsLoad from words first last lines ended
        → mid.disk ≡ from.disk → GoesOn words ended mid to result tests → IfSome from.disk (λ disk. IsPrepared disk words lines result)
    told_prepared consistent ended told same goes = go from.disk refl consistent
      where
        go : (d : Option Disk) → from.disk ≡ d → IfSome d IsConsistent → IfSome d (λ disk. IsPrepared disk words lines result)
        go None e c = tt
        go (Some disk) e c = so disk e c ended told same goes

    lines_so : (disk : Disk) → from.disk ≡ Some disk → IsConsistent disk → (ended : Result Project LoadFault) → TellsLoad from words first last lines ended
        → GoesOn words ended mid to result tests → LinesTold disk words lines result
    lines_so disk visible consistent (Ok project) told goes =
        all_lines disk words lines (loaded_so disk words lines project last.left (loads_so disk visible consistent project told)) result
    lines_so disk visible consistent (Err fault) told goes =
        subst (LinesTold disk words lines) (sym goes.0) (first_lines disk words lines fault last.left (fails_so disk visible consistent fault told))

    pub lines_prepared : IfSome from.disk IsConsistent → (ended : Result Project LoadFault) → TellsLoad from words first last lines ended
        → GoesOn words ended mid to result tests → IfSome from.disk (λ disk. LinesTold disk words lines result)
    lines_prepared consistent ended told goes = go from.disk refl consistent
      where
        go : (d : Option Disk) → from.disk ≡ d → IfSome d IsConsistent → IfSome d (λ disk. LinesTold disk words lines result)
        go None e c = tt
        go (Some disk) e c = lines_so disk e c ended told goes

    tests_of : (disk : Disk) → from.disk ≡ Some disk → IsConsistent disk → (ended : Result Project LoadFault) → TellsLoad from words first last lines ended
        → GoesOn words ended mid to result tests → TestsTold disk words result tests
    tests_of disk visible consistent (Ok project) told (asks_after later equips asks) =
        tests_so disk words lines project last.left (loads_so disk visible consistent project told) result tests asks.tests_are
    tests_of disk visible consistent (Ok project) told (ran_out is still none) = subst (λ r. TestsTold disk words r tests) (sym is) none
    tests_of disk visible consistent (Err fault) told goes = subst (λ r. TestsTold disk words r tests) (sym goes.0) goes.2

    pub tests_prepared : IfSome from.disk IsConsistent → (ended : Result Project LoadFault) → TellsLoad from words first last lines ended
        → GoesOn words ended mid to result tests → IfSome from.disk (λ disk. TestsTold disk words result tests)
    tests_prepared consistent ended told goes = go from.disk refl consistent
      where
        go : (d : Option Disk) → from.disk ≡ d → IfSome d IsConsistent → IfSome d (λ disk. TestsTold disk words result tests)
        go None e c = tt
        go (Some disk) e c = tests_of disk e c ended told goes

-- ---- over every host

-- what a load promises of its project
pub ready_load : (ended : Result Project LoadFault) → IfOk ended (λ project. IsNumbered project.declared) → IfOk ended (λ project. is_some project.world.now.step ≡ false) → IfOk ended IsReady
ready_load (Ok project) places step = record { places = places; step = step }
ready_load (Err fault) places step = tt

module _ (words : List Text) (mid to : Outside) (result : Result Made PlanStop) (tests : List (List ℕ × ℕ)) where
  pub whole_prepared : (ended : Result Project LoadFault) → IfErr ended IsWholeLoad → GoesOn words ended mid to result tests → IfErr result IsWhole
  whole_prepared (Ok project) whole (asks_after later equips asks) = asks.asks.whole
  whole_prepared (Ok project) whole (ran_out is still none) = subst (λ r. IfErr r IsWhole) (sym is) tt
  whole_prepared (Err fault) whole goes = subst (λ r. IfErr r IsWhole) (sym goes.0) (load_whole fault whole)

  pub apart_prepared : (ended : Result Project LoadFault) → GoesOn words ended mid to result tests → IfOk result (λ p. Apart p.plan.steps p.plan.roots)
  apart_prepared (Ok project) (asks_after later equips asks) = asks.asks.apart
  apart_prepared (Ok project) (ran_out is still none) = subst (λ r. IfOk r (λ p. Apart p.plan.steps p.plan.roots)) (sym is) tt
  apart_prepared (Err fault) goes = subst (λ r. IfOk r (λ p. Apart p.plan.steps p.plan.roots)) (sym goes.0) tt

  pub disk_prepared : (ended : Result Project LoadFault) → GoesOn words ended mid to result tests → to.disk ≡ mid.disk
  disk_prepared (Ok project) (asks_after later equips asks) = asks.asks.disk
  disk_prepared (Ok project) (ran_out is still none) = ap (λ (o : Outside). o.disk) still
  disk_prepared (Err fault) goes = ap (λ (o : Outside). o.disk) goes.1

  pub children_prepared : (ended : Result Project LoadFault) → GoesOn words ended mid to result tests → to.children ≡ mid.children
  children_prepared (Ok project) (asks_after later equips asks) = asks.asks.children
  children_prepared (Ok project) (ran_out is still none) = ap (λ (o : Outside). o.children) still
  children_prepared (Err fault) goes = ap (λ (o : Outside). o.children) goes.1

  pub counts_prepared : (from : Outside) (ended : Result Project LoadFault) → CountsLoaded ended from mid → GoesOn words ended mid to result tests → Counts result from to
  counts_prepared from (Ok project) counts (asks_after later equips asks) = counts_then from mid to counts result asks.asks.counts
  counts_prepared from (Ok project) counts (ran_out is still none) = subst (λ r. Counts r from to) (sym is) tt
  counts_prepared from (Err fault) counts goes =
      subst (λ r. Counts r from to) (sym goes.0) (load_counts fault from to (subst (CountsLoad fault from) (sym goes.1) counts))

  pub keeps_prepared : (from : Outside) → Keeps from mid → (ended : Result Project LoadFault) → GoesOn words ended mid to result tests → Keeps from to
  keeps_prepared from keeps (Ok project) (asks_after later equips asks) = keeps_then from mid to keeps asks.asks.keeps
  keeps_prepared from keeps (Ok project) (ran_out is still none) = subst (Keeps from) (sym still) keeps
  keeps_prepared from keeps (Err fault) goes = subst (Keeps from) (sym goes.1) keeps
