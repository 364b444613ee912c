-- Whether a file was loaded and its targets planned or not, the answer is what the file and the words come to.
use Rattle.std.proofs.Common.{◌≡◌, ℕ, Bool, List, [], ◌∷◌, Option, Some, None, IfSome, Result, Ok, Err, IfOk, IfErr, refl, sym, ap, ◌∙◌, subst, append-nil}
use Rattle.b2_base.specs.Counts.{Rose}
use Rattle.b2_base.specs.Results.{and_then}
use Rattle.b2_base.specs.declared.expand_fault.ExpandFault.{ExpandFault}
use Rattle.b2_host.specs.Disks.{Disk, IsConsistent}
use Rattle.b2_host.specs.Outside.{Outside}
use Rattle.b2_host.specs.OutsideLaws.{Keeps, keeps_same, keeps_then}
use Rattle.b2_plan.specs.Plans.{Apart}
use Rattle.b2_plan.specs.declared.plan.Plan.{Plan}
use Rattle.b2_plan.specs.declared.step.Step.{Step}
use Rattle.jam_journal.specs.Tables.{Text}
use Rattle.jam_meaning.specs.Faults.{Fault, expand, refused_in as cause_refused}
use Rattle.jam_meaning.specs.Refused.{Refuses}
use Rattle.jam_meaning.specs.Settings.{IsSetting}
use Rattle.jam_effects.specs.Causes.{cause_of}
use Rattle.jam_effects.specs.Machines.{folder_of}
use Rattle.jam_effects.specs.declared.fault.EvalFault.TheVariants as evaluating
use Rattle.jam_effects.specs.declared.turns.Turns.{Turns}
use Rattle.b2_own_text.proofs.EvaluationsGiveWhatIsTold.{right as rightly_seen}
use Rattle.jam_graph.specs.declared.fault.JamFault.{JamFault}
use Rattle.jam_graph.specs.declared.fault.JamFault.TheVariants as jam
use Rattle.jam_graph.specs.declared.graph.Act.{Act}
use Rattle.jam_graph.specs.declared.graph.Graph.{Graph}
use Rattle.jam_graph.specs.Loads.{Refusal, eval, Ending, loads}
use Rattle.jam_graph.specs.Loading.{IsSettingFor, IsWhole, Counts, IsRefused, IsEnding, TellsGraph, refused_in, refused_of, refusal_of}
use Rattle.jam_engine.specs.Planning.{target_of, IsRefusedTo}
use Rattle.jam_engine.specs.Plans.{requested, Target, PlansTo, Joins}
use Rattle.jam_engine.specs.Plans.PlansTo.{is_unknown, is_refused, is_planned}
use Rattle.jam_engine.specs.Plans.Joins.{all, stops, goes_on}
use Rattle.jam_engine.specs.Steps.{or_refused, text_of, texts_of, Refuses as RefusesSet}
use Rattle.jam_engine.specs.Steps.Refuses.{is_full, is_mixed, no_text, lies_outside, clashes}
use Rattle.jam_engine.specs.Tables.{Sees}
use Rattle.jam_prepare.specs.Meaning.{jam_turns, jam_setting, loaded, stands_on, PlansIn, Means}
use Rattle.jam_prepare.specs.Parts.{PlansOver, GoesOn}
use Rattle.jam_prepare.specs.Preparing.{call_of, IsRefusedFor, IsPrepared, LinesTold}

-- ---- no plan is refused for a pattern, since bodies match none

-- the refusal is no pattern that was refused
abbrev IsNoPattern : Refusal → Type 0
IsNoPattern why = (f : Fault) → why ≡ eval f → cause_refused f.cause ≡ None

module _ (g : Graph) (stands : Text → Bool) where
  no_expansion : (a : Act) (made : Result Text ExpandFault) (why : Refusal) → or_refused g stands a made ≡ Err why → IsNoPattern why
  no_expansion a (Ok text) why is f same = absurd cc
  no_expansion a (Err fault) why is f same =
      let told : Fault = record { spot = record { path = g.path; line = a.line }; cause = expand fault } in
      let e : eval told ≡ eval f = cc in
      let both : told ≡ f = cc in
      subst (λ (x : Fault). cause_refused x.cause ≡ None) both refl

  texts_match_none : (set : List Act) (why : Refusal) → texts_of g stands set ≡ Err why → IsNoPattern why
  texts_match_none [] why is = absurd cc
  texts_match_none (a ∷ more) why is = by_first (texts_match_none more) (or_refused g stands a (text_of g stands a)) (no_expansion a (text_of g stands a)) is
    where
      by_rest : (text : Text) (texts : Result (List Text) Refusal) → ((other : Refusal) → texts ≡ Err other → IsNoPattern other)
          → and_then (λ texts. Ok (text ∷ texts)) texts ≡ Err why → IsNoPattern why
      by_rest text (Ok texts) h e = absurd cc
      by_rest text (Err other) h e = h why e

      by_first : ((other : Refusal) → texts_of g stands more ≡ Err other → IsNoPattern other) → (made : Result Text Refusal) → ((other : Refusal) → made ≡ Err other → IsNoPattern other)
          → and_then (λ text. and_then (λ texts. Ok (text ∷ texts)) (texts_of g stands more)) made ≡ Err why → IsNoPattern why
      by_first rest (Ok text) h e = by_rest text (texts_of g stands more) rest e
      by_first rest (Err other) h e = let same : other ≡ why = cc in subst IsNoPattern same (h other refl)

  set_matches_none : (steps : List Step) (set : List Act) (why : Refusal) → RefusesSet g stands steps set why → IsNoPattern why
  set_matches_none steps set _ (is_full many) = λ f is. absurd cc
  set_matches_none steps set _ (is_mixed target few mixed) = λ f is. absurd cc
  set_matches_none steps set why (no_text _ few pure texts) = texts_match_none set why texts
  set_matches_none steps set _ (lies_outside texts path few pure texted outside) = λ f is. absurd cc
  set_matches_none steps set _ (clashes step path few pure is inside clash) = λ f is. absurd cc

  sets_match_none : (steps : List Step) (sets : List (List Act)) (last : Result (List Step) Refusal) → Joins g stands steps sets last → (why : Refusal) → last ≡ Err why → IsNoPattern why
  sets_match_none steps _ _ all why e = absurd cc
  sets_match_none steps (set ∷ more) _ (stops other refused) why e = let same : other ≡ why = cc in subst IsNoPattern same (set_matches_none steps set other refused)
  sets_match_none steps (set ∷ more) last (goes_on step accepts rest) why e = sets_match_none _ more last rest why e

  plan_matches_none : (targets : List Text) (last : Result Target Refusal) → PlansTo g stands targets last → (why : Refusal) → last ≡ Err why → IsNoPattern why
  plan_matches_none targets _ (is_unknown target unknown) why e = λ f is. absurd cc
  plan_matches_none targets _ (is_refused other known steps) why e = let same : other ≡ why = cc in subst IsNoPattern same (sets_match_none [] _ _ steps.joins other refl)
  plan_matches_none targets _ (is_planned steps found known made spreads) why e = absurd cc

no_pattern : (fault : JamFault) (why : Refusal) → refusal_of fault ≡ Some why → IsNoPattern why → refused_in fault ≡ None
no_pattern (jam.Eval evaluating.Host) why is h = refl
no_pattern (jam.Eval evaluating.OutOfMemory) why is h = refl
no_pattern (jam.Eval (evaluating.At path line cause)) why is h =
    let told : Fault = record { spot = record { path = path; line = line }; cause = cause_of cause } in
    let same : why ≡ eval told = cc in
    h told same
no_pattern (jam.NoFile path) why is h = refl
no_pattern (jam.TooBig path size) why is h = refl
no_pattern (jam.Lex path fault) why is h = refl
no_pattern (jam.Syntax path fault) why is h = refl
no_pattern (jam.NoTarget name) why is h = refl
no_pattern (jam.MixedNotFile target) why is h = refl
no_pattern (jam.PathClash path) why is h = refl
no_pattern (jam.LocationOutside path) why is h = refl
no_pattern (jam.TooManySteps count) why is h = refl
no_pattern jam.Host why is h = refl
no_pattern jam.OutOfMemory why is h = refl

-- ---- where the files are visible

-- the call of a pattern is what was refused
call_refuses : (before after : ℕ) (pattern : Option Text) → Refuses (call_of after pattern) before after pattern
call_refuses before after None = λ left low high. refl
call_refuses before after (Some text) = refl

right : (disk : Disk) → IsConsistent disk → (refused : Option (ℕ × Text)) → IsSetting (jam_setting disk refused)
right disk consistent refused = record { sees = (rightly_seen disk consistent).sees; reads = (rightly_seen disk consistent).reads }

setting_for : (outside : Outside) (disk : Disk) → outside.disk ≡ Some disk → IsConsistent disk → (refused : Option (ℕ × Text)) → IsSettingFor (jam_setting disk refused) jam_turns outside
setting_for outside disk visible consistent refused = record { budget = refl; natives = refl; folder = ap folder_of visible; right = right disk consistent refused }

module _ (file : Text) (words lines : List Text) (from mid to : Outside) (first last : Turns) (left_is : first.left ≡ jam_turns) (budget_is : first.budget ≡ jam_turns) where
  -- how the load ended
  ended : (disk : Disk) → from.disk ≡ Some disk → IsConsistent disk → (result : Result Graph JamFault) → TellsGraph from file first last lines result
      → IsEnding (loaded disk (call_of last.left (refused_of result)) file) lines result
  ended disk visible consistent result told =
      let call = call_of last.left (refused_of result) in
      subst (λ n. IsEnding (loads (jam_setting disk call) file n) lines result) left_is
      (told (jam_setting disk call) (subst (λ n. IsSettingFor (jam_setting disk call) n from) (sym budget_is) (setting_for from disk visible consistent call)) (call_refuses first.left last.left (refused_of result)))

  -- what follows the load of a graph
  after_graph : (disk : Disk) (graph : Graph) (result : Result Target Refusal) → loaded disk None file ≡ record { echoes = lines; result = Ok graph }
      → PlansTo graph (stands_on disk) (requested words) result → Means disk None file words lines result
  after_graph disk graph result is plans = record {
    lines_are = sym (ap (λ (e : Ending). e.echoes) is);
    plans = subst (λ r. PlansIn disk words r result) (sym (ap (λ (e : Ending). e.result) is)) plans;
  }

  planned_so : (disk : Disk) → mid.disk ≡ Some disk → (graph : Graph) → loaded disk None file ≡ record { echoes = lines; result = Ok graph } → (result : Result Plan JamFault)
      → PlansOver graph words mid to result → IsPrepared disk file words lines result
  planned_so disk visible graph is (Ok plan) p =
      after_graph disk graph (Ok (target_of plan)) is (p.planned (stands_on disk) (subst (λ d. Sees d (stands_on disk)) (sym visible) (λ path. refl)))
  planned_so disk visible graph is (Err fault) p = go (refusal_of fault) refl (p.planned (stands_on disk) (subst (λ d. Sees d (stands_on disk)) (sym visible) (λ path. refl)))
    where
      go : (why : Option Refusal) → refusal_of fault ≡ why → IsRefusedTo graph (stands_on disk) (requested words) why → IsRefusedFor disk file words lines (refused_in fault) why
      go None e told = tt
      go (Some why) e told =
          let none = no_pattern fault why e (plan_matches_none graph (stands_on disk) (requested words) (Err why) told why refl) in
          subst (λ o. IsRefusedFor disk file words lines o (Some why)) (sym none) (0, after_graph disk graph (Err why) is told)

  of_refusal : (disk : Disk) (fault : JamFault) (why : Option Refusal) → IsRefused (loaded disk (call_of last.left (refused_in fault)) file) lines why
      → IsRefusedFor disk file words lines (refused_in fault) why
  of_refusal disk fault None h = tt
  of_refusal disk fault (Some why) h = (
    last.left,
    record {
      lines_are = sym (ap (λ (e : Ending). e.echoes) h);
      plans = subst (λ r. PlansIn disk words r (Err why)) (sym (ap (λ (e : Ending). e.result) h)) refl;
    },
  )

  refused_so : (disk : Disk) (fault : JamFault) → IsEnding (loaded disk (call_of last.left (refused_in fault)) file) lines (Err fault) → IsPrepared disk file words lines (Err fault)
  refused_so disk jam.Host h = tt
  refused_so disk jam.OutOfMemory h = tt
  refused_so disk (jam.NoFile path) h = of_refusal disk (jam.NoFile path) (refusal_of (jam.NoFile path)) h
  refused_so disk (jam.TooBig path size) h = of_refusal disk (jam.TooBig path size) (refusal_of (jam.TooBig path size)) h
  refused_so disk (jam.Lex path fault) h = of_refusal disk (jam.Lex path fault) (refusal_of (jam.Lex path fault)) h
  refused_so disk (jam.Syntax path fault) h = of_refusal disk (jam.Syntax path fault) (refusal_of (jam.Syntax path fault)) h
  refused_so disk (jam.Eval fault) h = of_refusal disk (jam.Eval fault) (refusal_of (jam.Eval fault)) h
  refused_so disk (jam.NoTarget name) h = of_refusal disk (jam.NoTarget name) (refusal_of (jam.NoTarget name)) h
  refused_so disk (jam.MixedNotFile target) h = of_refusal disk (jam.MixedNotFile target) (refusal_of (jam.MixedNotFile target)) h
  refused_so disk (jam.PathClash path) h = of_refusal disk (jam.PathClash path) (refusal_of (jam.PathClash path)) h
  refused_so disk (jam.LocationOutside path) h = of_refusal disk (jam.LocationOutside path) (refusal_of (jam.LocationOutside path)) h
  refused_so disk (jam.TooManySteps count) h = of_refusal disk (jam.TooManySteps count) (refusal_of (jam.TooManySteps count)) h

  so : (disk : Disk) → from.disk ≡ Some disk → IsConsistent disk → (result : Result Graph JamFault) → TellsGraph from file first last lines result
      → mid.disk ≡ from.disk → (planned : Result Plan JamFault) → GoesOn words result mid to planned → IsPrepared disk file words lines planned
  so disk visible consistent (Ok graph) told same planned p = planned_so disk (same ∙ visible) graph (ended disk visible consistent (Ok graph) told) planned p
  so disk visible consistent (Err fault) told same planned p =
      subst (IsPrepared disk file words lines) (sym p.0) (refused_so disk fault (ended disk visible consistent (Err fault) told))

  -- where the host failed in the plan, all lines are there
  lines_so : (disk : Disk) → from.disk ≡ Some disk → IsConsistent disk → (result : Result Graph JamFault) → TellsGraph from file first last lines result
      → (planned : Result Plan JamFault) → GoesOn words result mid to planned → LinesTold disk file lines planned
  lines_so disk visible consistent (Ok graph) told planned p = go planned
    where
      go : (planned : Result Plan JamFault) → LinesTold disk file lines planned
      go (Ok plan) = tt
      go (Err jam.Host) = ([], ap (λ (e : Ending). e.echoes) (ended disk visible consistent (Ok graph) told) ∙ sym (append-nil lines))
      go (Err jam.OutOfMemory) = tt
      go (Err (jam.NoFile path)) = tt
      go (Err (jam.TooBig path size)) = tt
      go (Err (jam.Lex path fault)) = tt
      go (Err (jam.Syntax path fault)) = tt
      go (Err (jam.Eval fault)) = tt
      go (Err (jam.NoTarget name)) = tt
      go (Err (jam.MixedNotFile target)) = tt
      go (Err (jam.PathClash path)) = tt
      go (Err (jam.LocationOutside path)) = tt
      go (Err (jam.TooManySteps count)) = tt
  lines_so disk visible consistent (Err fault) told planned p = subst (LinesTold disk file lines) (sym p.0) (go fault (ended disk visible consistent (Err fault) told))
    where
      go : (fault : JamFault) → IsEnding (loaded disk (call_of last.left (refused_in fault)) file) lines (Err fault) → LinesTold disk file lines (Err fault)
      go jam.Host h = h
      go jam.OutOfMemory h = tt
      go (jam.NoFile path) h = tt
      go (jam.TooBig path size) h = tt
      go (jam.Lex path fault) h = tt
      go (jam.Syntax path fault) h = tt
      go (jam.Eval fault) h = tt
      go (jam.NoTarget name) h = tt
      go (jam.MixedNotFile target) h = tt
      go (jam.PathClash path) h = tt
      go (jam.LocationOutside path) h = tt
      go (jam.TooManySteps count) h = tt

  visible_so : (Holds : Disk → Type 0) → IfSome from.disk IsConsistent → ((disk : Disk) → from.disk ≡ Some disk → IsConsistent disk → Holds disk) → IfSome from.disk Holds
  visible_so Holds consistent f = go from.disk refl consistent
    where
      go : (d : Option Disk) → from.disk ≡ d → IfSome d IsConsistent → IfSome d Holds
      go None e c = tt
      go (Some disk) e c = f disk e c

  module _ (consistent : IfSome from.disk IsConsistent) (result : Result Graph JamFault) (told : TellsGraph from file first last lines result)
      (planned : Result Plan JamFault) (p : GoesOn words result mid to planned) where
    pub told_prepared : mid.disk ≡ from.disk → IfSome from.disk (λ disk. IsPrepared disk file words lines planned)
    told_prepared same = visible_so (λ disk. IsPrepared disk file words lines planned) consistent (λ disk visible c. so disk visible c result told same planned p)

    pub lines_prepared : IfSome from.disk (λ disk. LinesTold disk file lines planned)
    lines_prepared = visible_so (λ disk. LinesTold disk file lines planned) consistent (λ disk visible c. lines_so disk visible c result told planned p)

-- ---- over every host

module _ (words : List Text) (from mid to : Outside) where
  pub apart_prepared : (result : Result Graph JamFault) (planned : Result Plan JamFault) → GoesOn words result mid to planned → IfOk planned (λ plan. Apart plan.steps plan.roots)
  apart_prepared (Ok graph) planned p = p.apart
  apart_prepared (Err fault) planned p = subst (λ r. IfOk r (λ (plan : Plan). Apart plan.steps plan.roots)) (sym p.0) tt

  pub whole_prepared : (result : Result Graph JamFault) (planned : Result Plan JamFault) → GoesOn words result mid to planned → IfErr result IsWhole → IfErr planned IsWhole
  whole_prepared (Ok graph) planned p h = p.whole
  whole_prepared (Err fault) planned p h = subst (λ r. IfErr r IsWhole) (sym p.0) h

  pub disk_prepared : (result : Result Graph JamFault) (planned : Result Plan JamFault) → GoesOn words result mid to planned → to.disk ≡ mid.disk
  disk_prepared (Ok graph) planned p = p.disk
  disk_prepared (Err fault) planned p = ap (λ (o : Outside). o.disk) p.1

  pub children_prepared : (result : Result Graph JamFault) (planned : Result Plan JamFault) → GoesOn words result mid to planned → to.children ≡ mid.children
  children_prepared (Ok graph) planned p = p.children
  children_prepared (Err fault) planned p = ap (λ (o : Outside). o.children) p.1

  pub keeps_prepared : Keeps from mid → (result : Result Graph JamFault) (planned : Result Plan JamFault) → GoesOn words result mid to planned → Keeps from to
  keeps_prepared k (Ok graph) planned p = keeps_then from mid to k p.keeps
  keeps_prepared k (Err fault) planned p = keeps_then from mid to k (keeps_same mid to p.1)

  counts_from : (planned : Result Plan JamFault) → mid.faults ≡ from.faults → Counts planned mid to → Counts planned from to
  counts_from (Ok plan) e c = c ∙ e
  counts_from (Err jam.Host) e c = subst (λ n. Rose n to.faults) e c
  counts_from (Err jam.OutOfMemory) e c = tt
  counts_from (Err (jam.NoFile path)) e c = c ∙ e
  counts_from (Err (jam.TooBig path size)) e c = c ∙ e
  counts_from (Err (jam.Lex path fault)) e c = c ∙ e
  counts_from (Err (jam.Syntax path fault)) e c = c ∙ e
  counts_from (Err (jam.Eval fault)) e c = c ∙ e
  counts_from (Err (jam.NoTarget name)) e c = c ∙ e
  counts_from (Err (jam.MixedNotFile target)) e c = c ∙ e
  counts_from (Err (jam.PathClash path)) e c = c ∙ e
  counts_from (Err (jam.LocationOutside path)) e c = c ∙ e
  counts_from (Err (jam.TooManySteps count)) e c = c ∙ e

  pub counts_prepared : (result : Result Graph JamFault) (planned : Result Plan JamFault) → Counts result from mid → GoesOn words result mid to planned → Counts planned from to
  counts_prepared (Ok graph) planned h p = counts_from planned h p.counts
  counts_prepared (Err fault) planned h p = subst (λ r. Counts r from to) (sym p.0) (subst (λ (o : Outside). Counts {A = Plan} (Err fault) from o) (sym p.1) h)
