-- The step of a set joins others, or is refused: the first cause that holds.
use Rattle.std.proofs.Common.{◌≡◌, ◌≢◌, ℕ, suc, ◌<◌, ◌≤◌, Bool, true, false, cond, not, ◌&&◌, ◌||◌, List, [], ◌∷◌, ◌++◌, length, Option, Some, None, Result, Ok, Err, refl, sym, ap, ap₂, ◌∙◌, subst, arith}
use Rattle.std.specs.List.{Contains, find, list_all, list_any, flat_map}
use Rattle.std.proofs.lemmas.Bool.{true≢false}
use Rattle.b2_plan.specs.declared.step.Step.{Step}
use Rattle.b2_virtual.specs.Clashes.{Fits, shared}
use Rattle.b2_virtual.specs.Joining.{stands_in, number_in, joined, is_same}
use Rattle.b2_virtual.proofs.JoinedStepsKeepTheirNumbers.{found, absent}
use Rattle.jam_journal.specs.Tables.{Text}
use Rattle.jam_journal.specs.Scopes.{Value}
use Rattle.jam_natives.specs.Texts.{without_repeats}
use Rattle.jam_graph.specs.declared.fault.JamFault.{JamFault}
use Rattle.jam_graph.specs.declared.fault.JamFault.TheVariants as faults
use Rattle.jam_graph.specs.declared.graph.Act.{Act}
use Rattle.jam_graph.specs.declared.graph.Graph.{Graph}
use Rattle.jam_graph.specs.Loads.{Refusal}
use Rattle.jam_graph.specs.Loading.{refusal_of}
use Rattle.jam_engine.specs.declared.scene.Scene.{Scene}
use Rattle.jam_engine.specs.Plans.{Joins, all, stops, goes_on}
use Rattle.jam_engine.specs.Spreads.{Spreads}
use Rattle.jam_engine.specs.Steps.{most_steps, places, targets_of, outs_of, first_mixed, texts_of, whole_text, dirs_by, is_mixed, no_text, lies_outside, clashes}
use Rattle.jam_engine.specs.Stepping.{first_mixed_in, IsMixedBy, header_dirs_of, IsMadeStep, IsRefusedFor, IsStepFor, JoinsOne, IsRefusedBehind, IsJoined, JoinsBy, IsStopped, AreStepsFor, AreSteps}
use Rattle.jam_engine.specs.Tables.{is_in, IsScene}
use Rattle.jam_engine.specs.Targets.{is_notfile, is_always, is_in_roots, is_below_roots, depends_of}
use Rattle.jam_engine.specs.Texting.{IsAnswerOf, IsRefusedAs}

-- ---- one step beside others

-- the number of a step that stands is no later than the last
number_low : (steps : List Step) (step : Step) → stands_in steps step ≡ true → number_in steps step ≤ length steps
number_low [] step e = absurd (true≢false (sym e))
number_low (first ∷ more) step e = go (is_same step first) refl (λ h. number_low more step h)
  where
    go : (b : Bool) → is_same step first ≡ b → (stands_in more step ≡ true → number_in more step ≤ length more) → cond (is_same step first) 1 (suc (number_in more step)) ≤ suc (length more)
    go true same rest = rw same (omega arith)
    go false other rest =
        let stands : stands_in more step ≡ true = sym (ap (λ b. b || stands_in more step) other) ∙ e in
        let low = rest stands in rw other (omega (arith, low))

by_number : (steps : List Step) (step : Step) (number : ℕ) → number ≡ number_in steps step → length steps < number → stands_in steps step ≡ false
by_number steps step number is later = go (stands_in steps step) refl
  where
    go : (b : Bool) → stands_in steps step ≡ b → stands_in steps step ≡ false
    go true e = let low = number_low steps step e in absurd (omega (arith, is, later, low))
    go false e = e

pub joins_new : (steps after : List Step) (step : Step) (number : ℕ) → number ≡ number_in steps step → length steps < number → after ≡ joined steps step → (stands_in steps step ≡ false → Fits steps step) → JoinsOne steps step after (Ok tt)
joins_new steps after step number is later joins fits =
    let new = by_number steps step number is later in
    (joins ∙ ap (λ b. cond b steps (steps ++ step ∷ [])) new, fits new)

-- an equal step stands already: its first output clashes
pub joins_old : (steps after : List Step) (step : Step) (number : ℕ) (first : Text) (more : List Text) → number ≡ number_in steps step → number ≤ length steps → step.outs ≡ first ∷ more → JoinsOne steps step after (Err (faults.PathClash first))
joins_old steps after step number first more is low outs = record {
  before = [];
  after = more;
  outs_are = outs;
  clashes = shared (number_in steps step) step (record { at = found steps step stands; among = subst (λ (l : List Text). Contains l first) (sym outs) (0, omega arith, refl) });
  none_before = tt;
}
  where
    stands : stands_in steps step ≡ true
    stands = go (stands_in steps step) refl
      where
        go : (b : Bool) → stands_in steps step ≡ b → stands_in steps step ≡ true
        go true e = e
        go false e = let next = absent steps step e in absurd (omega (arith, is, low, next))

-- ---- the step of a set

module _ (g : Graph) (stands : Text → Bool) (steps after : List Step) (set : List Act) (few : length steps ≢ most_steps) where
  refused_or_not : (o : Option Refusal) → IsRefusedFor g stands set o → IsRefusedBehind g stands steps set o
  refused_or_not None h = tt
  refused_or_not (Some why) h = h steps few

  -- a set that has no step has none behind these
  pub not_joined : (fault : JamFault) → IsStepFor g stands set (Err fault) → IsJoined g stands steps set after (Err fault)
  not_joined (faults.NoFile path) h = refused_or_not (refusal_of (faults.NoFile path)) h
  not_joined (faults.TooBig path size) h = refused_or_not (refusal_of (faults.TooBig path size)) h
  not_joined (faults.Lex path fault) h = refused_or_not (refusal_of (faults.Lex path fault)) h
  not_joined (faults.Syntax path fault) h = refused_or_not (refusal_of (faults.Syntax path fault)) h
  not_joined (faults.Eval fault) h = refused_or_not (refusal_of (faults.Eval fault)) h
  not_joined (faults.NoTarget name) h = refused_or_not (refusal_of (faults.NoTarget name)) h
  not_joined (faults.MixedNotFile target) h = refused_or_not (refusal_of (faults.MixedNotFile target)) h
  not_joined (faults.PathClash path) h = refused_or_not (refusal_of (faults.PathClash path)) h
  not_joined (faults.LocationOutside path) h = refused_or_not (refusal_of (faults.LocationOutside path)) h
  not_joined (faults.TooManySteps count) h = refused_or_not (refusal_of (faults.TooManySteps count)) h
  not_joined faults.Host h = absurd h
  not_joined faults.OutOfMemory h = tt

  -- a step joins the others, or clashes
  pub one_joined : (step : Step) (result : Result (Unit {0}) JamFault) → IsStepFor g stands set (Ok step) → JoinsOne steps step after result → IsJoined g stands steps set after result
  one_joined step (Ok u) (is, pure, inside) (adds, fits) = (step, record { few = few; pure = pure; is = is; inside = inside; fits = fits }, adds)
  one_joined step (Err (faults.PathClash path)) (is, pure, inside) h = clashes step path few pure is inside h
  one_joined step (Err faults.OutOfMemory) s h = tt
  one_joined step (Err (faults.NoFile path)) s h = absurd h
  one_joined step (Err (faults.TooBig path size)) s h = absurd h
  one_joined step (Err (faults.Lex path fault)) s h = absurd h
  one_joined step (Err (faults.Syntax path fault)) s h = absurd h
  one_joined step (Err (faults.Eval fault)) s h = absurd h
  one_joined step (Err (faults.NoTarget name)) s h = absurd h
  one_joined step (Err (faults.MixedNotFile target)) s h = absurd h
  one_joined step (Err (faults.LocationOutside path)) s h = absurd h
  one_joined step (Err (faults.TooManySteps count)) s h = absurd h
  one_joined step (Err faults.Host) s h = absurd h

-- ---- the steps of several sets

pub joins_then : (g : Graph) (stands : Text → Bool) (start steps : List Step) (xs ys : List (List Act)) (last : Result (List Step) Refusal) → Joins g stands start xs (Ok steps) → Joins g stands steps ys last → Joins g stands start (xs ++ ys) last
joins_then g stands start _ [] ys last all h = h
joins_then g stands start steps (set ∷ xs) ys last (goes_on step accepts more) h = goes_on step accepts (joins_then g stands (start ++ step ∷ []) steps xs ys last more h)

pub none_joined : (g : Graph) (scene : Scene) → AreSteps g scene [] (Ok [])
none_joined g scene stands h = all

pub step_more : (g : Graph) (scene : Scene) (sets : List (List Act)) (set : List Act) (steps after : List Step) → AreSteps g scene sets (Ok steps) → JoinsBy g scene steps set after (Ok tt) → AreSteps g scene (sets ++ set ∷ []) (Ok after)
step_more g scene sets set steps after h one stands scene_is =
    let (step, accepts, adds) = one stands scene_is in
    joins_then g stands [] steps sets (set ∷ []) (Ok after) (h stands scene_is) (goes_on step accepts (subst (λ (l : List Step). Joins g stands (steps ++ step ∷ []) [] (Ok l)) (sym adds) all))

module _ (g : Graph) (stands : Text → Bool) (sets more : List (List Act)) (set : List Act) (steps : List Step) (before : Joins g stands [] sets (Ok steps)) where
  stops_or_not : (o : Option Refusal) → IsRefusedBehind g stands steps set o → IsStopped g stands (sets ++ set ∷ more) o
  stops_or_not None h = tt
  stops_or_not (Some why) h = joins_then g stands [] steps sets (set ∷ more) (Err why) before (stops why h)

  pub set_stops : (after : List Step) (fault : JamFault) → IsJoined g stands steps set after (Err fault) → AreStepsFor g stands (sets ++ set ∷ more) (Err fault)
  set_stops after (faults.NoFile path) h = stops_or_not (refusal_of (faults.NoFile path)) h
  set_stops after (faults.TooBig path size) h = stops_or_not (refusal_of (faults.TooBig path size)) h
  set_stops after (faults.Lex path fault) h = stops_or_not (refusal_of (faults.Lex path fault)) h
  set_stops after (faults.Syntax path fault) h = stops_or_not (refusal_of (faults.Syntax path fault)) h
  set_stops after (faults.Eval fault) h = stops_or_not (refusal_of (faults.Eval fault)) h
  set_stops after (faults.NoTarget name) h = stops_or_not (refusal_of (faults.NoTarget name)) h
  set_stops after (faults.MixedNotFile target) h = stops_or_not (refusal_of (faults.MixedNotFile target)) h
  set_stops after (faults.PathClash path) h = stops_or_not (refusal_of (faults.PathClash path)) h
  set_stops after (faults.LocationOutside path) h = stops_or_not (refusal_of (faults.LocationOutside path)) h
  set_stops after (faults.TooManySteps count) h = stops_or_not (refusal_of (faults.TooManySteps count)) h
  set_stops after faults.Host h = absurd h
  set_stops after faults.OutOfMemory h = tt

-- ---- targets that are no files

pub all_no_files : (scene : Scene) (targets : Value) → list_all (is_in scene.index.notfile) targets ≡ true → first_mixed_in scene targets ≡ None
all_no_files scene targets e = ap (λ b. let o : Option Text = cond b None (find (is_in scene.index.notfile) targets) in o) e

pub found_mixed : (scene : Scene) (targets : Value) → list_all (is_in scene.index.notfile) targets ≡ false → first_mixed_in scene targets ≡ find (is_in scene.index.notfile) targets
found_mixed scene targets e = ap (λ b. let o : Option Text = cond b None (find (is_in scene.index.notfile) targets) in o) e

-- ---- how a step is made

module _ (g : Graph) (scene : Scene) (stands : Text → Bool) (set : List Act) (targets : Value) (targets_are : targets ≡ targets_of g stands set) (h : IsScene g stands scene) where
  -- the flags of targets are those of the graph
  notfile_same : is_in scene.index.notfile ≡ is_notfile g
  notfile_same = λ i t. h.index.notfile t i

  always_same : is_in scene.index.always ≡ is_always g
  always_same = λ i t. h.index.always t i

  mixed_same : first_mixed_in scene targets ≡ first_mixed g stands set
  mixed_same = ap₂ (λ (p : Text → Bool) (l : Value). let o : Option Text = cond (list_all p l) None (find p l) in o) notfile_same targets_are

  pub none_mixed : first_mixed_in scene targets ≡ None → first_mixed g stands set ≡ None
  none_mixed e = sym mixed_same ∙ e

  pub mixed_stops : (fault : JamFault) → IsMixedBy scene targets (Err fault) → IsStepFor g stands set (Err fault)
  mixed_stops (faults.MixedNotFile target) e = λ steps few. is_mixed target few (sym mixed_same ∙ e)
  mixed_stops faults.OutOfMemory m = tt
  mixed_stops (faults.NoFile path) m = absurd m
  mixed_stops (faults.TooBig path size) m = absurd m
  mixed_stops (faults.Lex path fault) m = absurd m
  mixed_stops (faults.Syntax path fault) m = absurd m
  mixed_stops (faults.Eval fault) m = absurd m
  mixed_stops (faults.NoTarget name) m = absurd m
  mixed_stops (faults.PathClash path) m = absurd m
  mixed_stops (faults.LocationOutside path) m = absurd m
  mixed_stops (faults.TooManySteps count) m = absurd m
  mixed_stops faults.Host m = absurd m

  module _ (pure : first_mixed g stands set ≡ None) where
    text_or_not : (o : Option Refusal) → IsRefusedAs o (texts_of g stands set) → IsRefusedFor g stands set o
    text_or_not None e = tt
    text_or_not (Some why) e = λ steps few. no_text why few pure e

    pub texts_stop : (fault : JamFault) → IsAnswerOf (texts_of g stands set) (Err fault) → IsStepFor g stands set (Err fault)
    texts_stop (faults.NoFile path) e = text_or_not (refusal_of (faults.NoFile path)) e
    texts_stop (faults.TooBig path size) e = text_or_not (refusal_of (faults.TooBig path size)) e
    texts_stop (faults.Lex path fault) e = text_or_not (refusal_of (faults.Lex path fault)) e
    texts_stop (faults.Syntax path fault) e = text_or_not (refusal_of (faults.Syntax path fault)) e
    texts_stop (faults.Eval fault) e = text_or_not (refusal_of (faults.Eval fault)) e
    texts_stop (faults.NoTarget name) e = text_or_not (refusal_of (faults.NoTarget name)) e
    texts_stop (faults.MixedNotFile target) e = text_or_not (refusal_of (faults.MixedNotFile target)) e
    texts_stop (faults.PathClash path) e = text_or_not (refusal_of (faults.PathClash path)) e
    texts_stop (faults.LocationOutside path) e = text_or_not (refusal_of (faults.LocationOutside path)) e
    texts_stop (faults.TooManySteps count) e = text_or_not (refusal_of (faults.TooManySteps count)) e
    texts_stop faults.Host e = absurd e
    texts_stop faults.OutOfMemory e = tt

    module _ (texts : List Text) (text : Text) (step : Step) (texted : texts_of g stands set ≡ Ok texts) (text_is : text ≡ whole_text texts) (made : IsMadeStep g scene set targets text step) where
      outs_same : step.outs ≡ outs_of g stands set
      outs_same = made.outs stands h ∙ ap (λ (l : Value). without_repeats (places g stands l)) targets_are

      roots_same : (out : Text) → is_below_roots scene.roots out ≡ is_in_roots g out
      roots_same out = ap (λ (r : List Text). is_below_roots r out) h.roots

      outside_same : find (λ out. not (is_below_roots scene.roots out)) step.outs ≡ find (λ out. not (is_in_roots g out)) (outs_of g stands set)
      outside_same = ap₂ (λ (r : List Text) (l : List Text). find (λ out. not (is_below_roots r out)) l) h.roots outs_same

      pub outside_stops : (path : Text) → find (λ out. not (is_below_roots scene.roots out)) step.outs ≡ Some path → IsStepFor g stands set (Err (faults.LocationOutside path))
      outside_stops path e = λ steps few. lies_outside texts path few pure texted (sym outside_same ∙ e)

      all_inside : (outs : List Text) → find (λ out. not (is_in_roots g out)) outs ≡ None → list_all (is_in_roots g) outs ≡ true
      all_inside [] e = refl
      all_inside (out ∷ outs) e = go (is_in_roots g out) refl (λ k. all_inside outs k)
        where
          go : (b : Bool) → is_in_roots g out ≡ b → (find (λ o. not (is_in_roots g o)) outs ≡ None → list_all (is_in_roots g) outs ≡ true) → (is_in_roots g out && list_all (is_in_roots g) outs) ≡ true
          go true a rest =
              let none : find (λ o. not (is_in_roots g o)) outs ≡ None = sym (ap (λ b. cond (not b) (Some out) (find (λ o. not (is_in_roots g o)) outs)) a) ∙ e in
              ap (λ b. b && list_all (is_in_roots g) outs) a ∙ rest none
          go false a rest = absurd (none_some (sym e ∙ ap (λ b. cond (not b) (Some out) (find (λ o. not (is_in_roots g o)) outs)) a))
            where
              none_some : None ≡ Some out → ⊥
              none_some f = cc

      dirs_same : (list : Value) → header_dirs_of g.world.now list ≡ dirs_by g stands list
      dirs_same [] = refl
      dirs_same (first ∷ more) = refl

      pub step_made : find (λ out. not (is_below_roots scene.roots out)) step.outs ≡ None → IsStepFor g stands set (Ok step)
      step_made e = (
        record {
          name = made.name;
          texts = texts;
          texted = texted;
          text = made.text_is ∙ text_is;
          outs = outs_same;
          found = (made.ins stands h).found;
          spreads = subst (λ (l : Value). Spreads g stands (flat_map (λ (a : Act). a.sources) set ++ flat_map (depends_of g) l) (made.ins stands h).found) targets_are (made.ins stands h).spreads;
          ins = (made.ins stands h).are;
          dirs = made.dirs ∙ dirs_same targets ∙ ap (dirs_by g stands) targets_are;
          always = made.always ∙ ap₂ (λ (p : Text → Bool) (l : Value). list_any p l) always_same targets_are;
          notfile = made.notfile ∙ ap₂ (λ (p : Text → Bool) (l : Value). list_all p l) notfile_same targets_are;
        },
        pure,
        all_inside (outs_of g stands set) (sym outside_same ∙ e),
      )
