use Rattle.std.proofs.Common.{◌≡◌, ◌⊎◌, ℕ, ◌<◌, ◌+◌, true, false, List, [], ◌∷◌, inl, inr, refl, sym, subst, arith, Some}
use Rattle.std.specs.List.{Contains}
use Rattle.b2_host.specs.declared.children.ChildEvent.{ChildEvent}
use Rattle.b2_host.specs.declared.children.ChildEvent.TheVariants.{Start, Done}
use Rattle.b2_host.specs.Disks.{Folder}
use Rattle.b2_plan.specs.Plans.{Apart}
use Rattle.b2_plan.specs.Sources.{Build, Include, IsSource}
use Rattle.b2_plan.specs.Closures.{Value, Values, Known, IsClosure}
use Rattle.b2_base.specs.Bytes.{Before}
use Rattle.b2_plan.specs.Cleans.{Clean}
use Rattle.b2_log.specs.declared.line.LogLine.{LogLine}
use Rattle.b2_runs.specs.Staleness.{Update, IsFresh, IsStale}
use Rattle.b2_runs.specs.Events.{IsOpen}
use Rattle.b2_runs.specs.Runs.{Settled.source, on_settled, Needed, Needed.wanted, CanStart, IsRun}
use Rattle.b2_run_examples.specs.Examples.{in_path, out_path, copy_step, copied}
use Rattle.b2_run_examples.specs.HeaderPlaces.{including, update_with}
use Rattle.b2_runs.proofs.FirstElementOrLater.{Contains_here, Contains_there, Contains_cases, Contains_nil}
use Rattle.b2_runs.proofs.SourcesAreKept.{source_clean}
use Rattle.b2_runs.proofs.NeededByNumbers.{cannot_start_fresh}
use Rattle.b2_runs.proofs.ValuesCanBeGathered.{Sooner, pairs_cons}
use Rattle.b2_run_examples.proofs.OneStepPlan.{one_of, only_number, is_apart, makes_out}
use Rattle.b2_run_examples.proofs.OverlapHolds.{skip, start_not_done, start_number}

-- One step that is known to read two sources, p and q, in this order.
module _ (folder : Folder) (inc : List ℕ → List ℕ → List Include) (looks : List (List ℕ) → List ℕ → Include → List (List ℕ)) (log : List LogLine) (p q x y : List ℕ) (p_source : IsSource (including folder inc looks) p x) (q_source : IsSource (including folder inc looks) q y) (before : Before p q)
    (known_both : (v : Values) → v p (Some x) → v q (Some y) → Known (including folder inc looks) v copy_step p × Known (including folder inc looks) v copy_step q)
    (known_two : (v : Values) (path : List ℕ) → Known (including folder inc looks) v copy_step path → (p ≡ path) ⊎ (q ≡ path)) where
  abbrev B : Build
  B = including folder inc looks

  abbrev U : Update
  U = update_with folder inc looks log

  abbrev members : List (List ℕ × Value)
  members = (p, Some x) ∷ (q, Some y) ∷ []

  apart : Apart B.steps B.roots
  apart = is_apart (in_path ∷ [])

  close_of : (v : Values) → v p (Some x) → v q (Some y) → IsClosure B v copy_step members
  close_of v has_p has_q = record {
    ordered = pairs_cons (p, Some x) ((q, Some y) ∷ []) (λ n c. subst (Sooner (p, Some x)) (one_of (q, Some y) n c) before) (λ i j d lt h. absurd (omega arith));
    each = λ path value c. elim (Contains_cases (p, Some x) (path, value) ((q, Some y) ∷ []) c) [
      | inl e ↦ (subst (λ (z : List ℕ × Value). Known B v copy_step z.0) e (known_both v has_p has_q).0, subst (λ (z : List ℕ × Value). v z.0 z.1) e has_p)
      | inr d ↦ (subst (λ (z : List ℕ × Value). Known B v copy_step z.0) (one_of (q, Some y) (path, value) d) (known_both v has_p has_q).1, subst (λ (z : List ℕ × Value). v z.0 z.1) (one_of (q, Some y) (path, value) d) has_q)
    ];
    whole = λ path k. elim (known_two v path k) [
      | inl e ↦ (Some x, subst (λ r. Contains members (r, Some x)) e (Contains_here (p, Some x) ((q, Some y) ∷ [])))
      | inr e ↦ (Some y, subst (λ r. Contains members (r, Some y)) e (Contains_there (p, Some x) (q, Some y) ((q, Some y) ∷ []) (Contains_here (q, Some y) [])))
    ];
  }

  pub closure : IsClosure B (Clean B) copy_step members
  closure = close_of (Clean B) (source_clean B apart p x p_source) (source_clean B apart q y q_source)

  on : (events : List ChildEvent) → IsClosure B (on_settled U events) copy_step members
  on events = close_of (on_settled U events) (source p x p_source, source_clean B apart p x p_source) (source q y q_source, source_clean B apart q y q_source)

  needed : (events : List ChildEvent) → Needed U events 1
  needed events = wanted 1 copy_step out_path (Contains_here out_path []) (makes_out (in_path ∷ []))

  first_open : IsOpen (Start 1 ∷ []) 1
  first_open = (Contains_here (Start 1) [], λ well. skip (Start 1) (Done 1 well) [] (start_not_done 1 1 well) (λ d. Contains_nil (Done 1 well) d))

  none_open : (i : ℕ) → IsOpen copied i → ⊥
  none_open i o = elim (Contains_cases (Start 1) (Start i) (Done 1 true ∷ []) o.0) [
    | inl e ↦ o.1 true (subst (λ j. Contains copied (Done j true)) (start_number 1 i e) (1, omega arith, refl))
    | inr d ↦ (let e : Done 1 true ≡ Start i = one_of (Done 1 true) (Start i) d in cc)
  ]

  -- where the step is stale it runs
  pub runs : IsStale U [] copy_step members → IsRun U copied
  runs stale = record {
    each = (
      (
        record { step = copy_step; at = refl; needed = needed []; not_started = λ c. Contains_nil (Start 1) c; members = members; closure = on []; stale = stale; room = (let h : 0 < 0 + 1 = omega arith in h); goes_on = λ quit k c. Contains_nil (Done k false) c },
        λ k less c. (let e = only_number (in_path ∷ []) k c.step c.at in omega (arith, less, e)),
      ),
      ((first_open, λ i c. (let h : 1 < 0 + 1 = c.room in omega (arith, h))), tt),
    );
    none_open = none_open;
    none_left = λ i c. c.not_started (subst (λ j. Contains copied (Start j)) (sym (only_number (in_path ∷ []) i c.step c.at)) (Contains_here (Start 1) (Done 1 true ∷ [])));
  }

  -- and where it is fresh nothing does
  pub idles : IsFresh U [] copy_step members → IsRun U []
  idles f = record {
    each = tt;
    none_open = λ i o. Contains_nil (Start i) o.0;
    none_left = λ i c. cannot_start_fresh U [] 1 copy_step members apart refl (on []) f (subst (CanStart U []) (only_number (in_path ∷ []) i c.step c.at) c);
  }
