use Rattle.std.proofs.Common.{◌≡◌, ℕ, true, false, List, [], ◌∷◌, inl, inr, refl, sym, subst, arith, Some, None}
use Rattle.std.specs.List.{Contains}
use Rattle.b2_host.specs.declared.children.ChildEvent.TheVariants.{Start, Done}
use Rattle.b2_plan.specs.declared.step.Step.{Step}
use Rattle.b2_plan.specs.Plans.{Apart, Makes, step_at}
use Rattle.b2_plan.specs.Sources.{IsMissing}
use Rattle.b2_plan.specs.Closures.{Values, Known, Known.input as input_of}
use Rattle.b2_runs.specs.Runs.{Settled, Settled.source, Settled.done_well, Settled.fresh, on_settled, Needed, Needed.wanted, Needed.member, CanStart, IsRun}
use Rattle.b2_runs.specs.Outcomes.{IsMissed, IsLeft, Skipped, Skipped.missing}
use Rattle.b2_run_examples.specs.Examples.{out_path, step_from}
use Rattle.b2_run_examples.specs.Missing.{gone_path, lacking, MissingHolds}
use Rattle.b2_runs.proofs.FirstElementOrLater.{Contains_here, Contains_nil}
use Rattle.b2_runs.proofs.MakerIsOne.{source_not_made}
use Rattle.b2_runs.proofs.SkippedExactly.{settled_given, skipped_left}
use Rattle.b2_run_examples.proofs.OneStepPlan.{only_number, only_is, only_out, one_of, different, makes_out, is_apart}

abbrev gone_step : Step
gone_step = step_from (gone_path ∷ [])

apart : Apart lacking.build.steps lacking.build.roots
apart = is_apart (gone_path ∷ [])

gone_missing : IsMissing lacking.build gone_path
gone_missing (inl (bytes, s)) = let e : None ≡ Some bytes = s.stands in cc
gone_missing (inr (i, step, makes)) = different out_path gone_path refl (only_out (gone_path ∷ []) i step gone_path makes)

reads_gone : (v : Values) (i : ℕ) (step : Step) → step_at lacking.build.steps i ≡ Some step → Known lacking.build v step gone_path
reads_gone v i step at = subst (λ s. Known lacking.build v s gone_path) (only_is (gone_path ∷ []) i step at) (input_of gone_path (Contains_here gone_path []))

none_starts : (i : ℕ) → CanStart lacking [] i → ⊥
none_starts i can =
    let (value, c) = can.closure.whole gone_path (reads_gone (on_settled lacking []) i can.step can.at) in
    gone_missing (settled_given lacking [] gone_path (can.closure.each gone_path value c).1.0)

run : IsRun lacking []
run = record { each = tt; none_open = λ i o. Contains_nil (Start i) o.0; none_left = none_starts }

out_not_settled : (path : List ℕ) → Settled lacking [] path → out_path ≡ path → ⊥
out_not_settled path (source p bytes s) e = source_not_made lacking.build apart p bytes s 1 gone_step (subst (Makes lacking.build.steps 1 gone_step) e (makes_out (gone_path ∷ [])))
out_not_settled path (done_well i step p makes done) e = Contains_nil (Done i true) done
out_not_settled path (fresh i step p members makes not_started closure inside f) e = let g : None ≡ Some f.recorded.last = f.recorded.found in cc

needed_one : Needed lacking [] 1
needed_one = wanted 1 gone_step out_path (Contains_here out_path []) (makes_out (gone_path ∷ []))

number_is : (i : ℕ) → Needed lacking [] i → 1 ≡ i
number_is i (wanted k step path c makes) = sym (only_number (gone_path ∷ []) i step makes.at)
number_is i (member k step j other path needed at known makes) = sym (only_number (gone_path ∷ []) i step makes.at)

left : IsLeft lacking [] 1
left = record { needed = needed_one; not_settled = λ all. out_not_settled out_path (all gone_step out_path (makes_out (gone_path ∷ []))) refl; not_failed = λ bad. Contains_nil (Done 1 false) bad }

skipped_one : Skipped lacking [] 1
skipped_one = missing 1 gone_step gone_path left refl (input_of gone_path (Contains_here gone_path [])) gone_missing

missed_gone : IsMissed lacking [] gone_path
missed_gone = record { missing = gone_missing; asked = inr (1, gone_step, needed_one, refl, Contains_here gone_path []) }

missed_is : (path : List ℕ) → IsMissed lacking [] path → gone_path ≡ path
missed_is path m = elim m.asked [
  | inl c ↦ absurd (m.missing (inr (1, gone_step, subst (Makes lacking.build.steps 1 gone_step) (one_of out_path path c) (makes_out (gone_path ∷ [])))))
  | inr (i, step, needed, at, c) ↦ one_of gone_path path (subst (λ (s : Step). Contains s.ins path) (sym (only_is (gone_path ∷ []) i step at)) c)
]

pub missing_holds : MissingHolds
missing_holds = record {
  apart = apart;
  run = run;
  lists = record {
    failed = record { rising = λ i j d lt h. absurd (omega arith); each = λ i c. absurd (Contains_nil i c); whole = λ i bad. absurd (Contains_nil (Done i false) bad) };
    skipped = record {
      rising = λ i j d lt h. absurd (omega arith);
      each = λ i c. subst (Skipped lacking []) (one_of 1 i c) skipped_one;
      whole = λ i s. subst (Contains (1 ∷ [])) (number_is i (skipped_left lacking [] i s).needed) (Contains_here 1 []);
    };
    missing = record {
      rising = λ i j d lt h. absurd (omega arith);
      each = λ path c. subst (IsMissed lacking []) (one_of gone_path path c) missed_gone;
      whole = λ path m. subst (Contains (gone_path ∷ [])) (missed_is path m) (Contains_here gone_path []);
    };
  };
  reaches = record { step = gone_step; at = refl; path = gone_path; known = input_of gone_path (Contains_here gone_path []); lost = inl gone_missing };
  none_stuck = λ i needed. inr (inr (subst (Skipped lacking []) (number_is i needed) skipped_one));
  not_went = λ w. w.none_skipped 1 skipped_one;
}
