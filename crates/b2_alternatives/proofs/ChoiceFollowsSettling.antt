-- How requirements end says what a full set settles to, and this, with the selection, what is chosen or which fault.
use Rattle.std.proofs.Common.{◌≡◌, ℕ, Bool, List, Option, Some, Result, Ok, Err, inl, inr, refl, sym, subst}
use Rattle.std.specs.Result.{IfOk, IfErr}
use Rattle.std.proofs.lemmas.Bool.{false≢true}
use Rattle.b2_features.specs.Table.{DeclaredFeature}
use Rattle.b2_props.specs.Sets.{Pair, IsSet}
use Rattle.b2_props.specs.declared.requirement.Requirement.{Requirement}
use Rattle.b2_refine.specs.Answers.{Answer}
use Rattle.b2_refine.specs.Conditions.{IsSettled, IsUnstable, IsAsked}
use Rattle.b2_refine.specs.Faults.{IsUnstableBy, IsAskedBy, IsKnownFault, is_asked}
use Rattle.b2_refine.specs.declared.fault.RefineFault.{RefineFault}
use Rattle.b2_refine.specs.declared.fault.RefineFault.TheVariants as refused
use Rattle.b2_declared.specs.declared.whole.Declared.{Declared}
use Rattle.b2_references.specs.Names.{Name, features, target_text}
use Rattle.b2_evaluator.specs.Answers.{Answers}
use Rattle.b2_base.specs.Counts.{IsCounted}
use Rattle.b2_alternatives.specs.declared.fault.ChoiceFault.{ChoiceFault}
use Rattle.b2_alternatives.specs.declared.fault.ChoiceFault.TheVariants.{NoAlternative, AmbiguousAlternative, Unstable, BadAnswer, Eval, OutOfMemory}
use Rattle.b2_alternatives.specs.declared.choosing.FullChoice.{FullChoice}
use Rattle.b2_alternatives.specs.Choosing.{answer, requirements}
use Rattle.b2_alternatives.specs.IndirectRules.{is_eval, is_memory, IsKnown, told_answer, HoldsOf, IsRefusal}
use Rattle.b2_alternatives.specs.Picking.{IsSelection, IsUnpicked}
use Rattle.b2_alternatives.specs.Settling.{Tells, IsSettling, IsChoosing}
use Rattle.b2_alternatives.proofs.RulesTellWhatTheyReturn.{told_is}
use Rattle.b2_alternatives.proofs.ChoiceIsAnAlternative.{target_at}
use Rattle.b2_alternatives.proofs.ChosenIfOneSettles.{chooses_one, refuses_one}

module _ {S E K : Type 0} (answers : S → Option (Answers E)) (kept : S → K) (faults : S → ℕ) (is_host is_out : E → Bool) (CanFault : K → E → Type 0) (d : Declared) (old : S) where
  -- memory ran out, and nothing that is told or kept has changed
  pub memory : {T : Type 0} {Holds : Answers E → T → Type 0} {Refuses : Answers E → ChoiceFault E → Type 0} {Good : T → Type 0} (after : Declared) (new : S) (r : Result T (ChoiceFault E)) → r ≡ Err OutOfMemory → answers new ≡ answers old → kept new ≡ kept old → after ≡ d
      → Tells answers kept faults is_host is_out CanFault Holds Refuses Good d after old new r
  memory {T} {Holds} {Refuses} {Good} after new r e a k p =
      subst (λ (x : Result T (ChoiceFault E)). Tells answers kept faults is_host is_out CanFault Holds Refuses Good d after old new x) (sym e)
      (record {
        holds = λ told t. tt;
        refuses = λ told t not_host not_memory. absurd (false≢true (sym not_memory));
        good = tt;
        leaves = record { same_answers = a; same_kept = k; counted = tt; known = tt };
        project = p;
      })

  module _ (name : Name) (full : List Pair) (required : List Requirement) (table : List DeclaredFeature) (same : table ≡ features d) (r : Result (List Pair) (RefineFault (ChoiceFault E))) (new : S) (after : Declared)
      (settled : (told : Answer (ChoiceFault E)) → told_answer d name (answers old) ≡ Some told → IfOk r (IsSettled told table full required))
      (unstable : (told : Answer (ChoiceFault E)) → told_answer d name (answers old) ≡ Some told → IfErr r (IsUnstableBy told table full required))
      (asked : (told : Answer (ChoiceFault E)) → told_answer d name (answers old) ≡ Some told → IfErr r (IsAskedBy (is_eval is_host) (is_memory is_out) told table full required))
      (set : IfOk r (IsSet table)) (known : IfErr r (IsKnownFault (IsKnown (CanFault (kept old)))))
      (counted : IsCounted (is_asked (is_eval is_host)) (is_asked (is_memory is_out)) (faults old) (faults new) r)
      (a : answers new ≡ answers old) (k : kept new ≡ kept old) (p : after ≡ d) where
    abbrev R : Type 0
    R = Result (List Pair) (RefineFault (ChoiceFault E))

    count : (x : R) → r ≡ x → IsCounted (is_asked (is_eval is_host)) (is_asked (is_memory is_out)) (faults old) (faults new) x
    count x e = subst (λ (y : R). IsCounted (is_asked (is_eval is_host)) (is_asked (is_memory is_out)) (faults old) (faults new) y) e counted

    -- an evaluation that settles
    pub settle_ok : (s : List Pair) → r ≡ Ok s → IsSettling answers kept faults is_host is_out CanFault d after old new name full required (Ok s)
    settle_ok s e = record {
      holds = λ told t.
          subst (λ (fs : List DeclaredFeature). IsSettled (answer d told.returned name) fs full required s) same
          (subst (λ (y : R). IfOk y (IsSettled (answer d told.returned name) table full required)) e (settled (answer d told.returned name) (told_is d name (answers old) told t)));
      refuses = λ told t. tt;
      good = subst (λ (fs : List DeclaredFeature). IsSet fs s) same (subst (λ (y : R). IfOk y (IsSet table)) e set);
      leaves = record { same_answers = a; same_kept = k; counted = count (Ok s) e; known = tt };
      project = p;
    }

    -- one that meets a fault
    pub settle_asked : (f : ChoiceFault E) → r ≡ Err (refused.Asked f) → IsSettling answers kept faults is_host is_out CanFault d after old new name full required (Err f)
    settle_asked f e = record {
      holds = λ told t. tt;
      refuses = λ told t not_host not_memory.
          inl (subst (λ (fs : List DeclaredFeature). IsAsked (answer d told.returned name) fs full required f) same
          (subst (λ (y : R). IfErr y (IsAskedBy (is_eval is_host) (is_memory is_out) (answer d told.returned name) table full required)) e (asked (answer d told.returned name) (told_is d name (answers old) told t)) not_host not_memory));
      good = tt;
      leaves = record {
        same_answers = a;
        same_kept = k;
        counted = count (Err (refused.Asked f)) e;
        known = subst (λ (y : R). IfErr y (IsKnownFault (IsKnown (CanFault (kept old))))) e known;
      };
      project = p;
    }

    -- one that does not settle
    pub settle_unstable : (x y : List Pair) (f : ChoiceFault E) → r ≡ Err (refused.Unstable x y) → f ≡ Unstable (target_text d name) x y → IsSettling answers kept faults is_host is_out CanFault d after old new name full required (Err f)
    settle_unstable x y f e is =
        subst (λ (g : ChoiceFault E). IsSettling answers kept faults is_host is_out CanFault d after old new name full required (Err g)) (sym is)
        (record {
          holds = λ told t. tt;
          refuses = λ told t not_host not_memory.
              inr (
                x,
                (
                  y,
                  refl,
                  subst (λ (fs : List DeclaredFeature). IsUnstable (answer d told.returned name) fs full required x y) same
                      (subst (λ (z : R). IfErr z (IsUnstableBy (answer d told.returned name) table full required)) e (unstable (answer d told.returned name) (told_is d name (answers old) told t))),
                ),
              );
          good = tt;
          leaves = record { same_answers = a; same_kept = k; counted = count (Err (refused.Unstable x y)) e; known = tt };
          project = p;
        })

  module _ (name : Name) (set : List Pair) (s : FullChoice) (is : IsSelection d name set s) (new : S) (after : Declared) (r : Result (List Pair) (ChoiceFault E))
      (out : IsSettling answers kept faults is_host is_out CanFault d after old new name s.full (requirements d s.target.now) r) where
    -- the alternative that was selected settles
    pub choose_ok : (x : List Pair) → r ≡ Ok x → IsChoosing answers kept faults is_host is_out CanFault d after old new name set (Ok (record { number = s.number; target = s.target; set = x }))
    choose_ok x e = record {
      holds = λ told t.
          chooses_one d told.returned name set s.full is.full s.number s.target.now x is.at
          (subst (λ (y : Result (List Pair) (ChoiceFault E)). IfOk y (λ ps. IsSettled (answer d told.returned name) (features d) s.full (requirements d s.target.now) ps)) e (out.holds told t));
      refuses = λ told t. tt;
      good = record {
        is_set = subst (λ (y : Result (List Pair) (ChoiceFault E)). IfOk y (IsSet (features d))) e out.good;
        target = target_at d name is.at.place s.target.now is.at.at;
      };
      leaves = record {
        same_answers = out.leaves.same_answers;
        same_kept = out.leaves.same_kept;
        counted = subst (λ (y : Result (List Pair) (ChoiceFault E)). IsCounted (is_eval is_host) (is_memory is_out) (faults old) (faults new) y) e out.leaves.counted;
        known = tt;
      };
      project = out.project;
    }

    -- it does not
    pub choose_err : (f : ChoiceFault E) → r ≡ Err f → IsChoosing answers kept faults is_host is_out CanFault d after old new name set (Err f)
    choose_err f e = record {
      holds = λ told t. tt;
      refuses = λ told t not_host not_memory.
          refuses_one d told.returned name set s.full is.full s.number s.target.now f is.at
          (subst (λ (y : Result (List Pair) (ChoiceFault E)). IfErr y (HoldsOf is_host is_out (IsRefusal (answer d told.returned name) (features d) (target_text d name) s.full (requirements d s.target.now)))) e (out.refuses told t) not_host not_memory);
      good = tt;
      leaves = record {
        same_answers = out.leaves.same_answers;
        same_kept = out.leaves.same_kept;
        counted = subst (λ (y : Result (List Pair) (ChoiceFault E)). IsCounted (is_eval is_host) (is_memory is_out) (faults old) (faults new) y) e out.leaves.counted;
        known = subst (λ (y : Result (List Pair) (ChoiceFault E)). IfErr y (IsKnown (CanFault (kept old)))) e out.leaves.known;
      };
      project = out.project;
    }

  -- none was selected
  pub choose_none : (name : Name) (set : List Pair) (f : ChoiceFault E) → IsUnpicked d name set f → IsChoosing answers kept faults is_host is_out CanFault d d old old name set (Err f)
  choose_none name set (NoAlternative target full) is = record {
    holds = λ told t. tt;
    refuses = λ told t not_host not_memory. is told.returned;
    good = tt;
    leaves = record { same_answers = refl; same_kept = refl; counted = refl; known = tt };
    project = refl;
  }
  choose_none name set (AmbiguousAlternative target full i k) is = record {
    holds = λ told t. tt;
    refuses = λ told t not_host not_memory. is told.returned;
    good = tt;
    leaves = record { same_answers = refl; same_kept = refl; counted = refl; known = tt };
    project = refl;
  }
  choose_none name set (Unstable target first second) is = absurd is
  choose_none name set (BadAnswer target rule word) is = absurd is
  choose_none name set (Eval fault) is = absurd is
  choose_none name set OutOfMemory is = memory d old (Err OutOfMemory) refl refl refl refl
