-- The full set chooses one alternative and it settles: that one is chosen. None, two, or one that does not: refused.
use Rattle.std.proofs.Common.{◌≡◌, inl, inr, ℕ, suc, List, Ok, Err, sym, ◌∙◌, ap, subst}
use Rattle.b2_props.specs.Sets.{Pair}
use Rattle.b2_refine.specs.Choices.{IsChoice}
use Rattle.b2_refine.specs.Conditions.{IsSettled, IsUnstable, IsAsked}
use Rattle.b2_refine.specs.declared.choice.Choice.TheVariants as choices
use Rattle.b2_declared.specs.declared.place.Target.{Target}
use Rattle.b2_declared.specs.declared.whole.Declared.{Declared}
use Rattle.b2_references.specs.Names.{Name, features, target_text}
use Rattle.b2_alternatives.specs.declared.fault.ChoiceFault.{ChoiceFault}
use Rattle.b2_alternatives.specs.declared.fault.ChoiceFault.TheVariants.{NoAlternative, AmbiguousAlternative}
use Rattle.b2_alternatives.specs.Choosing.{Returned, full_set, conditions, requirements, IsAlternative, answer, Chooses, Chooses.none, Chooses.two, Chooses.unsettled, Chooses.badly_answered, Chooses.settled}
use Rattle.b2_alternatives.specs.IndirectRules.{IsRefusal}
use Rattle.b2_alternatives.specs.Picking.{IsAt}

module _ {E : Type 0} (d : Declared) (returned : Returned E) (name : Name) (set full : List Pair) (whole : full ≡ full_set d name set) where
  -- an alternative that the full set chooses
  alternative : (number : ℕ) (t : Target) (at : IsAt d name full number t) → IsAlternative d name set at.place t
  alternative number t at = record {
    choice = subst (λ (ps : List Pair). IsChoice ps (conditions d name) (choices.One (suc at.place))) whole at.choice;
    at = at.at;
  }

  -- it settles
  pub chooses_one : (number : ℕ) (t : Target) (x : List Pair) → IsAt d name full number t → IsSettled (answer d returned name) (features d) full (requirements d t) x → Chooses d returned name set (Ok (record { name = name; number = number; target = t; set = x }))
  chooses_one number t x at out =
      subst (λ n. Chooses d returned name set (Ok (record { name = name; number = n; target = t; set = x }))) (sym at.number_is)
      (settled at.place t x (alternative number t at) (subst (λ (ps : List Pair). IsSettled (answer d returned name) (features d) ps (requirements d t) x) whole out))

  -- it does not
  pub refuses_one : (number : ℕ) (t : Target) (fault : ChoiceFault E) → IsAt d name full number t → IsRefusal (answer d returned name) (features d) (target_text d name) full (requirements d t) fault → Chooses d returned name set (Err fault)
  refuses_one number t fault at (inl asked) =
      badly_answered at.place t fault (alternative number t at) (subst (λ (ps : List Pair). IsAsked (answer d returned name) (features d) ps (requirements d t) fault) whole asked)
  refuses_one number t fault at (inr out) =
      subst (λ (f : ChoiceFault E). Chooses d returned name set (Err f)) (sym out.1.1)
      (unsettled at.place t out.0 out.1.0 (alternative number t at) (subst (λ (ps : List Pair). IsUnstable (answer d returned name) (features d) ps (requirements d t) out.0 out.1.0) whole out.1.2))

  -- there is none
  pub refuses_none : (fault : ChoiceFault E) → IsChoice full (conditions d name) choices.None → fault ≡ NoAlternative (target_text d name) full → Chooses d returned name set (Err fault)
  refuses_none fault choice is =
      subst (λ (f : ChoiceFault E). Chooses d returned name set (Err f)) (sym (is ∙ ap (λ (ps : List Pair). let f : ChoiceFault E = NoAlternative (target_text d name) ps in f) whole))
      (none (subst (λ (ps : List Pair). IsChoice ps (conditions d name) choices.None) whole choice))

  -- there are two
  pub refuses_two : (i k : ℕ) (fault : ChoiceFault E) → IsChoice full (conditions d name) (choices.Ambiguous i k) → fault ≡ AmbiguousAlternative (target_text d name) full i k → Chooses d returned name set (Err fault)
  refuses_two i k fault choice is =
      subst (λ (f : ChoiceFault E). Chooses d returned name set (Err f)) (sym (is ∙ ap (λ (ps : List Pair). let f : ChoiceFault E = AmbiguousAlternative (target_text d name) ps i k in f) whole))
      (two i k (subst (λ (ps : List Pair). IsChoice ps (conditions d name) (choices.Ambiguous i k)) whole choice))
