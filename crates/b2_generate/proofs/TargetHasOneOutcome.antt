-- By recursion over how main targets are generated: two outcomes of one request are equal. For the laws of plans.
use Rattle.std.proofs.Common.{◌≡◌, Bool, true, false, ℕ, List, [], ◌∷◌, ◌++◌, Option, Some, None, Result, Ok, Err, refl, sym, ap, subst, true≢false, ◌∙◌, arith}
use Rattle.std.proofs.lemmas.Bool.{both_ways}
use Rattle.b2_alternatives.specs.declared.fault.ChoiceFault.{ChoiceFault}
use Rattle.b2_alternatives.specs.Choosing.{Chooses, Chosen}
use Rattle.b2_alternatives.specs.declared.need.Next.TheVariants.{Complete, Due, Missing}
use Rattle.b2_alternatives.specs.declared.need.Next.{Next}
use Rattle.b2_alternatives.specs.declared.conflict.Conflict.{Conflict}
use Rattle.b2_generate.specs.Faults.{no_target, not_chosen}
use Rattle.b2_generate.specs.Generation.{Finishes, conflict_fault, cycle_of}
use Rattle.b2_generate.specs.Answers.{Generated, Outcome}
use Rattle.b2_generate.specs.LoadedProjects.{LoadedProject, returned}
use Rattle.b2_references.specs.Names.{Name, is_among}
use Rattle.b2_props.specs.Sets.{Pair}
use Rattle.b2_generate.specs.OpenTargets.{Standing, with_target, at_first, conflict, hands_on, next}
use Rattle.b2_plan.specs.declared.step.Step.{Step}
use Rattle.b2_generate.specs.Generation.{Generates, Depends, is_open, choice_refused, not_supplied, finished, complete_now, names_nothing, refused, conflicts, goes_on}

-- what is settled once
pub record IsSettled {E : Type 0} (l : LoadedProject E) : Type 0 where
  pub one_choice : (name : Name) (set : List Pair) (a b : Result Chosen (ChoiceFault E)) → Chooses l.declared (returned l) name set a → Chooses l.declared (returned l) name set b → a ≡ b
  pub one_end : (c : Chosen) (s : Standing) (before : List Step) (a b : Outcome E Generated) → Finishes l c s before a → Finishes l c s before b → a ≡ b

abbrev pub EndsIn : {E : Type 0} → LoadedProject E → Chosen → Outcome E Standing → Outcome E Generated → Type 0
EndsIn l c (Ok (stands, steps)) outcome = Finishes l c stands steps outcome
EndsIn l c (Err fault) outcome = outcome ≡ Err fault

-- how a target comes to its outcome
pub data Ways {E : Type 0} (l : LoadedProject E) (above : List Name) (name : Name) (set : List Pair) (before : List Step) (outcome : Outcome E Generated) : Type 0 where
  open_way : is_among above name ≡ true → outcome ≡ Err (cycle_of l name above) → Ways l above name set before outcome
  refused_way : (fault : ChoiceFault E) → is_among above name ≡ false → Chooses l.declared (returned l) name set (Err fault) → outcome ≡ Err (not_chosen fault) → Ways l above name set before outcome
  chosen_way : (c : Chosen) (needed : Outcome E Standing) → is_among above name ≡ false → Chooses l.declared (returned l) name set (Ok c) → Depends l (above ++ name ∷ []) c (at_first c) before needed
      → EndsIn l c needed outcome → Ways l above name set before outcome

pub ways : {E : Type 0} (l : LoadedProject E) (above : List Name) (name : Name) (set : List Pair) (before : List Step) (outcome : Outcome E Generated)
    → Generates l above name set before outcome → Ways l above name set before outcome
ways l above name set before outcome (is_open _ _ _ _ is) = open_way is refl
ways l above name set before outcome (choice_refused _ _ _ _ fault closed chooses) = refused_way fault closed chooses refl
ways l above name set before outcome (not_supplied _ _ _ _ c fault closed chooses depends) = chosen_way c (Err fault) closed chooses depends refl
ways l above name set before outcome (finished _ _ _ _ between c stands _ closed chooses depends finishes) = chosen_way c (Ok (stands, between)) closed chooses depends finishes

abbrev AfterMet : {E : Type 0} → LoadedProject E → List Name → Chosen → Standing → Name → Generated → List Step → Option Conflict → Outcome E Standing → Type 0
AfterMet l above c s name given between (Some found) outcome = outcome ≡ Err (conflict_fault l c found)
AfterMet l above c s name given between None outcome = Depends l above c (with_target l.declared s name given) between outcome

abbrev GoesIn : {E : Type 0} → LoadedProject E → List Name → Chosen → Standing → Name → Outcome E Generated → Outcome E Standing → Type 0
GoesIn l above c s name (Err fault) outcome = outcome ≡ Err fault
GoesIn l above c s name (Ok (given, between)) outcome = AfterMet l above c s name given between (conflict l.declared s given) outcome

-- how step 3 goes on
data Courses {E : Type 0} (l : LoadedProject E) (above : List Name) (c : Chosen) (s : Standing) (before : List Step) (outcome : Outcome E Standing) : Type 0 where
  ends_here : next l.declared c s ≡ Complete → outcome ≡ Ok (s, before) → Courses l above c s before outcome
  nothing_here : (text : List ℕ) → next l.declared c s ≡ Missing text → outcome ≡ Err (no_target text) → Courses l above c s before outcome
  due_here : (name : Name) (made : Outcome E Generated) → next l.declared c s ≡ Due name → Generates l above name (hands_on l.declared s) before made
      → GoesIn l above c s name made outcome → Courses l above c s before outcome

courses : {E : Type 0} (l : LoadedProject E) (above : List Name) (c : Chosen) (s : Standing) (before : List Step) (outcome : Outcome E Standing)
    → Depends l above c s before outcome → Courses l above c s before outcome
courses l above c s before outcome (complete_now _ _ _ _ is) = ends_here is refl
courses l above c s before outcome (names_nothing _ _ _ _ text is) = nothing_here text is refl
courses l above c s before outcome (refused _ _ _ _ name fault is made) = due_here name (Err fault) is made refl
courses l above c s before outcome (conflicts _ _ _ _ between name given found is made clash) =
    due_here name (Ok (given, between)) is made (subst (λ (k : Option Conflict). AfterMet l above c s name given between k (Err (conflict_fault l c found))) (sym clash) refl)
courses l above c s before outcome (goes_on _ _ _ _ between name given _ is made fits depends) =
    due_here name (Ok (given, between)) is made (subst (λ (k : Option Conflict). AfterMet l above c s name given between k outcome) (sym fits) depends)

abbrev chosen_of : {E : Type 0} → Chosen → Result Chosen (ChoiceFault E) → Chosen
chosen_of c (Ok found) = found
chosen_of c (Err fault) = c

abbrev refusal_of : {E : Type 0} → ChoiceFault E → Result Chosen (ChoiceFault E) → ChoiceFault E
refusal_of fault (Ok found) = fault
refusal_of fault (Err found) = found

abbrev is_chosen : {E : Type 0} → Result Chosen (ChoiceFault E) → Bool
is_chosen (Ok found) = true
is_chosen (Err fault) = false

module _ {E : Type 0} (l : LoadedProject E) (settled : IsSettled l) where
  module _ (above : List Name) (name : Name) (set : List Pair) (before : List Step) (b : Outcome E Generated) where
    of_open : is_among above name ≡ true → Ways l above name set before b → Err (cycle_of l name above) ≡ b
    of_open is (open_way _ e) = sym e
    of_open is (refused_way fault closed chooses e) = absurd (both_ways (is_among above name) closed is)
    of_open is (chosen_way c needed closed chooses depends ends) = absurd (both_ways (is_among above name) closed is)

    of_refused : (fault : ChoiceFault E) → is_among above name ≡ false → Chooses l.declared (returned l) name set (Err fault) → Ways l above name set before b → Err (not_chosen fault) ≡ b
    of_refused fault closed chooses (open_way is e) = absurd (both_ways (is_among above name) closed is)
    of_refused fault closed chooses (refused_way other _ chooses₁ e) =
        ap (λ r. Err (not_chosen (refusal_of fault r))) (settled.one_choice name set (Err fault) (Err other) chooses chooses₁) ∙ sym e
    of_refused fault closed chooses (chosen_way c needed _ chooses₁ depends ends) =
        absurd (true≢false (sym (ap is_chosen (settled.one_choice name set (Err fault) (Ok c) chooses chooses₁))))

    of_chosen : (a : Outcome E Generated) (c : Chosen) (needed : Outcome E Standing) → is_among above name ≡ false → Chooses l.declared (returned l) name set (Ok c)
        → ((other : Outcome E Standing) → Depends l (above ++ name ∷ []) c (at_first c) before other → needed ≡ other) → EndsIn l c needed a → Ways l above name set before b → a ≡ b
    of_chosen a c needed closed chooses same ends (open_way is e) = absurd (both_ways (is_among above name) closed is)
    of_chosen a c needed closed chooses same ends (refused_way fault _ chooses₁ e) =
        absurd (true≢false (ap is_chosen (settled.one_choice name set (Ok c) (Err fault) chooses chooses₁)))
    of_chosen a c needed closed chooses same ends (chosen_way c₁ needed₁ _ chooses₁ depends₁ ends₁) =
        let alike : c ≡ c₁ = ap (chosen_of c) (settled.one_choice name set (Ok c) (Ok c₁) chooses chooses₁) in
        let depends : Depends l (above ++ name ∷ []) c (at_first c) before needed₁ =
        subst (λ (k : Chosen). Depends l (above ++ name ∷ []) k (at_first k) before needed₁) (sym alike) depends₁ in
        let here : EndsIn l c needed b = subst (λ (n : Outcome E Standing). EndsIn l c n b) (sym (same needed₁ depends)) (subst (λ (k : Chosen). EndsIn l k needed₁ b) (sym alike) ends₁) in
        one_ending needed ends here
      where
        one_ending : (needed : Outcome E Standing) → EndsIn l c needed a → EndsIn l c needed b → a ≡ b
        one_ending (Ok (stands, steps)) x y = settled.one_end c stands steps a b x y
        one_ending (Err fault) x y = x ∙ sym y

  module _ (above : List Name) (c : Chosen) (s : Standing) (before : List Step) (b : Outcome E Standing) where
    abbrev due_of : Name → Next → Name
    due_of name (Due other) = other
    due_of name Complete = name
    due_of name (Missing text) = name

    abbrev text_of : List ℕ → Next → List ℕ
    text_of text (Missing other) = other
    text_of text Complete = text
    text_of text (Due name) = text

    abbrev kind_of : Next → ℕ
    kind_of Complete = 0
    kind_of (Missing text) = 1
    kind_of (Due name) = 2

    of_end : next l.declared c s ≡ Complete → Courses l above c s before b → Ok (s, before) ≡ b
    of_end is (ends_here _ e) = sym e
    of_end is (nothing_here text e _) = absurd (omega (arith, ap kind_of (sym is ∙ e)))
    of_end is (due_here name made e _ _) = absurd (omega (arith, ap kind_of (sym is ∙ e)))

    of_nothing : (text : List ℕ) → next l.declared c s ≡ Missing text → Courses l above c s before b → Err (no_target text) ≡ b
    of_nothing text is (ends_here e _) = absurd (omega (arith, ap kind_of (sym is ∙ e)))
    of_nothing text is (nothing_here other e f) = ap (λ n. Err (no_target (text_of text n))) (sym is ∙ e) ∙ sym f
    of_nothing text is (due_here name made e _ _) = absurd (omega (arith, ap kind_of (sym is ∙ e)))

    of_due : (a : Outcome E Standing) (name : Name) (made : Outcome E Generated) → next l.declared c s ≡ Due name
        → ((other : Outcome E Generated) → Generates l above name (hands_on l.declared s) before other → made ≡ other)
        → (GoesIn l above c s name made b → a ≡ b) → Courses l above c s before b → a ≡ b
    of_due a name made is same last (ends_here e _) = absurd (omega (arith, ap kind_of (sym is ∙ e)))
    of_due a name made is same last (nothing_here text e _) = absurd (omega (arith, ap kind_of (sym is ∙ e)))
    of_due a name made is same last (due_here name₁ made₁ e generates goes) =
        let alike : name ≡ name₁ = ap (due_of name) (sym is ∙ e) in
        let here : Generates l above name (hands_on l.declared s) before made₁ = subst (λ (n : Name). Generates l above n (hands_on l.declared s) before made₁) (sym alike) generates in
        last (subst (λ (m : Outcome E Generated). GoesIn l above c s name m b) (sym (same made₁ here)) (subst (λ (n : Name). GoesIn l above c s n made₁ b) (sym alike) goes))

  mutual
    pub one_generated : (above : List Name) (name : Name) (set : List Pair) (before : List Step) (a b : Outcome E Generated)
        → Generates l above name set before a → Generates l above name set before b → a ≡ b
    one_generated above name set before a b (is_open _ _ _ _ is) other = of_open above name set before b is (ways l above name set before b other)
    one_generated above name set before a b (choice_refused _ _ _ _ fault closed chooses) other =
        of_refused above name set before b fault closed chooses (ways l above name set before b other)
    one_generated above name set before a b (not_supplied _ _ _ _ c fault closed chooses depends) other =
        of_chosen above name set before b (Err fault) c (Err fault) closed chooses (λ needed d. one_depended (above ++ name ∷ []) c (at_first c) before (Err fault) needed depends d) refl
        (ways l above name set before b other)
    one_generated above name set before a b (finished _ _ _ _ between c stands _ closed chooses depends finishes) other =
        of_chosen above name set before b a c (Ok (stands, between)) closed chooses (λ needed d. one_depended (above ++ name ∷ []) c (at_first c) before (Ok (stands, between)) needed depends d) finishes
        (ways l above name set before b other)

    pub one_depended : (above : List Name) (c : Chosen) (s : Standing) (before : List Step) (a b : Outcome E Standing)
        → Depends l above c s before a → Depends l above c s before b → a ≡ b
    one_depended above c s before a b (complete_now _ _ _ _ is) other = of_end above c s before b is (courses l above c s before b other)
    one_depended above c s before a b (names_nothing _ _ _ _ text is) other = of_nothing above c s before b text is (courses l above c s before b other)
    one_depended above c s before a b (refused _ _ _ _ name fault is made) other =
        of_due above c s before b (Err fault) name (Err fault) is (λ o g. one_generated above name (hands_on l.declared s) before (Err fault) o made g) sym (courses l above c s before b other)
    one_depended above c s before a b (conflicts _ _ _ _ between name given found is made clash) other =
        of_due above c s before b (Err (conflict_fault l c found)) name (Ok (given, between)) is (λ o g. one_generated above name (hands_on l.declared s) before (Ok (given, between)) o made g)
        (λ goes. sym (subst (λ (k : Option Conflict). AfterMet l above c s name given between k b) clash goes)) (courses l above c s before b other)
    one_depended above c s before a b (goes_on _ _ _ _ between name given _ is made fits depends) other =
        of_due above c s before b a name (Ok (given, between)) is (λ o g. one_generated above name (hands_on l.declared s) before (Ok (given, between)) o made g)
        (λ goes. one_depended above c (with_target l.declared s name given) between a b depends (subst (λ (k : Option Conflict). AfterMet l above c s name given between k b) fits goes)) (courses l above c s before b other)
