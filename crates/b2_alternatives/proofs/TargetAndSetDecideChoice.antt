-- A main target and a set have one choice at most, and what is chosen is of this target: for laws of generation too.
use Rattle.std.proofs.Common.{◌≡◌, ℕ, suc, List, Some, Result, Ok, Err, refl, sym, ◌∙◌, ap, ap₂, subst}
use Rattle.std.specs.Prelude.{slice_get}
use Rattle.b2_props.specs.Sets.{Pair}
use Rattle.b2_refine.specs.Conditions.{IsSettled, IsUnstable, IsAsked}
use Rattle.b2_refine.specs.Choices.{IsChoice}
use Rattle.b2_refine.specs.declared.choice.Choice.{Choice}
use Rattle.b2_refine.specs.declared.choice.Choice.TheVariants as choices
use Rattle.b2_refine.proofs.LawProofs.{settles_on_one, settled_is_stable, settled_has_no_fault, unstable_has_no_fault, meets_one_fault, one_choice}
use Rattle.b2_declared.specs.declared.place.Target.{Target}
use Rattle.b2_declared.specs.declared.whole.Declared.{Declared}
use Rattle.b2_references.specs.Names.{Name, features, alternatives, target_text}
use Rattle.b2_alternatives.specs.declared.fault.ChoiceFault.{ChoiceFault}
use Rattle.b2_alternatives.specs.declared.fault.ChoiceFault.TheVariants.{AmbiguousAlternative, Unstable}
use Rattle.b2_alternatives.specs.Choosing.{Returned, Chosen, full_set, conditions, requirements, IsAlternative, answer, Chooses, Chooses.none, Chooses.two, Chooses.unsettled, Chooses.badly_answered, Chooses.settled}
use Rattle.b2_alternatives.specs.Laws.{OneChoice, NamesItself}

-- two choices of different kinds
abbrev Apart : Choice → Choice → Type 0
Apart choices.None choices.None = ⊥
Apart choices.None (choices.One i) = Unit {0}
Apart choices.None (choices.Ambiguous i k) = Unit {0}
Apart (choices.One i) choices.None = Unit {0}
Apart (choices.One i) (choices.One k) = ⊥
Apart (choices.One i) (choices.Ambiguous m n) = Unit {0}
Apart (choices.Ambiguous i k) choices.None = Unit {0}
Apart (choices.Ambiguous i k) (choices.One m) = Unit {0}
Apart (choices.Ambiguous i k) (choices.Ambiguous m n) = ⊥

never_apart : (a : Choice) → Apart a a → ⊥
never_apart choices.None e = e
never_apart (choices.One i) e = e
never_apart (choices.Ambiguous i k) e = e

apart : (a b : Choice) → Apart a b → a ≡ b → ⊥
apart a b differ e = never_apart a (subst (Apart a) (sym e) differ)

one_result : {F : Type 0} (r : Result (List Pair) F) (a b : List Pair) → r ≡ Ok a → r ≡ Ok b → a ≡ b
one_result r a b e f = cc

module _ {E : Type 0} (d : Declared) (returned : Returned E) (name : Name) (set : List Pair) where
  abbrev full : List Pair
  full = full_set d name set

  abbrev failed : ChoiceFault E → Result Chosen (ChoiceFault E)
  failed fault = Err fault

  same_choice : (a b : Choice) → IsChoice full (conditions d name) a → IsChoice full (conditions d name) b → a ≡ b
  same_choice a b one other = one_choice full (conditions d name) a b one other

  two_same : (i k m n : ℕ) → choices.Ambiguous i k ≡ choices.Ambiguous m n → failed (AmbiguousAlternative (target_text d name) full i k) ≡ failed (AmbiguousAlternative (target_text d name) full m n)
  two_same i k m n e = let first : i ≡ m = cc in let second : k ≡ n = cc in ap₂ (λ (a b : ℕ). failed (AmbiguousAlternative (target_text d name) full a b)) first second

  unstable_same : (a b x y : List Pair) → a ≡ x → b ≡ y → failed (Unstable (target_text d name) a b) ≡ failed (Unstable (target_text d name) x y)
  unstable_same a b x y e f = ap₂ (λ (p q : List Pair). failed (Unstable (target_text d name) p q)) e f

  same_place : (p q : ℕ) (t u : Target) → IsAlternative d name set p t → IsAlternative d name set q u → p ≡ q
  same_place p q t u one other = let e = same_choice (choices.One (suc p)) (choices.One (suc q)) one.choice other.choice in cc

  same_target : (p q : ℕ) (t u : Target) → IsAlternative d name set p t → IsAlternative d name set q u → t ≡ u
  same_target p q t u one other = let e = ap (slice_get (alternatives d name)) (same_place p q t u one other) in let both : Some t ≡ Some u = sym one.at ∙ e ∙ other.at in cc

  settled_at : (t u : Target) (x : List Pair) → t ≡ u → IsSettled (answer d returned name) (features d) full (requirements d u) x → IsSettled (answer d returned name) (features d) full (requirements d t) x
  settled_at t u x e out = subst (λ (v : Target). IsSettled (answer d returned name) (features d) full (requirements d v) x) (sym e) out

  unstable_at : (t u : Target) (x y : List Pair) → t ≡ u → IsUnstable (answer d returned name) (features d) full (requirements d u) x y → IsUnstable (answer d returned name) (features d) full (requirements d t) x y
  unstable_at t u x y e out = subst (λ (v : Target). IsUnstable (answer d returned name) (features d) full (requirements d v) x y) (sym e) out

  asked_at : (t u : Target) (f : ChoiceFault E) → t ≡ u → IsAsked (answer d returned name) (features d) full (requirements d u) f → IsAsked (answer d returned name) (features d) full (requirements d t) f
  asked_at t u f e out = subst (λ (v : Target). IsAsked (answer d returned name) (features d) full (requirements d v) f) (sym e) out

  abbrev made : ℕ → Target → List Pair → Result Chosen (ChoiceFault E)
  made place t x = Ok (record { name = name; number = suc place; target = t; set = x })

  chosen_same : (p q : ℕ) (t u : Target) (x y : List Pair) → IsAlternative d name set p t → IsAlternative d name set q u → x ≡ y → made p t x ≡ made q u y
  chosen_same p q t u x y one other e =
      ap (λ place. made place t x) (same_place p q t u one other) ∙ ap (λ (v : Target). made q v x) (same_target p q t u one other) ∙ ap (made q u) e

  one : {a b : Result Chosen (ChoiceFault E)} → Chooses d returned name set a → Chooses d returned name set b → a ≡ b
  one (none h1) (none h2) = refl
  one (none h1) (two i2 k2 h2) = absurd (apart choices.None (choices.Ambiguous i2 k2) tt (same_choice choices.None (choices.Ambiguous i2 k2) h1 h2))
  one (none h1) (unsettled p2 t2 x2 y2 alt2 out2) = absurd (apart choices.None (choices.One (suc p2)) tt (same_choice choices.None (choices.One (suc p2)) h1 alt2.choice))
  one (none h1) (badly_answered p2 t2 f2 alt2 out2) = absurd (apart choices.None (choices.One (suc p2)) tt (same_choice choices.None (choices.One (suc p2)) h1 alt2.choice))
  one (none h1) (settled p2 t2 x2 alt2 out2) = absurd (apart choices.None (choices.One (suc p2)) tt (same_choice choices.None (choices.One (suc p2)) h1 alt2.choice))
  one (two i1 k1 h1) (none h2) = absurd (apart (choices.Ambiguous i1 k1) choices.None tt (same_choice (choices.Ambiguous i1 k1) choices.None h1 h2))
  one (two i1 k1 h1) (two i2 k2 h2) = two_same i1 k1 i2 k2 (same_choice (choices.Ambiguous i1 k1) (choices.Ambiguous i2 k2) h1 h2)
  one (two i1 k1 h1) (unsettled p2 t2 x2 y2 alt2 out2) = absurd (apart (choices.Ambiguous i1 k1) (choices.One (suc p2)) tt (same_choice (choices.Ambiguous i1 k1) (choices.One (suc p2)) h1 alt2.choice))
  one (two i1 k1 h1) (badly_answered p2 t2 f2 alt2 out2) = absurd (apart (choices.Ambiguous i1 k1) (choices.One (suc p2)) tt (same_choice (choices.Ambiguous i1 k1) (choices.One (suc p2)) h1 alt2.choice))
  one (two i1 k1 h1) (settled p2 t2 x2 alt2 out2) = absurd (apart (choices.Ambiguous i1 k1) (choices.One (suc p2)) tt (same_choice (choices.Ambiguous i1 k1) (choices.One (suc p2)) h1 alt2.choice))
  one (unsettled p1 t1 x1 y1 alt1 out1) (none h2) = absurd (apart (choices.One (suc p1)) choices.None tt (same_choice (choices.One (suc p1)) choices.None alt1.choice h2))
  one (unsettled p1 t1 x1 y1 alt1 out1) (two i2 k2 h2) = absurd (apart (choices.One (suc p1)) (choices.Ambiguous i2 k2) tt (same_choice (choices.One (suc p1)) (choices.Ambiguous i2 k2) alt1.choice h2))
  one (unsettled p1 t1 x1 y1 alt1 out1) (unsettled p2 t2 x2 y2 alt2 out2) = unstable_same x1 y1 x2 y2 (one_result _ x1 x2 out1.0 (unstable_at t1 t2 x2 y2 (same_target p1 p2 t1 t2 alt1 alt2) out2).0) (one_result _ y1 y2 out1.1 (unstable_at t1 t2 x2 y2 (same_target p1 p2 t1 t2 alt1 alt2) out2).1)
  one (unsettled p1 t1 x1 y1 alt1 out1) (badly_answered p2 t2 f2 alt2 out2) = absurd (unstable_has_no_fault (answer d returned name) (features d) full (requirements d t1) x1 y1 f2 out1 (asked_at t1 t2 f2 (same_target p1 p2 t1 t2 alt1 alt2) out2))
  one (unsettled p1 t1 x1 y1 alt1 out1) (settled p2 t2 x2 alt2 out2) = absurd (settled_is_stable (answer d returned name) (features d) full (requirements d t1) x2 x1 y1 (settled_at t1 t2 x2 (same_target p1 p2 t1 t2 alt1 alt2) out2) out1)
  one (badly_answered p1 t1 f1 alt1 out1) (none h2) = absurd (apart (choices.One (suc p1)) choices.None tt (same_choice (choices.One (suc p1)) choices.None alt1.choice h2))
  one (badly_answered p1 t1 f1 alt1 out1) (two i2 k2 h2) = absurd (apart (choices.One (suc p1)) (choices.Ambiguous i2 k2) tt (same_choice (choices.One (suc p1)) (choices.Ambiguous i2 k2) alt1.choice h2))
  one (badly_answered p1 t1 f1 alt1 out1) (unsettled p2 t2 x2 y2 alt2 out2) = absurd (unstable_has_no_fault (answer d returned name) (features d) full (requirements d t1) x2 y2 f1 (unstable_at t1 t2 x2 y2 (same_target p1 p2 t1 t2 alt1 alt2) out2) out1)
  one (badly_answered p1 t1 f1 alt1 out1) (badly_answered p2 t2 f2 alt2 out2) = ap failed (meets_one_fault (answer d returned name) (features d) full (requirements d t1) f1 f2 out1 (asked_at t1 t2 f2 (same_target p1 p2 t1 t2 alt1 alt2) out2))
  one (badly_answered p1 t1 f1 alt1 out1) (settled p2 t2 x2 alt2 out2) = absurd (settled_has_no_fault (answer d returned name) (features d) full (requirements d t1) x2 f1 (settled_at t1 t2 x2 (same_target p1 p2 t1 t2 alt1 alt2) out2) out1)
  one (settled p1 t1 x1 alt1 out1) (none h2) = absurd (apart (choices.One (suc p1)) choices.None tt (same_choice (choices.One (suc p1)) choices.None alt1.choice h2))
  one (settled p1 t1 x1 alt1 out1) (two i2 k2 h2) = absurd (apart (choices.One (suc p1)) (choices.Ambiguous i2 k2) tt (same_choice (choices.One (suc p1)) (choices.Ambiguous i2 k2) alt1.choice h2))
  one (settled p1 t1 x1 alt1 out1) (unsettled p2 t2 x2 y2 alt2 out2) = absurd (settled_is_stable (answer d returned name) (features d) full (requirements d t1) x1 x2 y2 out1 (unstable_at t1 t2 x2 y2 (same_target p1 p2 t1 t2 alt1 alt2) out2))
  one (settled p1 t1 x1 alt1 out1) (badly_answered p2 t2 f2 alt2 out2) = absurd (settled_has_no_fault (answer d returned name) (features d) full (requirements d t1) x1 f2 out1 (asked_at t1 t2 f2 (same_target p1 p2 t1 t2 alt1 alt2) out2))
  one (settled p1 t1 x1 alt1 out1) (settled p2 t2 x2 alt2 out2) = chosen_same p1 p2 t1 t2 x1 x2 alt1 alt2 (settles_on_one (answer d returned name) (features d) full (requirements d t1) x1 x2 out1 (settled_at t1 t2 x2 (same_target p1 p2 t1 t2 alt1 alt2) out2))

  abbrev Names : Result Chosen (ChoiceFault E) → Type 0
  Names (Ok c) = c.name ≡ name
  Names (Err fault) = Unit {0}

  named : {r : Result Chosen (ChoiceFault E)} → Chooses d returned name set r → Names r
  named (none h) = tt
  named (two i k h) = tt
  named (unsettled p t x y alt out) = tt
  named (badly_answered p t f alt out) = tt
  named (settled p t x alt out) = refl

pub one_choice_law : {E : Type 0} → OneChoice E
one_choice_law d returned name set a b first second = one d returned name set first second

pub names_itself : {E : Type 0} → NamesItself E
names_itself d returned name set c chosen = named d returned name set chosen
