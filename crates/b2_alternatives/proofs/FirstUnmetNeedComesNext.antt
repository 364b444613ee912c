-- What comes next is what the first need that is not met asks for, and a need that was met stays met.
use Rattle.std.proofs.Common.{◌≡◌, ℕ, ◌+◌, ◌<◌, ◌≤◌, Bool, true, false, cond, not, ◌||◌, ◌&&◌, List, [], ◌∷◌, ◌++◌, Option, Some, None, is_some, take, drop, get_or, length, refl, sym, ◌∙◌, ap, ap₂, subst, arith, take-append-drop}
use Rattle.std.specs.List.{find, list_all}
use Rattle.std.specs.Option.{option_map_or}
use Rattle.std.proofs.lemmas.Bool.{and_parts, not-true, false≢true}
use Rattle.std.proofs.lemmas.List.{at_drop_more, at_drop_all}
use Rattle.std.proofs.lemmas.List.Folds.{list_any-append}
use Rattle.b2_references.specs.Names.{Name, is_same, is_among}
use Rattle.b2_references.specs.declared.meaning.Meaning.{Meaning}
use Rattle.b2_references.specs.declared.meaning.Meaning.TheVariants.{File, Targets, Nothing}
use Rattle.b2_alternatives.specs.declared.need.Need.{Need}
use Rattle.b2_alternatives.specs.declared.need.Next.{Next}
use Rattle.b2_alternatives.specs.declared.need.Next.TheVariants.{Complete, Missing, Due}
use Rattle.b2_alternatives.specs.declared.known.KnownNames.{KnownNames}
use Rattle.b2_alternatives.specs.Needs.{first_due, next_by, next_among}
use Rattle.b2_alternatives.specs.DependencyWork.{is_known, AreKnown, is_met_by, is_met, AreMet, is_complete, Finds}

-- ---- one need

-- the first name that is due, where a test tells what was generated
pub due_by : (done : List Name) (known : KnownNames) → AreKnown done known → (names : List Name) → find (λ name. not (is_known known name)) names ≡ first_due done names
due_by done known are [] = refl
due_by done known are (x ∷ xs) = ap₂ (λ (b : Bool) (o : Option Name). cond (not b) (Some x) o) (are.known x) (due_by done known are xs)

-- a need that is met asks for nothing
pub next_met : (done : List Name) (text : List ℕ) (m : Meaning) (after : Next) → is_met_by done m ≡ true → next_by done text m after ≡ after
next_met done text (File path) after e = refl
next_met done text (Targets names) after e = go (first_due done names) e
  where
    go : (o : Option Name) → not (is_some o) ≡ true → option_map_or Due o after ≡ after
    go None e = refl
    go (Some n) e = absurd (false≢true e)
next_met done text Nothing after e = absurd (false≢true e)

-- one that is not met asks for the same, whatever comes after it
pub next_unmet : (done : List Name) (text : List ℕ) (m : Meaning) (after : Next) → is_complete (next_by done text m Complete) ≡ false → next_by done text m after ≡ next_by done text m Complete
next_unmet done text (File path) after e = absurd (false≢true (sym e))
next_unmet done text (Targets names) after e = go (first_due done names) e
  where
    go : (o : Option Name) → is_complete (option_map_or Due o Complete) ≡ false → option_map_or Due o after ≡ option_map_or Due o Complete
    go None e = absurd (false≢true (sym e))
    go (Some n) e = refl
next_unmet done text Nothing after e = refl

-- ---- one more name is generated

due_stays : (done : List Name) (n : Name) (names : List Name) → is_some (first_due done names) ≡ false → is_some (first_due (done ++ n ∷ []) names) ≡ false
due_stays done n [] e = refl
due_stays done n (x ∷ xs) e = go (is_among done x) refl (due_stays done n xs)
  where
    go : (b : Bool) → is_among done x ≡ b → (is_some (first_due done xs) ≡ false → is_some (first_due (done ++ n ∷ []) xs) ≡ false) → is_some (first_due (done ++ n ∷ []) (x ∷ xs)) ≡ false
    go true a more =
        ap (λ b. is_some (cond (not b) (Some x) (first_due (done ++ n ∷ []) xs))) (list_any-append (is_same x) done (n ∷ []) ∙ ap (λ b. b || (is_same x n || false)) a)
        ∙ more (sym (ap (λ b. is_some (cond (not b) (Some x) (first_due done xs))) a) ∙ e)
    go false a more = absurd (false≢true (sym (sym (ap (λ b. is_some (cond (not b) (Some x) (first_due done xs))) a) ∙ e)))

met_by_stays : (done : List Name) (n : Name) (m : Meaning) → is_met_by done m ≡ true → is_met_by (done ++ n ∷ []) m ≡ true
met_by_stays done n (File path) e = refl
met_by_stays done n (Targets names) e = ap not (due_stays done n names (not-true (is_some (first_due done names)) e))
met_by_stays done n Nothing e = e

all_stay : (done : List Name) (n : Name) (xs : List Need) → list_all (is_met done) xs ≡ true → list_all (is_met (done ++ n ∷ [])) xs ≡ true
all_stay done n [] e = refl
all_stay done n (x ∷ xs) e =
    let parts = and_parts (is_met done x) (list_all (is_met done) xs) e in
    ap₂ ◌&&◌ (met_by_stays done n x.meaning parts.0) (all_stay done n xs parts.1)

-- what is met stays met
pub met_stays : (done : List Name) (n : Name) (needs : List Need) (place : ℕ) → AreMet done needs place → AreMet (done ++ n ∷ []) needs place
met_stays done n needs place are = record { within = are.within; met = all_stay done n (take place needs) are.met }

-- nothing is met at first
pub met_first : (done : List Name) (needs : List Need) (place : ℕ) → place ≡ 0 → AreMet done needs place
met_first done needs place e = subst (AreMet done needs) (sym e) (record { within = omega arith; met = refl })

-- ---- several needs

skips : (done : List Name) (xs ys : List Need) → list_all (is_met done) xs ≡ true → next_among done (xs ++ ys) ≡ next_among done ys
skips done [] ys e = refl
skips done (x ∷ xs) ys e =
    let parts = and_parts (is_met done x) (list_all (is_met done) xs) e in
    next_met done x.text x.meaning (next_among done (xs ++ ys)) parts.0 ∙ skips done xs ys parts.1

-- what is next is what is next from a place on, where all before it is met
from_place : (done : List Name) (needs : List Need) (place : ℕ) → AreMet done needs place → next_among done needs ≡ next_among done (drop place needs)
from_place done needs place are = ap (next_among done) (sym (take-append-drop place needs)) ∙ skips done (take place needs) (drop place needs) are.met

module _ (done : List Name) (needs : List Need) (i : ℕ) (x : Need) (within : i < length needs) (is : x ≡ get_or needs i x) where
  -- the first need that is not
  pub finds_here : (next : Next) → AreMet done needs i → next ≡ next_by done x.text x.meaning Complete → is_complete next ≡ false → Finds done needs i next
  finds_here next are e open_need = record {
    exact =
        e ∙ sym (next_unmet done x.text x.meaning (next_among done (drop (i + 1) needs)) (ap is_complete (sym e) ∙ open_need))
        ∙ ap (λ (n : Need). next_among done (n ∷ drop (i + 1) needs)) is ∙ sym (at_drop_more (next_among done) needs i x within) ∙ sym (from_place done needs i are);
    met = are;
  }

-- all needs are met
pub finds_none : (done : List Name) (needs : List Need) (i : ℕ) → length needs ≤ i → AreMet done needs i → Finds done needs (length needs) Complete
finds_none done needs i all are = record {
  exact = sym (at_drop_all (next_among done) needs i all) ∙ sym (from_place done needs i are);
  met = subst (AreMet done needs) same are;
}
  where
    same : i ≡ length needs
    same = let below = are.within in omega arith

-- what is next, or what another list of needs asks for where nothing is
abbrev next_or : Next → Next → Next
next_or Complete other = other
next_or (Missing text) other = Missing text
next_or (Due name) other = Due name

by_or : (done : List Name) (text : List ℕ) (m : Meaning) (after other : Next) → next_by done text m (next_or after other) ≡ next_or (next_by done text m after) other
by_or done text (File path) after other = refl
by_or done text (Targets names) after other = go (first_due done names)
  where
    go : (o : Option Name) → option_map_or Due o (next_or after other) ≡ next_or (option_map_or Due o after) other
    go None = refl
    go (Some n) = refl
by_or done text Nothing after other = refl

joined : (done : List Name) (xs ys : List Need) → next_among done (xs ++ ys) ≡ next_or (next_among done xs) (next_among done ys)
joined done [] ys = refl
joined done (x ∷ xs) ys = ap (next_by done x.text x.meaning) (joined done xs ys) ∙ by_or done x.text x.meaning (next_among done xs) (next_among done ys)

-- needs, and then others
pub joined_complete : (done : List Name) (xs ys : List Need) → Complete ≡ next_among done xs → next_among done (xs ++ ys) ≡ next_among done ys
joined_complete done xs ys e = joined done xs ys ∙ ap (λ n. next_or n (next_among done ys)) (sym e)

pub joined_open : (done : List Name) (xs ys : List Need) (next : Next) → next ≡ next_among done xs → is_complete next ≡ false → next ≡ next_among done (xs ++ ys)
joined_open done xs ys next e open_needs = go next open_needs ∙ ap (λ n. next_or n (next_among done ys)) e ∙ sym (joined done xs ys)
  where
    go : (n : Next) → is_complete n ≡ false → n ≡ next_or n (next_among done ys)
    go Complete e = absurd (false≢true (sym e))
    go (Missing text) e = refl
    go (Due name) e = refl

-- ---- what is due

found_is : (done names : List Name) (n : Name) → first_due done names ≡ Some n → is_among done n ≡ false
found_is done [] n e = cc
found_is done (x ∷ xs) n e = go (is_among done x) refl (found_is done xs n)
  where
    go : (b : Bool) → is_among done x ≡ b → (first_due done xs ≡ Some n → is_among done n ≡ false) → is_among done n ≡ false
    go true a more = more (sym (ap (λ b. cond (not b) (Some x) (first_due done xs)) a) ∙ e)
    go false a more =
        let here : Some x ≡ Some n = sym (ap (λ b. cond (not b) (Some x) (first_due done xs)) a) ∙ e in
        let same : x ≡ n = cc in
        subst (λ (m : Name). is_among done m ≡ false) same a

-- a main target that is due was not generated
pub due_new : (done : List Name) (needs : List Need) (name : Name) → next_among done needs ≡ Due name → is_among done name ≡ false
due_new done [] name e = cc
due_new done (x ∷ xs) name e = go x.meaning e (due_new done xs name)
  where
    by : (names : List Name) (o : Option Name) → first_due done names ≡ o → option_map_or Due o (next_among done xs) ≡ Due name → (next_among done xs ≡ Due name → is_among done name ≡ false) → is_among done name ≡ false
    by names None f e more = more e
    by names (Some n) f e more = let same : n ≡ name = cc in subst (λ (m : Name). is_among done m ≡ false) same (found_is done names n f)

    go : (m : Meaning) → next_by done x.text m (next_among done xs) ≡ Due name → (next_among done xs ≡ Due name → is_among done name ≡ false) → is_among done name ≡ false
    go (File path) e more = more e
    go (Targets names) e more = by names (first_due done names) refl e more
    go Nothing e more = cc

pub not_complete : (n : Next) → (n ≡ Complete → ⊥) → is_complete n ≡ false
not_complete Complete other = absurd (other refl)
not_complete (Missing text) other = refl
not_complete (Due name) other = refl
