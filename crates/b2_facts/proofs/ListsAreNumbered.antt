-- A list that is numbered last has its number, and the others have theirs.
use Rattle.std.proofs.Common.{◌≡◌, ◌⊎◌, inl, inr, ℕ, Bool, true, false, List, [], ◌∷◌, ◌++◌, length, Option, Some, None, slice_get, MatchOption, refl, sym, ap, subst, ◌∙◌}
use Rattle.std.specs.Global.{Vec}
use Rattle.std.specs.Ordering.{nat_cmp, is_eq, eq_by_cmp}
use Rattle.std.specs.Cmp.{IsEquivalence}
use Rattle.std.specs.Cmp.Lexicographic.{pointwise, slice_cmp, texts_ties, lists_ties}
use Rattle.std.specs.Str.{bytes_eq}
use Rattle.std.specs.BTreeMap.{BTreeMap, UpdatesBy, get_by}
use Rattle.std.specs.Map.{KeepsOthers, IsKeyTest, AreApart, lookup}
use Rattle.std.proofs.lemmas.Cmp.{nat_list_cmp_total, lists_total, eq_by_cmp_equiv}
use Rattle.std.proofs.lemmas.Bool.{cases_Bool}
use Rattle.std.proofs.lemmas.Slice.Eq.{bytes_eq-Decides, slice_eq-Decides}
use Rattle.b2_facts.specs.Lists.{AreNumbered, HasNoNumber, IsNumberOf, IsSameOrAdded}
use Rattle.b2_facts.specs.Facts.{Knowledge}
use Rattle.b2_facts.proofs.ListsAtPlaces.{some_is, none_some, get_stays, get_last, get_more}
use Rattle.b2_facts.proofs.FactsAreEntered.{ListsAre}

abbrev Dirs : Type 0
Dirs = List (List ℕ)

abbrev Numbers : Type 0
Numbers = BTreeMap (Vec (List ℕ)) ℕ

-- the number that a map has for a list
abbrev number_in : Numbers → Dirs → Option ℕ
number_in numbers dirs = get_by (λ (key : Vec (List ℕ)). slice_cmp (slice_cmp nat_cmp) dirs key.items) numbers

other_entries : {K X : Type 0} (eq : K → K → Bool) (test : K → Bool) (old new : List (K × X)) → KeepsOthers eq test old new → (other : K → Bool) → IsKeyTest eq other → AreApart test other → lookup other new ≡ lookup other old
unfolding KeepsOthers
other_entries eq test old new h = h

dirs_are : (xs ys : Dirs) → pointwise bytes_eq xs ys ≡ true → xs ≡ ys
dirs_are xs ys e = (slice_eq-Decides bytes_eq-Decides xs ys (pointwise bytes_eq xs ys) refl).0 e

-- what a map has after a list was given a number
numbers_after : (dirs : Dirs) (m n : Numbers) (w : Option ℕ) → UpdatesBy (λ (x : Vec (List ℕ)) (y : Vec (List ℕ)). slice_cmp (slice_cmp nat_cmp) x.items y.items) (λ (key : Vec (List ℕ)). slice_cmp (slice_cmp nat_cmp) dirs key.items) m n w
    → (other : Dirs) → ((other ≡ dirs) × (number_in n other ≡ w)) ⊎ (number_in n other ≡ number_in m other)
numbers_after dirs m n w h other = elim (cases_Bool (pointwise bytes_eq dirs other)) [
  | inl y ↦ (let same = dirs_are dirs other y in inl (sym same, subst (λ (o : Dirs). number_in n o ≡ w) same h.1))
  | inr apart_is ↦ inr (other_entries _ _ _ _ h.3 (λ (key : Vec (List ℕ)). is_eq (slice_cmp (slice_cmp nat_cmp) other key.items)) (λ x y. equiv.congr other x.items y.items) (λ x. apart x.items apart_is))
]
  where
    equiv : IsEquivalence (eq_by_cmp (slice_cmp (slice_cmp nat_cmp)))
    equiv = eq_by_cmp_equiv (lists_total nat_list_cmp_total)

    ties : (x y : Dirs) → pointwise bytes_eq x y ≡ is_eq (slice_cmp (slice_cmp nat_cmp) x y)
    ties x y = lists_ties (slice_cmp nat_cmp) texts_ties x y

    apart : (x : Dirs) → pointwise bytes_eq dirs other ≡ false → is_eq (slice_cmp (slice_cmp nat_cmp) dirs x) ≡ true → is_eq (slice_cmp (slice_cmp nat_cmp) other x) ≡ false
    apart x differ same = equiv.symm other x ∙ sym (equiv.congr dirs x other same) ∙ sym (ties dirs other) ∙ differ

pub list_found : (lists : List Dirs) (numbers : Numbers) (dirs : Dirs) (r : Option ℕ) → r ≡ number_in numbers dirs → AreNumbered lists numbers → MatchOption r (HasNoNumber lists dirs) (IsNumberOf lists dirs)
list_found lists numbers dirs None e is = λ n at. none_some n (e ∙ (is dirs n).1 at)
list_found lists numbers dirs (Some n) e is = record {
  there = (is dirs n).0 (sym e);
  only = λ other at. some_is other n (sym ((is dirs other).1 at) ∙ sym e);
}

pub list_place : (lists : List Dirs) (dirs list : Dirs) (n : ℕ) → n ≡ length lists → list ≡ dirs → slice_get (lists ++ list ∷ []) n ≡ Some dirs
list_place lists dirs list n e same = ap (slice_get (lists ++ list ∷ [])) e ∙ get_last lists list ∙ ap Some same

pub list_numbered : (lists : List Dirs) (numbers after : Numbers) (dirs key list : Dirs) (n : ℕ) → AreNumbered lists numbers → HasNoNumber lists dirs → n ≡ length lists → key ≡ dirs → list ≡ dirs
    → UpdatesBy (λ (x : Vec (List ℕ)) (y : Vec (List ℕ)). slice_cmp (slice_cmp nat_cmp) x.items y.items) (λ (k : Vec (List ℕ)). slice_cmp (slice_cmp nat_cmp) key k.items) numbers after (Some n) → AreNumbered (lists ++ list ∷ []) after
list_numbered lists numbers after dirs key list n is none n_is key_is list_is h other k = (has_list, has_number)
  where
    has_list : number_in after other ≡ Some k → slice_get (lists ++ list ∷ []) k ≡ Some other
    has_list e = elim (numbers_after key numbers after (Some n) h other) [
      | inl (same, found) ↦ (let one : n ≡ k = some_is n k (sym found ∙ e) in subst (λ (m : ℕ). slice_get (lists ++ list ∷ []) m ≡ Some other) one (list_place lists dirs list n n_is list_is ∙ ap Some (sym (same ∙ key_is))))
      | inr before ↦ get_stays lists (list ∷ []) k other ((is other k).0 (sym before ∙ e))
    ]

    -- a list that was there before has the number that it had
    had_number : slice_get lists k ≡ Some other → number_in after other ≡ Some k
    had_number e = elim (numbers_after key numbers after (Some n) h other) [
      | inl (same, found) ↦ absurd (none k (e ∙ ap Some (same ∙ key_is)))
      | inr before ↦ before ∙ (is other k).1 e
    ]

    has_number : slice_get (lists ++ list ∷ []) k ≡ Some other → number_in after other ≡ Some k
    has_number e = elim (get_more lists list k other e) [
      | inl before ↦ had_number before
      | inr (last, same) ↦ subst (λ (o : Dirs). number_in after o ≡ Some k) (key_is ∙ sym list_is ∙ same) (h.1 ∙ ap Some (n_is ∙ sym last))
    ]

-- the lists of facts
pub lists_are : (f : Knowledge) (dirs : Dirs) (new : List Dirs) (g : Knowledge) → IsSameOrAdded f.lists dirs new → g ≡ record f { lists = new } → ListsAre dirs f g
lists_are f dirs new g (inl same) e = inl (e ∙ ap (λ (ls : List Dirs). let r : Knowledge = record f { lists = ls } in r) same)
lists_are f dirs new g (inr more) e = inr (e ∙ ap (λ (ls : List Dirs). let r : Knowledge = record f { lists = ls } in r) more)
