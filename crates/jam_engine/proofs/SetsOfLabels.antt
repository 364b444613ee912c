-- The places with one label are a set; a further place joins its set, or begins one.
use Rattle.std.proofs.Common.{◌≡◌, ◌⊎◌, inl, inr, ℕ, zero, suc, ◌+◌, ◌<◌, ◌≤◌, ◌==◌, Bool, true, false, List, [], ◌∷◌, ◌++◌, length, get_or, take, drop, Option, Some, refl, sym, ap, ◌∙◌, subst, arith, length-append}
use Rattle.std.proofs.lemmas.List.{length-take-le, take-append-drop}
use Rattle.std.specs.Prelude.{slice_get}
use Rattle.std.specs.List.{Contains, AllByRecursion, slice_set}
use Rattle.std.proofs.lemmas.Bool.{eqb-true, eqb-false, cases_lt}
use Rattle.std.proofs.lemmas.Option.{same_Some, slice_get_within, slice_get-get_or, get_or_from_slice_get}
use Rattle.std.proofs.lemmas.List.Elements.{Contains-append_left, Contains-append_right}
use Rattle.std.proofs.lemmas.List.Quantifiers.{all_pairs_push}
use Rattle.jam_graph.specs.declared.graph.Act.{Act}
use Rattle.jam_engine.specs.Acts.{Linked, IsSet, AreSets}
use Rattle.jam_engine.specs.Linking.{HasLabel, IsLabelSet, AreSetsOf, AddsTo, AreFirsts}
use Rattle.jam_engine.proofs.LabelsGrow.{none_some, set_here, set_there, set_length, all_map, all_both, all_at, at_front, one_label}

-- ---- lists by their places

pub get_front : {X : Type 0} (xs ys : List X) (k : ℕ) → k < length xs → slice_get (xs ++ ys) k ≡ slice_get xs k
get_front [] ys k low = absurd (omega (arith, low))
get_front (x ∷ xs) ys zero low = refl
get_front (x ∷ xs) ys (suc k) low = get_front xs ys k (omega (arith, low))

pub get_last : {X : Type 0} (xs : List X) (x : X) → slice_get (xs ++ x ∷ []) (length xs) ≡ Some x
get_last [] x = refl
get_last (y ∷ xs) x = get_last xs x

-- what stands at a place of a list that is longer by one
pub get_more : {X : Type 0} (xs : List X) (x : X) (k : ℕ) (y : X) → slice_get (xs ++ x ∷ []) k ≡ Some y → (slice_get xs k ≡ Some y) ⊎ ((k ≡ length xs) × (x ≡ y))
get_more xs x k y e = go (cases_lt k (length xs))
  where
    go : (k < length xs) ⊎ (length xs ≤ k) → (slice_get xs k ≡ Some y) ⊎ ((k ≡ length xs) × (x ≡ y))
    go (inl low) = inl (sym (get_front xs (x ∷ []) k low) ∙ e)
    go (inr past) =
        let within : k < length (xs ++ x ∷ []) = slice_get_within (xs ++ x ∷ []) k y e in
        let size : length (xs ++ x ∷ []) ≡ length xs + 1 = length-append xs (x ∷ []) in
        let last : k ≡ length xs = omega (arith, within, size, past) in
        inr (last, same_Some _ _ (sym (get_last xs x) ∙ ap (slice_get (xs ++ x ∷ [])) (sym last) ∙ e))

pub all_get : {X : Type 0} (P : X → Type 0) (xs : List X) (k : ℕ) (x : X) → AllByRecursion P xs → slice_get xs k ≡ Some x → P x
all_get P [] k x h e = absurd (none_some x e)
all_get P (y ∷ xs) zero x (one, more) e = subst P (same_Some y x e) one
all_get P (y ∷ xs) (suc k) x (one, more) e = all_get P xs k x more e

all_from : {X : Type 0} (P : X → Type 0) (xs : List X) → ((k : ℕ) (x : X) → slice_get xs k ≡ Some x → P x) → AllByRecursion P xs
all_from P [] f = tt
all_from P (x ∷ xs) f = (f 0 x refl, all_from P xs (λ k y e. f (suc k) y e))

pub contains_get : {X : Type 0} (xs : List X) (k : ℕ) (x : X) → slice_get xs k ≡ Some x → Contains xs x
contains_get xs k x e = (k, slice_get_within xs k x e, get_or_from_slice_get xs k x x e)

pub get_at : {X : Type 0} (xs : List X) (k : ℕ) → k < length xs → (x : X) × (slice_get xs k ≡ Some x)
get_at [] k low = absurd (omega (arith, low))
get_at (x ∷ xs) zero low = (x, refl)
get_at (x ∷ xs) (suc k) low = get_at xs k (omega (arith, low))

-- the head of a set has its own label
pub head_label : (ls : List (Option ℕ)) (label : ℕ) (set : List ℕ) → IsLabelSet ls label set → HasLabel ls label label
head_label ls label set h = let own : AllByRecursion (λ p. HasLabel ls p label) (label ∷ h.more) = subst (AllByRecursion (λ p. HasLabel ls p label)) h.begins h.own in own.0

head_is : (ls : List (Option ℕ)) (label : ℕ) (set : List ℕ) → IsLabelSet ls label set → slice_get set 0 ≡ Some label
head_is ls label set h = ap (λ (l : List ℕ). slice_get l 0) h.begins

-- ---- one label more

module _ (before : List (Option ℕ)) (place first : ℕ) (at : place ≡ length before) where
  abbrev labels : List (Option ℕ)
  labels = before ++ Some first ∷ []

  kept : (other one : ℕ) → HasLabel before other one → HasLabel labels other one
  kept other one label = get_front before (Some first ∷ []) other (slice_get_within before other (Some one) label) ∙ label

  last : HasLabel labels place first
  last = ap (slice_get labels) at ∙ get_last before (Some first)

  -- a label was there, or is the one of the next place
  from : (other one : ℕ) → HasLabel labels other one → HasLabel before other one ⊎ ((other ≡ place) × (first ≡ one))
  from other one label = go (get_more before (Some first) other (Some one) label)
    where
      go : HasLabel before other one ⊎ ((other ≡ length before) × (Some first ≡ Some one)) → HasLabel before other one ⊎ ((other ≡ place) × (first ≡ one))
      go (inl l) = inl l
      go (inr (e, s)) = inr (e ∙ sym at, same_Some _ _ s)

  before_place : (other one : ℕ) → HasLabel before other one → other < place
  before_place other one label = let low = slice_get_within before other (Some one) label in omega (arith, low, at)

  -- the set of another label stays
  stays : (label : ℕ) (set : List ℕ) → (first ≡ label → ⊥) → IsLabelSet before label set → IsLabelSet labels label set
  stays label set other h = record {
    more = h.more;
    begins = h.begins;
    rises = h.rises;
    own = all_map (λ p. HasLabel before p label) (λ p. HasLabel labels p label) set (λ p l. kept p label l) h.own;
    whole = λ p l. go p (from p label l);
  }
    where
      go : (p : ℕ) → HasLabel before p label ⊎ ((p ≡ place) × (first ≡ label)) → Contains set p
      go p (inl l) = h.whole p l
      go p (inr (e, same)) = absurd (other same)

  -- the set of its label, with it behind
  joined : (set : List ℕ) → IsLabelSet before first set → IsLabelSet labels first (set ++ place ∷ [])
  joined set h = record {
    more = h.more ++ place ∷ [];
    begins = ap (λ (l : List ℕ). l ++ place ∷ []) h.begins;
    rises = all_pairs_push (λ i k. i < k) set place h.rises (λ k d low. before_place (get_or set k d) first (all_at (λ p. HasLabel before p first) set (get_or set k d) h.own (k, low, same_get set k d low)));
    own = all_both (λ p. HasLabel labels p first) set (place ∷ []) (all_map (λ p. HasLabel before p first) (λ p. HasLabel labels p first) set (λ p l. kept p first l) h.own) (last, tt);
    whole = λ p l. go p (from p first l);
  }
    where
      same_get : (xs : List ℕ) (k d : ℕ) → k < length xs → get_or xs k (get_or xs k d) ≡ get_or xs k d
      same_get xs k d low = get_or_from_slice_get xs k (get_or xs k d) (get_or xs k d) (slice_get-get_or xs k d low)

      go : (p : ℕ) → HasLabel before p first ⊎ ((p ≡ place) × (first ≡ first)) → Contains (set ++ place ∷ []) p
      go p (inl l) = Contains-append_left set (place ∷ []) p (h.whole p l)
      go p (inr (e, same)) = Contains-append_right set (place ∷ []) p (subst (Contains (place ∷ [])) (sym e) (at_front place []))

  -- a set of its own
  alone : first ≡ place → ((p one : ℕ) → HasLabel before p one → one ≤ p) → IsLabelSet labels first (place ∷ [])
  alone same low = record {
    more = [];
    begins = ap (λ (n : ℕ). let l : List ℕ = n ∷ [] in l) (sym same);
    rises = λ i j d less within. absurd (omega (arith, less, within));
    own = (last, tt);
    whole = λ p l. go p (from p first l);
  }
    where
      go : (p : ℕ) → HasLabel before p first ⊎ ((p ≡ place) × (first ≡ first)) → Contains (place ∷ []) p
      go p (inl l) = let a = low p first l in let b = before_place p first l in absurd (omega (arith, a, b, same))
      go p (inr (e, s)) = subst (Contains (place ∷ [])) (sym e) (at_front place [])

-- the heads of two sets rise
abbrev HeadsRise : List ℕ → List ℕ → Type 0
HeadsRise a b = (i k : ℕ) → slice_get a 0 ≡ Some i → slice_get b 0 ≡ Some k → i < k

abbrev IsOne : List (Option ℕ) → List ℕ → Type 0
IsOne labels set = (label : ℕ) × IsLabelSet labels label set

module _ (before : List (Option ℕ)) (place first : ℕ) (sets : List (List ℕ)) (numbers : List ℕ) (h : AddsTo before place first sets numbers) where
  abbrev after : List (Option ℕ)
  after = before ++ Some first ∷ []

  counted : (number : ℕ) → length (numbers ++ number ∷ []) ≡ length after
  counted number = (let a = length-append numbers (number ∷ []) in let b = length-append before (Some first ∷ []) in let c = h.are.count in omega (arith, a, b, c))

  at_place : place ≡ length numbers
  at_place = h.next ∙ sym h.are.count

  -- ---- a place that begins a set

  pub begins_set : first ≡ place → AreSetsOf after (sets ++ (place ∷ []) ∷ []) (numbers ++ length sets ∷ [])
  begins_set same = record {
    count = counted (length sets);
    in_set = λ p n e. found p n (get_more numbers (length sets) p n e);
    sets_are = all_both (IsOne after) sets ((place ∷ []) ∷ []) (all_map (IsOne before) (IsOne after) sets (λ set one. (one.0, stays before place first h.next one.0 set (λ e. not_head one.0 set one.1 e) one.1)) h.are.sets_are)
        ((first, alone before place first h.next same (λ p one l. h.below p one l)), tt);
    rising = all_pairs_push HeadsRise sets (place ∷ []) h.are.rising rises;
  }
    where
      -- no set before has this label
      not_head : (label : ℕ) (set : List ℕ) → IsLabelSet before label set → first ≡ label → ⊥
      not_head label set one e =
          let low = before_place before place first h.next label label (head_label before label set one) in omega (arith, low, same, e)

      found : (p n : ℕ) → (slice_get numbers p ≡ Some n) ⊎ ((p ≡ length numbers) × (length sets ≡ n)) → (set : List ℕ) × (slice_get (sets ++ (place ∷ []) ∷ []) n ≡ Some set) × Contains set p
      found p n (inl e) =
          let (set, at, c) = h.are.in_set p n e in
          (set, get_front sets ((place ∷ []) ∷ []) n (slice_get_within sets n set at) ∙ at, c)
      found p n (inr (e, s)) = (
        place ∷ [],
        ap (slice_get (sets ++ (place ∷ []) ∷ [])) (sym s) ∙ get_last sets (place ∷ []),
        subst (Contains (place ∷ [])) (at_place ∙ sym e) (at_front place []),
      )

      rises : (k : ℕ) (d : List ℕ) → k < length sets → HeadsRise (get_or sets k d) (place ∷ [])
      rises k d low i j head last =
          let one : IsOne before (get_or sets k d) = all_get (IsOne before) sets k (get_or sets k d) h.are.sets_are (slice_get-get_or sets k d low) in
          let is : one.0 ≡ i = same_Some _ _ (sym (head_is before one.0 (get_or sets k d) one.1) ∙ head) in
          let less = before_place before place first h.next one.0 one.0 (head_label before one.0 (get_or sets k d) one.1) in
          let end : place ≡ j = same_Some _ _ last in
          omega (arith, is, less, end)

  -- ---- a place that joins one

  pub joins_set : (number : ℕ) (set : List ℕ) → first < place → slice_get numbers first ≡ Some number → slice_get sets number ≡ Some set
      → AreSetsOf after (slice_set sets number (set ++ place ∷ [])) (numbers ++ number ∷ [])
  joins_set number set less named at = record {
    count = counted number;
    in_set = λ p n e. found p n (get_more numbers number p n e);
    sets_are = all_from (IsOne after) (slice_set sets number (set ++ place ∷ [])) (λ k x e. one_at k x (k == number) refl e);
    rising = λ i j d low within. rises i j d low (subst (λ n. j < n) (set_length sets number (set ++ place ∷ [])) within);
  }
    where
      its : IsOne before set
      its = all_get (IsOne before) sets number set h.are.sets_are at

      has_first : Contains set first
      has_first =
          let (other, at₁, c) = h.are.in_set first number named in
          subst (λ (l : List ℕ). Contains l first) (same_Some _ _ (sym at₁ ∙ at)) c

      is_first : its.0 ≡ first
      is_first = one_label before first its.0 first (all_at (λ p. HasLabel before p its.0) set first its.1.own has_first) (h.itself less)

      own : IsLabelSet before first set
      own = subst (λ n. IsLabelSet before n set) is_first its.1

      longer : List ℕ
      longer = set ++ place ∷ []

      here : slice_get (slice_set sets number longer) number ≡ Some longer
      here = set_here sets number longer set at

      -- a set at another place has another label
      other_label : (k : ℕ) (x : List ℕ) (one : IsOne before x) → slice_get sets k ≡ Some x → (k ≡ number → ⊥) → first ≡ one.0 → ⊥
      other_label k x one e other same = go (cases_lt k number)
        where
          of_k : slice_get x 0 ≡ Some first
          of_k = head_is before one.0 x one.1 ∙ ap (λ (n : ℕ). let o : Option ℕ = Some n in o) (sym same)

          of_set : slice_get set 0 ≡ Some first
          of_set = head_is before first set own

          within_k : k < length sets
          within_k = slice_get_within sets k x e

          within_set : number < length sets
          within_set = slice_get_within sets number set at

          go : (k < number) ⊎ (number ≤ k) → ⊥
          go (inl low) =
              let r = h.are.rising k number [] low within_set first first (ap (λ (l : List ℕ). slice_get l 0) (get_or_from_slice_get sets k x [] e) ∙ of_k) (ap (λ (l : List ℕ). slice_get l 0) (get_or_from_slice_get sets number set [] at) ∙ of_set) in
              omega (arith, r)
          go (inr past) =
              let low : number < k = past_it (cases_lt number k) in
              let r = h.are.rising number k [] low within_k first first (ap (λ (l : List ℕ). slice_get l 0) (get_or_from_slice_get sets number set [] at) ∙ of_set) (ap (λ (l : List ℕ). slice_get l 0) (get_or_from_slice_get sets k x [] e) ∙ of_k) in
              omega (arith, r)
            where
              past_it : (number < k) ⊎ (k ≤ number) → number < k
              past_it (inl low) = low
              past_it (inr up) = absurd (other (omega (arith, up, past)))

      one_at : (k : ℕ) (x : List ℕ) (b : Bool) → (k == number) ≡ b → slice_get (slice_set sets number longer) k ≡ Some x → IsOne after x
      one_at k x true same e =
          let is : longer ≡ x = same_Some _ _ (sym here ∙ ap (slice_get (slice_set sets number longer)) (sym (eqb-true k number same)) ∙ e) in
          (first, subst (IsLabelSet after first) is (joined before place first h.next set own))
      one_at k x false other e =
          let was : slice_get sets k ≡ Some x = sym (set_there sets number k longer (eqb-false k number other)) ∙ e in
          let one : IsOne before x = all_get (IsOne before) sets k x h.are.sets_are was in
          (one.0, stays before place first h.next one.0 x (other_label k x one was (eqb-false k number other)) one.1)

      found_old : (p n : ℕ) (b : Bool) → (n == number) ≡ b → slice_get numbers p ≡ Some n → (x : List ℕ) × (slice_get (slice_set sets number longer) n ≡ Some x) × Contains x p
      found_old p n true same e =
          let is : n ≡ number = eqb-true n number same in
          let (x, at₁, c) = h.are.in_set p n e in
          let same_set : x ≡ set = same_Some _ _ (sym at₁ ∙ ap (slice_get sets) is ∙ at) in
          (longer, ap (slice_get (slice_set sets number longer)) is ∙ here, Contains-append_left set (place ∷ []) p (subst (λ (l : List ℕ). Contains l p) same_set c))
      found_old p n false other e =
          let (x, at₁, c) = h.are.in_set p n e in
          (x, set_there sets number n longer (eqb-false n number other) ∙ at₁, c)

      found : (p n : ℕ) → (slice_get numbers p ≡ Some n) ⊎ ((p ≡ length numbers) × (number ≡ n)) → (x : List ℕ) × (slice_get (slice_set sets number longer) n ≡ Some x) × Contains x p
      found p n (inl e) = found_old p n (n == number) refl e
      found p n (inr (e, s)) = (
        longer,
        ap (slice_get (slice_set sets number longer)) (sym s) ∙ here,
        Contains-append_right set (place ∷ []) p (subst (Contains (place ∷ [])) (at_place ∙ sym e) (at_front place [])),
      )

      -- each set has the head that it had
      head_at : (k : ℕ) (d : List ℕ) → k < length sets → (i : ℕ) → slice_get (get_or (slice_set sets number longer) k d) 0 ≡ Some i → slice_get (get_or sets k d) 0 ≡ Some i
      head_at k d low i e = go (k == number) refl
        where
          go : (b : Bool) → (k == number) ≡ b → slice_get (get_or sets k d) 0 ≡ Some i
          go true same =
              let is : k ≡ number = eqb-true k number same in
              let now : get_or (slice_set sets number longer) k d ≡ longer = get_or_from_slice_get (slice_set sets number longer) k longer d (ap (slice_get (slice_set sets number longer)) is ∙ here) in
              let was : get_or sets k d ≡ set = get_or_from_slice_get sets k set d (ap (slice_get sets) is ∙ at) in
              let head : slice_get longer 0 ≡ Some first = ap (λ (l : List ℕ). slice_get (l ++ place ∷ []) 0) own.begins in
              ap (λ (l : List ℕ). slice_get l 0) was ∙ head_is before first set own ∙ sym head ∙ sym (ap (λ (l : List ℕ). slice_get l 0) now) ∙ e
          go false other =
              let (x, was) = get_at sets k low in
              let now : slice_get (slice_set sets number longer) k ≡ Some x = set_there sets number k longer (eqb-false k number other) ∙ was in
              ap (λ (l : List ℕ). slice_get l 0) (get_or_from_slice_get sets k x d was) ∙ sym (ap (λ (l : List ℕ). slice_get l 0) (get_or_from_slice_get (slice_set sets number longer) k x d now)) ∙ e

      rises : (i j : ℕ) (d : List ℕ) → i < j → j < length sets → HeadsRise (get_or (slice_set sets number longer) i d) (get_or (slice_set sets number longer) j d)
      rises i j d low within a b first_head second_head =
          h.are.rising i j d low within a b (head_at i d (omega (arith, low, within)) a first_head) (head_at j d within b second_head)

-- ---- in a loop over all labels

-- the next label is as the loop needs it
pub adds_next : (acts : List Act) (labels : List (Option ℕ)) (place first : ℕ) (sets : List (List ℕ)) (numbers : List ℕ) → AreFirsts acts labels → place < length labels → HasLabel labels place first
    → AreSetsOf (take place labels) sets numbers → AddsTo (take place labels) place first sets numbers
adds_next acts labels place first sets numbers firsts low label are = record {
  next = sym size;
  low = firsts.least place first label;
  itself = λ less. front first (omega (arith, less, size)) ∙ firsts.itself place first label;
  below = λ other one l. firsts.least other one (sym (front other (slice_get_within (take place labels) other (Some one) l)) ∙ l);
  are = are;
}
  where
    size : length (take place labels) ≡ place
    size = length-take-le place labels (omega (arith, low))

    front : (k : ℕ) → k < length (take place labels) → slice_get (take place labels) k ≡ slice_get labels k
    front k less = sym (get_front (take place labels) (drop place labels) k less) ∙ ap (λ l. slice_get l k) (take-append-drop place labels)

-- the sets of all labels are the sets of linked acts
pub all_sets : (acts : List Act) (labels : List (Option ℕ)) (sets : List (List ℕ)) (numbers : List ℕ) → AreFirsts acts labels → AreSetsOf labels sets numbers → AreSets acts sets
all_sets acts labels sets numbers firsts are = record {
  each = all_map (IsOne labels) (λ set. (first : ℕ) × IsSet acts first set) sets (λ set one. (one.0, is_set one.0 set one.1)) are.sets_are;
  rising = are.rising;
  all = λ i low. stands i low;
}
  where
    is_set : (first : ℕ) (set : List ℕ) → IsLabelSet labels first set → IsSet acts first set
    is_set first set one = record {
      begins = (one.more, one.begins);
      rises = one.rises;
      linked = all_map (λ p. HasLabel labels p first) (λ p. Linked acts first p) set (λ p l. firsts.linked p first l) one.own;
      whole = λ k linked. one.whole k (firsts.same first k first linked (head_label labels first set one));
    }

    stands : (i : ℕ) → i < length acts → (set : List ℕ) × Contains sets set × Contains set i
    stands i low =
        let (n, e) = get_at numbers i (let a = are.count in let b = firsts.count in omega (arith, low, a, b)) in
        let (set, at, c) = are.in_set i n e in
        (set, contains_get sets n set at, c)
