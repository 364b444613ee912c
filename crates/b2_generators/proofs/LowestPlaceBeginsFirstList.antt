-- The first, the only or the first two lists with one place more in front, in the order that compares place by place.
use Rattle.std.proofs.Common.{◌≡◌, ℕ, suc, ◌<◌, List, [], ◌∷◌, length, refl, sym, ◌∙◌, ap, ap₂, subst, ◌⊎◌, inl, inr, arith}
use Rattle.std.specs.Ordering.{nat_cmp, ordering_then}
use Rattle.std.specs.Cmp.{nat_cmp_is}
use Rattle.std.specs.Cmp.Lexicographic.{slice_cmp}
use Rattle.std.specs.declared.cmp.Ordering.TheVariants.{Less, Equal}
use Rattle.b2_base.specs.Bytes.{Before}
use Rattle.b2_generators.specs.Descents.{IsFirst, IsOnly, AreFirst}

-- after a place, what leads on are the lists from there
pub record Follows (Has : List ℕ → Type 0) (count place : ℕ) (After : List ℕ → Type 0) : Type 0 where
  pub forth : (rest : List ℕ) → length rest ≡ count → Has (place ∷ rest) → After rest
  pub back : (rest : List ℕ) → length rest ≡ count → After rest → Has (place ∷ rest)

-- a place begins a list that leads from here
abbrev pub Begins : (List ℕ → Type 0) → ℕ → ℕ → Type 0
Begins Has count place = (rest : List ℕ) × (length rest ≡ count) × Has (place ∷ rest)

-- ---- the order

itself : (n : ℕ) → nat_cmp n n ≡ Equal
itself n = sym (nat_cmp_is n n Equal refl)

below : (m n : ℕ) → m < n → nat_cmp m n ≡ Less
below m n lt = sym (nat_cmp_is m n Less lt)

before_same : (n : ℕ) (xs ys : List ℕ) → Before xs ys → Before (n ∷ xs) (n ∷ ys)
before_same n xs ys e = ap (λ o. ordering_then o (slice_cmp nat_cmp xs ys)) (itself n) ∙ e

before_lower : (m n : ℕ) (xs ys : List ℕ) → m < n → Before (m ∷ xs) (n ∷ ys)
before_lower m n xs ys lt = ap (λ o. ordering_then o (slice_cmp nat_cmp xs ys)) (below m n lt)

pub not_before_itself : (xs : List ℕ) → Before xs xs → ⊥
not_before_itself [] e = cc
not_before_itself (x ∷ xs) e = not_before_itself xs (sym (ap (λ o. ordering_then o (slice_cmp nat_cmp xs xs)) (itself x)) ∙ e)

-- ---- one place more in front

same_first : (p place : ℕ) (rest one : List ℕ) → p ≡ place → rest ≡ one → (p ∷ rest) ≡ (place ∷ one)
same_first p place rest one e f = ap₂ (λ (n : ℕ) (xs : List ℕ). n ∷ xs) e f

module _ (Has After : List ℕ → Type 0) (count place : ℕ) (follows : Follows Has count place After) where
  after_place : (p : ℕ) (rest : List ℕ) → Has (p ∷ rest) → length rest ≡ count → p ≡ place → After rest
  after_place p rest leads size e = follows.forth rest size (subst (λ n. Has (n ∷ rest)) e leads)

  -- the first list after the lowest place is the first
  pub first_more : (one : List ℕ) → ((p : ℕ) → Begins Has count p → (p ≡ place) ⊎ (place < p)) → IsFirst After count one → IsFirst Has (suc count) (place ∷ one)
  first_more one lowest is = record {
    has = follows.back one is.size is.has;
    size = ap suc is.size;
    first = go;
  }
    where
      same : (p : ℕ) (rest : List ℕ) → p ≡ place → (rest ≡ one) ⊎ Before one rest → ((p ∷ rest) ≡ (place ∷ one)) ⊎ Before (place ∷ one) (p ∷ rest)
      same p rest e (inl f) = inl (same_first p place rest one e f)
      same p rest e (inr b) = inr (subst (λ n. Before (place ∷ one) (n ∷ rest)) (sym e) (before_same place one rest b))

      at : (p : ℕ) (rest : List ℕ) → Has (p ∷ rest) → length rest ≡ count → (p ≡ place) ⊎ (place < p) → ((p ∷ rest) ≡ (place ∷ one)) ⊎ Before (place ∷ one) (p ∷ rest)
      at p rest leads size (inr lt) = inr (before_lower place p one rest lt)
      at p rest leads size (inl e) = same p rest e (is.first rest (after_place p rest leads size e) size)

      go : (other : List ℕ) → Has other → length other ≡ suc count → (other ≡ (place ∷ one)) ⊎ Before (place ∷ one) other
      go [] leads size = absurd (omega arith)
      go (p ∷ rest) leads size = let less : length rest ≡ count = omega arith in at p rest leads less (lowest p (rest, less, leads))

  -- the only list after the only place is the only one
  pub only_more : (one : List ℕ) → ((p : ℕ) → Begins Has count p → p ≡ place) → IsOnly After count one → IsOnly Has (suc count) (place ∷ one)
  only_more one alone is = record {
    has = follows.back one is.size is.has;
    size = ap suc is.size;
    only = go;
  }
    where
      go : (other : List ℕ) → Has other → length other ≡ suc count → other ≡ (place ∷ one)
      go [] leads size = absurd (omega arith)
      go (p ∷ rest) leads size =
          let less : length rest ≡ count = omega arith in
          let e = alone p (rest, less, leads) in
          same_first p place rest one e (is.only rest (after_place p rest leads less e) less)

  -- the first two lists after the lowest place are the first two
  pub both_more : (one two : List ℕ) → ((p : ℕ) → Begins Has count p → (p ≡ place) ⊎ (place < p)) → AreFirst After count one two → AreFirst Has (suc count) (place ∷ one) (place ∷ two)
  both_more one two lowest are = record {
    has = follows.back one are.size are.has;
    also = follows.back two are.same_size are.also;
    size = ap suc are.size;
    same_size = ap suc are.same_size;
    order = before_same place one two are.order;
    others = go;
  }
    where
      same : (p : ℕ) (rest : List ℕ) → p ≡ place → (rest ≡ one) ⊎ ((rest ≡ two) ⊎ Before two rest) → ((p ∷ rest) ≡ (place ∷ one)) ⊎ (((p ∷ rest) ≡ (place ∷ two)) ⊎ Before (place ∷ two) (p ∷ rest))
      same p rest e (inl f) = inl (same_first p place rest one e f)
      same p rest e (inr (inl f)) = inr (inl (same_first p place rest two e f))
      same p rest e (inr (inr b)) = inr (inr (subst (λ n. Before (place ∷ two) (n ∷ rest)) (sym e) (before_same place two rest b)))

      at : (p : ℕ) (rest : List ℕ) → Has (p ∷ rest) → length rest ≡ count → (p ≡ place) ⊎ (place < p) → ((p ∷ rest) ≡ (place ∷ one)) ⊎ (((p ∷ rest) ≡ (place ∷ two)) ⊎ Before (place ∷ two) (p ∷ rest))
      at p rest leads size (inr lt) = inr (inr (before_lower place p two rest lt))
      at p rest leads size (inl e) = same p rest e (are.others rest (after_place p rest leads size e) size)

      go : (other : List ℕ) → Has other → length other ≡ suc count → (other ≡ (place ∷ one)) ⊎ ((other ≡ (place ∷ two)) ⊎ Before (place ∷ two) other)
      go [] leads size = absurd (omega arith)
      go (p ∷ rest) leads size = let less : length rest ≡ count = omega arith in at p rest leads less (lowest p (rest, less, leads))

-- where one list alone follows the lowest place, the second list is the first one of the next place
module _ (Has After Later : List ℕ → Type 0) (count place next : ℕ) (follows : Follows Has count place After) (later : Follows Has count next Later) where
  pub next_second : (one two : List ℕ) → place < next → ((p : ℕ) → Begins Has count p → (p ≡ place) ⊎ ((p ≡ next) ⊎ (next < p))) → IsOnly After count one → IsFirst Later count two → AreFirst Has (suc count) (place ∷ one) (next ∷ two)
  next_second one two order places is first = record {
    has = follows.back one is.size is.has;
    also = later.back two first.size first.has;
    size = ap suc is.size;
    same_size = ap suc first.size;
    order = before_lower place next one two order;
    others = go;
  }
    where
      second : (p : ℕ) (rest : List ℕ) → p ≡ next → (rest ≡ two) ⊎ Before two rest → ((p ∷ rest) ≡ (next ∷ two)) ⊎ Before (next ∷ two) (p ∷ rest)
      second p rest e (inl f) = inl (same_first p next rest two e f)
      second p rest e (inr b) = inr (subst (λ n. Before (next ∷ two) (n ∷ rest)) (sym e) (before_same next two rest b))

      at : (p : ℕ) (rest : List ℕ) → Has (p ∷ rest) → length rest ≡ count → (p ≡ place) ⊎ ((p ≡ next) ⊎ (next < p)) → ((p ∷ rest) ≡ (place ∷ one)) ⊎ (((p ∷ rest) ≡ (next ∷ two)) ⊎ Before (next ∷ two) (p ∷ rest))
      at p rest leads size (inl e) = inl (same_first p place rest one e (is.only rest (after_place Has After count place follows p rest leads size e) size))
      at p rest leads size (inr (inl e)) = inr (second p rest e (first.first rest (after_place Has Later count next later p rest leads size e) size))
      at p rest leads size (inr (inr lt)) = inr (inr (before_lower next p two rest lt))

      go : (other : List ℕ) → Has other → length other ≡ suc count → (other ≡ (place ∷ one)) ⊎ ((other ≡ (next ∷ two)) ⊎ Before (next ∷ two) other)
      go [] leads size = absurd (omega arith)
      go (p ∷ rest) leads size = let less : length rest ≡ count = omega arith in at p rest leads less (places p (rest, less, leads))

-- of no places there is the empty list alone
pub nothing_only : (Has : List ℕ → Type 0) → Has [] → IsOnly Has 0 []
nothing_only Has holds = record { has = holds; size = refl; only = go }
  where
    go : (other : List ℕ) → Has other → length other ≡ 0 → other ≡ []
    go [] leads size = refl
    go (p ∷ rest) leads size = absurd (omega arith)

pub first_of_only : (Has : List ℕ → Type 0) (count : ℕ) (one : List ℕ) → IsOnly Has count one → IsFirst Has count one
first_of_only Has count one is = record { has = is.has; size = is.size; first = λ other leads size. inl (is.only other leads size) }
