-- What the stamps of numbers tell of their marks, as a number is stamped and as the stamp rises.
use Rattle.std.proofs.Common.{◌≡◌, ◌⊎◌, inl, inr, ◌↔◌, ℕ, zero, suc, ◌<◌, ◌≤◌, Bool, true, List, [], ◌∷◌, length, get_or, set, nat_eq, sym, ◌∙◌, ap, subst, arith}
use Rattle.std.proofs.lemmas.Bool.{cases_eq, false≢true, eq-eqb, eqb-true}
use Rattle.std.proofs.lemmas.List.{get_or-set_same, get_or-set_other}
use Rattle.b2_paths.specs.MarkSets.{IsMarked, NoneMarked, marked_by, IsStamped}

-- a number is marked where it has the present stamp, which is not 0
pub marked_there : (stamps : List ℕ) (stamp i : ℕ) → IsMarked (marked_by stamps stamp) i → get_or stamps i 0 ≡ stamp
marked_there [] stamp i e = absurd (false≢true e)
marked_there (s ∷ stamps) stamp zero e = eqb-true s stamp e
marked_there (s ∷ stamps) stamp (suc i) e = marked_there stamps stamp i e

pub marked_back : (stamps : List ℕ) (stamp i : ℕ) → 0 < stamp → get_or stamps i 0 ≡ stamp → IsMarked (marked_by stamps stamp) i
marked_back [] stamp i some e = absurd (let h : 0 ≡ stamp = e in omega (arith, h, some))
marked_back (s ∷ stamps) stamp zero some e = eq-eqb s stamp e
marked_back (s ∷ stamps) stamp (suc i) some e = marked_back stamps stamp i some e

-- nothing has a stamp that is higher than all
pub none_marked : (stamps : List ℕ) (stamp next : ℕ) → IsStamped stamps stamp → stamp < next → NoneMarked (marked_by stamps next)
none_marked stamps stamp next is higher i marked = let e = marked_there stamps next i marked in let h = is.highest i in omega (arith, e, h, higher)

pub stamp_rises : (stamps : List ℕ) (stamp next : ℕ) → IsStamped stamps stamp → stamp < next → IsStamped stamps next
stamp_rises stamps stamp next is higher = record { some = omega (arith, higher); highest = λ i. let h = is.highest i in omega (arith, h, higher) }

-- without stamps none is marked
pub none_at_first : (stamp : ℕ) → NoneMarked (marked_by [] stamp)
none_at_first stamp i marked = false≢true marked

pub none_stamped : (stamp : ℕ) → 0 < stamp → IsStamped [] stamp
none_stamped stamp some = record { some = some; highest = λ i. omega arith }

-- stamps that read alike mark alike
pub marked_alike : (stamps others : List ℕ) (stamp : ℕ) → 0 < stamp → ((i : ℕ) → get_or others i 0 ≡ get_or stamps i 0) → (i : ℕ) → IsMarked (marked_by others stamp) i ↔ IsMarked (marked_by stamps stamp) i
marked_alike stamps others stamp some same i = ((λ m. marked_back stamps stamp i some (sym (same i) ∙ marked_there others stamp i m)), (λ m. marked_back others stamp i some (same i ∙ marked_there stamps stamp i m)))

pub stamped_alike : (stamps others : List ℕ) (stamp : ℕ) → ((i : ℕ) → get_or others i 0 ≡ get_or stamps i 0) → IsStamped stamps stamp → IsStamped others stamp
stamped_alike stamps others stamp same is = record { some = is.some; highest = λ i. let h = is.highest i in let e = same i in omega (arith, h, e) }

-- one number is stamped
pub one_stamped : (stamps : List ℕ) (stamp place : ℕ) → place < length stamps → IsStamped stamps stamp → IsStamped (set stamps place stamp) stamp
one_stamped stamps stamp place within is = record { some = is.some; highest = λ i. go i (cases_eq i place) }
  where
    go : (i : ℕ) → (i ≡ place) ⊎ (i ≡ place → ⊥) → get_or (set stamps place stamp) i 0 ≤ stamp
    go i (inl same) = let f = get_or-set_same stamps place stamp 0 within in omega (arith, ap (λ k. get_or (set stamps place stamp) k 0) same, f)
    go i (inr other) = let h = is.highest i in let e = get_or-set_other stamps place i stamp 0 other in omega (arith, h, e)

pub one_marked : (stamps : List ℕ) (stamp place : ℕ) → place < length stamps → IsStamped stamps stamp → (i : ℕ) → IsMarked (marked_by (set stamps place stamp) stamp) i ↔ ((i ≡ place) ⊎ IsMarked (marked_by stamps stamp) i)
one_marked stamps stamp place within is i = (
  λ m. there (marked_there (set stamps place stamp) stamp i m) (cases_eq i place),
  λ h. marked_back (set stamps place stamp) stamp i is.some (back h (cases_eq i place)),
)
  where
    there : get_or (set stamps place stamp) i 0 ≡ stamp → (i ≡ place) ⊎ (i ≡ place → ⊥) → (i ≡ place) ⊎ IsMarked (marked_by stamps stamp) i
    there e (inl same) = inl same
    there e (inr other) = inr (marked_back stamps stamp i is.some (sym (get_or-set_other stamps place i stamp 0 other) ∙ e))

    back : (i ≡ place) ⊎ IsMarked (marked_by stamps stamp) i → (i ≡ place) ⊎ (i ≡ place → ⊥) → get_or (set stamps place stamp) i 0 ≡ stamp
    back h (inl same) = subst (λ k. get_or (set stamps place stamp) k 0 ≡ stamp) (sym same) (get_or-set_same stamps place stamp 0 within)
    back (inl same) (inr other) = absurd (other same)
    back (inr m) (inr other) = get_or-set_other stamps place i stamp 0 other ∙ marked_there stamps stamp i m

-- a number is marked, where there was made room for it
pub marked_too : (stamps others : List ℕ) (flags : List Bool) (stamp place : ℕ) → place < length others → ((i : ℕ) → get_or others i 0 ≡ get_or stamps i 0) → IsStamped stamps stamp → marked_by stamps stamp ≡ flags
    → (i : ℕ) → IsMarked (marked_by (set others place stamp) stamp) i ↔ ((i ≡ place) ⊎ IsMarked flags i)
marked_too stamps others flags stamp place within same is view i =
    let one = one_marked others stamp place within (stamped_alike stamps others stamp same is) i in
    let alike = marked_alike stamps others stamp is.some same i in (
      λ m. elim (one.0 m) [ inl at ↦ inl at | inr old ↦ inr (subst (λ fs. IsMarked fs i) view (alike.0 old)) ],
      λ h. one.1 (elim h [ inl at ↦ inl at | inr old ↦ inr (alike.1 (subst (λ fs. IsMarked fs i) (sym view) old)) ]),
    )

-- whether a number was marked, by the stamp that is read
pub was_marked : (stamps : List ℕ) (flags : List Bool) (stamp place read : ℕ) → read ≡ get_or stamps place 0 → IsStamped stamps stamp → marked_by stamps stamp ≡ flags → (nat_eq read stamp ≡ true) ↔ IsMarked flags place
was_marked stamps flags stamp place read e is view = (
  λ h. subst (λ fs. IsMarked fs place) view (marked_back stamps stamp place is.some (sym e ∙ eqb-true read stamp h)),
  λ m. eq-eqb read stamp (e ∙ marked_there stamps stamp place (subst (λ fs. IsMarked fs place) (sym view) m)),
)
