use Rattle.std.proofs.Common.{◌≡◌, ℕ, ◌<◌, List, [], ◌∷◌, inl, inr, refl, arith}
use Rattle.std.specs.List.{Contains}
use Rattle.b2_host.specs.declared.children.ChildEvent.{ChildEvent}
use Rattle.b2_base.specs.Bytes.{Before}
use Rattle.b2_runs.specs.Staleness.{Update}
use Rattle.b2_runs.specs.Outcomes.{IsListOf, ArePathsOf, NoneStuck}
use Rattle.b2_runs.specs.Cycles.{IsStepCycle}
use Rattle.b2_runs.specs.AnswerLaws.{MayAnswerAllWent, AllWentLacksNothing, AllWentHasNoCycle, FailedHasNoCycle, ListsAreOne}
use Rattle.b2_runs.proofs.FirstElementOrLater.{same_ordered, Contains_here}
use Rattle.b2_runs.proofs.ClosureIsOne.{Before_irrefl, Before_trans}
use Rattle.b2_runs.proofs.OutputsAreClean.{wanted_is_clean}
use Rattle.b2_runs.proofs.SkippedExactly.{all_went_by_settled, all_went_misses_nothing}

pub may_answer_all_went : MayAnswerAllWent
may_answer_all_went u events disk apart sound ended given settled none_failed =
    let went = all_went_by_settled u events given settled none_failed in
    (ended, went, wanted_is_clean u events disk apart sound went)

-- a list without elements is empty
empty_list : {X : Type 0} (xs : List X) → ((x : X) → Contains xs x → ⊥) → xs ≡ []
empty_list [] none = refl
empty_list (x ∷ xs) none = absurd (none x (Contains_here x xs))

pub all_went_lacks_nothing : AllWentLacksNothing
all_went_lacks_nothing u events now lists apart (ended, went, clean) (also, none, are, lacks) = elim lacks [
  | inl some ↦ some (empty_list lists.failed (λ i c. went.none_failed i (are.failed.each i c)))
  | inr (inl some) ↦ some (empty_list lists.skipped (λ i c. went.none_skipped i (are.skipped.each i c)))
  | inr (inr some) ↦ some (empty_list lists.missing (λ path c. all_went_misses_nothing u events path apart ended.run.each went (are.missing.each path c)))
]

-- where none is stuck there is no cycle
pub none_stuck_none_cycle : (u : Update) (events : List ChildEvent) (list : List ℕ) → NoneStuck u events → IsStepCycle u events list → ⊥
none_stuck_none_cycle u events list none c =
    let stuck = c.starts.has in
    elim (none c.first stuck.left.needed) [ inl settled ↦ stuck.left.not_settled settled | inr (inl bad) ↦ stuck.left.not_failed bad | inr (inr skipped) ↦ stuck.not_skipped skipped ]

pub all_went_has_no_cycle : AllWentHasNoCycle
all_went_has_no_cycle u events now list (ended, went, clean) (also, cycle) = none_stuck_none_cycle u events list went.none_stuck cycle

pub failed_has_no_cycle : FailedHasNoCycle
failed_has_no_cycle u events now lists list (ended, none, are, lacks) (also, cycle) = none_stuck_none_cycle u events list none cycle

-- numbers with a property are one list, and so are paths
numbers_are_one : (P : ℕ → Type 0) (xs ys : List ℕ) → IsListOf P xs → IsListOf P ys → xs ≡ ys
numbers_are_one P xs ys p q = same_ordered (λ (i k : ℕ). i < k) (λ i h. omega (arith, h)) (λ i k l a b. omega (arith, a, b)) xs ys p.rising q.rising (λ i c. q.whole i (p.each i c)) (λ i c. p.whole i (q.each i c))

paths_are_one : (P : List ℕ → Type 0) (xs ys : List (List ℕ)) → ArePathsOf P xs → ArePathsOf P ys → xs ≡ ys
paths_are_one P xs ys p q = same_ordered Before Before_irrefl Before_trans xs ys p.rising q.rising (λ i c. q.whole i (p.each i c)) (λ i c. p.whole i (q.each i c))

pub lists_are_one : ListsAreOne
lists_are_one u events lists others p q =
    let failed = numbers_are_one _ lists.failed others.failed p.failed q.failed in
    let skipped = numbers_are_one _ lists.skipped others.skipped p.skipped q.skipped in
    let missing = paths_are_one _ lists.missing others.missing p.missing q.missing in
    λ i. record { failed = failed i; skipped = skipped i; missing = missing i }
