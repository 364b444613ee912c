-- Pending members whose makers are settled are taken in, and are pending no longer.
use Rattle.std.proofs.Common.{Bool, ◌≡◌, ◌⊎◌, inl, inr, ℕ, ◌+◌, ◌<◌, ◌≤◌, List, [], ◌∷◌, ◌++◌, get_or, take, Some, Ok, slice_get, length, sym, ap, subst, ◌∙◌, arith}
use Rattle.std.specs.List.{Contains}
use Rattle.std.proofs.lemmas.Bool.{cases_lt}
use Rattle.std.proofs.lemmas.Option.{slice_get_within}
use Rattle.std.proofs.lemmas.List.Elements.{Contains-get_or, Contains-append_left, Contains-append_cases, Contains-push}
use Rattle.b2_host.specs.Outside.{Outside}
use Rattle.b2_host.specs.OutsideLaws.{only_one}
use Rattle.b2_plan.specs.declared.step.Step.{Step}
use Rattle.b2_plan.specs.declared.plan.Plan.{Plan}
use Rattle.b2_facts.specs.declared.file_facts.FileFacts.{FileFacts}
use Rattle.b2_facts.specs.Facts.{Knowledge, IsNumber, IsAbout, file_at}
use Rattle.b2_facts.specs.Growth as facts
use Rattle.b2_facts.proofs.ListsAtPlaces.{some_is, none_some, at_place, among_at}
use Rattle.b2_reach.specs.declared.reach.Reach.{Reach}
use Rattle.b2_reach.specs.declared.sights.Sights.{Sights}
use Rattle.b2_reach.specs.declared.due.Due.{Due}
use Rattle.b2_reach.specs.declared.due.Due.TheVariants as dues
use Rattle.b2_reach.specs.Files.{IsOfSettled}
use Rattle.b2_reach.specs.Reaches.{IsDone, IsTaken, IsTaken.waits, IsTaken.lacks, IsTaken.done, IsInOrder}
use Rattle.b2_reach.specs.Dues.{IsAfter}
use Rattle.b2_reach.specs.Steps.{WaitsOn, IsDoneOrWaits, Takes}
use Rattle.b2_reach.proofs.ReachGrows.{has_file, was_file, done_grows}
use Rattle.b2_reach.proofs.MembersAreAdded.{taken_more}
use Rattle.b2_reach.proofs.MembersComeIn.{wider}
use Rattle.b2_reach.proofs.WorkGoesOn.{waits_on_grows}

-- what is done, or waits, does so as facts grow and members come in
pub done_or_waits_grows : (steps : List Step) (roots : List (List ℕ)) (settled : ℕ → Type 0) (f g : Knowledge) (r q : Reach) (n : ℕ) → IsAbout steps roots f → IsNumber f n → facts.Grows f g → q.list ≡ r.list → ((m : ℕ) → Contains r.members m → Contains q.members m)
    → IsDoneOrWaits steps settled f r n → IsDoneOrWaits steps settled g q n
done_or_waits_grows steps roots settled f g r q n about is grown same more (inl done_so) = inl (λ later at.
    (let (file, known) = has_file steps roots f n about is in
    subst (λ list. IsDone steps settled g list q.members n later) (sym same) (done_grows steps settled settled f g r.list r.members q.members n file later (λ k so. so) grown more (was_file f g n file later grown known at) (done_so file known))))
done_or_waits_grows steps roots settled f g r q n about is grown same more (inr waits_so) = inr (waits_on_grows steps roots settled f g n about is grown waits_so)

-- a pending member that was taken is done, or waits on
pub taken_pending : {notes : Bool} (plan : Plan) (settled : ℕ → Type 0) (number : ℕ) (r q : Reach) (s t : Sights) (x y : Outside) (due : Due) → Takes notes plan settled number r s x q t y (Ok due) → Contains r.pending number → IsDoneOrWaits plan.steps settled t.facts q number
taken_pending plan settled number r q s t x y due took among = go due took.after_due
  where
    pending : Contains q.pending number
    pending = subst (λ l. Contains l number) (sym (ap (λ (p : Reach). p.pending) took.same)) among

    go : (due : Due) → ((file : FileFacts) → file_at t.facts number ≡ Some file → IsAfter plan.steps settled t.facts q.list q.members number file due) → IsDoneOrWaits plan.steps settled t.facts q number
    go dues.Nothing is = inl is
    go dues.Read is = inl is
    go dues.Wait is = inr (λ k file at made so. (is file at).1 k made so)
    go dues.Lack is = inr (λ k file at made so. none_some k (sym (is file at).unmade ∙ made))

-- those that are done are pending no longer
pub dropped_in_order : (steps : List Step) (settled : ℕ → Type 0) (f : Knowledge) (r : Reach) (kept : List ℕ) → IsInOrder steps settled f r → ((n : ℕ) → Contains r.pending n → IsDoneOrWaits steps settled f r n)
    → ((n : ℕ) → Contains kept n → Contains r.pending n × WaitsOn settled f n) → ((n : ℕ) → Contains r.pending n → Contains kept n ⊎ IsOfSettled settled f n) → IsInOrder steps settled f (record r { pending = kept })
dropped_in_order steps settled f r kept order done_so each whole = record {
  listed = order.listed;
  numbered = order.numbered;
  once = order.once;
  within = order.within;
  taken = λ place n file low at known. go n file known (order.taken place n file low at known);
  pending = λ n among. order.pending n (each n among).0;
  waiting = λ n file among known. order.waiting n file (each n among).0 known;
  lacks = order.lacks;
}
  where
    go : (n : ℕ) (file : FileFacts) → file_at f n ≡ Some file → IsTaken steps settled f r n file → IsTaken steps settled f (record r { pending = kept }) n file
    go n file known (lacks told none) = lacks told none
    go n file known (done is) = done is
    go n file known (waits among) = elim (whole n among) [
      | inl still ↦ waits still
      | inr of ↦ elim (done_so n among) [
        | inl is ↦ done (is file known)
        | inr on ↦ absurd (on of.number of.file of.file_is of.made of.so)
      ]
    ]

pub one_more_place : (P : ℕ → Type 0) (pending : List ℕ) (at number : ℕ) → slice_get pending at ≡ Some number → P number → ((place n : ℕ) → place < at → slice_get pending place ≡ Some n → P n) → (place n : ℕ) → place < at + 1 → slice_get pending place ≡ Some n → P n
one_more_place P pending at number is so each place n low place_is = elim (cases_lt place at) [
  | inl before ↦ each place n before place_is
  | inr past ↦ (let same : place ≡ at = omega (arith, low, past) in subst P (some_is number n (sym is ∙ subst (λ k. slice_get pending k ≡ Some n) same place_is)) so)
]

-- one more pending member is done, or waits on
pub done_next : {notes : Bool} (plan : Plan) (settled : ℕ → Type 0) (number at : ℕ) (first r q : Reach) (s t : Sights) (x y : Outside) (due : Due) → IsAbout plan.steps plan.roots s.facts → IsInOrder plan.steps settled s.facts r → r.pending ≡ first.pending → slice_get first.pending at ≡ Some number
    → Takes notes plan settled number r s x q t y (Ok due) → ((place n : ℕ) → place < at → slice_get first.pending place ≡ Some n → IsDoneOrWaits plan.steps settled s.facts r n)
    → (place n : ℕ) → place < at + 1 → slice_get first.pending place ≡ Some n → IsDoneOrWaits plan.steps settled t.facts q n
done_next plan settled number at first r q s t x y due about order same is took each place n low place_is =
    let number_among : Contains r.pending number = subst (λ l. Contains l number) (sym same) (among_at first.pending at number is) in
    one_more_place (IsDoneOrWaits plan.steps settled t.facts q) first.pending at number is (taken_pending plan settled number r q s t x y due took number_among)
    (λ k m below at_k.
    (let m_among : Contains r.pending m = subst (λ l. Contains l m) (sym same) (among_at first.pending k m at_k) in
    done_or_waits_grows plan.steps plan.roots settled s.facts t.facts r q m about (order.numbered m (order.pending m m_among)) took.grows.learns.grows (ap (λ (p : Reach). p.list) took.same) (wider plan.steps settled t.facts r q took.takes.gathers) (each k m below at_k)))
    place n low place_is

-- each pending place was taken
pub all_places : (P : ℕ → Type 0) (pending : List ℕ) (at : ℕ) → length pending ≤ at → ((place n : ℕ) → place < at → slice_get pending place ≡ Some n → P n) → (n : ℕ) → Contains pending n → P n
all_places P pending at past each n among =
    let (place, is) = at_place pending n among in
    let low = slice_get_within pending place n is in
    each place n (omega (arith, low, past)) is

-- ---- those that are kept

module _ (settled : ℕ → Type 0) (f : Knowledge) (pending kept : List ℕ) where
  -- one more is kept
  pub kept_each : (later : List ℕ) (i : ℕ) → i < length pending → later ≡ kept ++ get_or pending i 0 ∷ [] → WaitsOn settled f (get_or pending i 0) → ((n : ℕ) → Contains kept n → Contains pending n × WaitsOn settled f n)
      → (n : ℕ) → Contains later n → Contains pending n × WaitsOn settled f n
  kept_each later i low longer waits_so was n among = elim (Contains-append_cases kept (get_or pending i 0 ∷ []) n (subst (λ l. Contains l n) longer among)) [
    | inl old ↦ was n old
    | inr last ↦ (let e = only_one (get_or pending i 0) n last in (subst (Contains pending) e (Contains-get_or pending i 0 low), subst (WaitsOn settled f) e waits_so))
  ]

  pub kept_whole : (later : List ℕ) (i : ℕ) → i < length pending → later ≡ kept ++ get_or pending i 0 ∷ [] → ((n : ℕ) → Contains (take i pending) n → Contains kept n ⊎ IsOfSettled settled f n)
      → (n : ℕ) → Contains (take (i + 1) pending) n → Contains later n ⊎ IsOfSettled settled f n
  kept_whole later i low longer was n among = elim (taken_more pending i 0 n low among) [
    | inl old ↦ elim (was n old) [
      | inl still ↦ inl (subst (λ l. Contains l n) (sym longer) (Contains-append_left kept (get_or pending i 0 ∷ []) n still))
      | inr of ↦ inr of
    ]
    | inr e ↦ inl (subst (λ l. Contains l n) (sym longer) (subst (Contains (kept ++ get_or pending i 0 ∷ [])) e (Contains-push kept (get_or pending i 0))))
  ]

  -- one is of a settled step
  pub left_whole : (i : ℕ) → i < length pending → IsOfSettled settled f (get_or pending i 0) → ((n : ℕ) → Contains (take i pending) n → Contains kept n ⊎ IsOfSettled settled f n)
      → (n : ℕ) → Contains (take (i + 1) pending) n → Contains kept n ⊎ IsOfSettled settled f n
  left_whole i low of was n among = elim (taken_more pending i 0 n low among) [
    | inl old ↦ was n old
    | inr e ↦ inr (subst (IsOfSettled settled f) e of)
  ]
