-- What is known of what a step reads stays so as what was seen of an output is forgotten, whose maker is not settled.
use Rattle.std.proofs.Common.{◌≡◌, inl, inr, ℕ, ◌<◌, List, Some, None, slice_get, refl, sym, ap, subst, ◌∙◌}
use Rattle.std.specs.List.{slice_set}
use Rattle.std.proofs.lemmas.Bool.{cases_eq}
use Rattle.b2_plan.specs.declared.step.Step.{Step}
use Rattle.b2_sched.specs.Schedules.{IsSettled}
use Rattle.b2_facts.specs.declared.file_facts.FileFacts.{FileFacts}
use Rattle.b2_facts.specs.declared.file_facts.FileLook.TheVariants as seen
use Rattle.b2_facts.specs.Facts.{Knowledge, IsAbout, file_at, with_file}
use Rattle.b2_facts.specs.Asks.{IsGivenBy, IsGivenBy.made as given_made, IsNotGivenBy}
use Rattle.b2_facts.proofs.ListsAtPlaces.{some_is, none_some, set_here, set_there, set_length, among_at}
use Rattle.b2_reach.specs.declared.reach.Reach.{Reach}
use Rattle.b2_reach.specs.Files.{IsOwedBy, IsAtHand, IsAtHand.source as hand_source, IsAtHand.made as hand_made}
use Rattle.b2_reach.specs.Reaches.{Reaches, Reaches.first, Reaches.include, IsNumberOf, IsDone, IsDone.plain, IsDone.no_file, IsDone.gone, IsDone.found, IsTaken, IsTaken.waits, IsTaken.lacks, IsTaken.done, IsInOrder, IsOfStep}
use Rattle.b2_reach.specs.Laws.{ReachStaysAsForgotten}
use Rattle.b2_reach.proofs.ReachGrows.{has_file}

-- The file is as it was, or what was seen of it is forgotten, and its maker is not settled.
data IsLike (settled : ℕ → Type 0) (file later : FileFacts) : Type 0 where
  same : later ≡ file → IsLike settled file later
  forgotten : (number : ℕ) → file.maker ≡ Some number → (settled number → ⊥) → later.maker ≡ file.maker → later.scanned ≡ file.scanned → IsLike settled file later

made_not_none : (file : FileFacts) (number : ℕ) → file.maker ≡ Some number → file.maker ≡ None → ⊥
made_not_none file number made none = none_some number (sym none ∙ made)

scanned_like : (settled : ℕ → Type 0) (file later : FileFacts) → IsLike settled file later → later.scanned ≡ file.scanned
scanned_like settled file later (same e) = ap (λ (x : FileFacts). x.scanned) e
scanned_like settled file later (forgotten number made loose m s) = s

maker_like : (settled : ℕ → Type 0) (file later : FileFacts) → IsLike settled file later → later.maker ≡ file.maker
maker_like settled file later (same e) = ap (λ (x : FileFacts). x.maker) e
maker_like settled file later (forgotten number made loose m s) = m

owed_like : (steps : List Step) (settled : ℕ → Type 0) (file later : FileFacts) (number : ℕ) → IsLike settled file later → IsOwedBy steps file number → IsOwedBy steps later number
owed_like steps settled file later number like owed = record { made = maker_like settled file later like ∙ owed.made; step = owed.step; at = owed.at; owes = owed.owes }

-- a file at hand was not forgotten
hand_like : (steps : List Step) (settled : ℕ → Type 0) (file later : FileFacts) → IsLike settled file later → IsAtHand steps settled file → later ≡ file
hand_like steps settled file later (same e) hand = e
hand_like steps settled file later (forgotten number made loose m s) (hand_source stamp unmade outside stands) = absurd (made_not_none file number made unmade)
hand_like steps settled file later (forgotten number made loose m s) (hand_made k owed so) = absurd (loose (subst settled (some_is k number (sym owed.made ∙ made)) so))

given_like : (settled : ℕ → Type 0) (file later : FileFacts) → IsLike settled file later → IsGivenBy file → IsGivenBy later
given_like settled file later (same e) given = subst IsGivenBy (sym e) given
given_like settled file later (forgotten number made loose m s) given = given_made number (m ∙ made)

not_given_like : (settled : ℕ → Type 0) (file later : FileFacts) → IsLike settled file later → IsNotGivenBy file → IsNotGivenBy later
not_given_like settled file later (same e) none = subst IsNotGivenBy (sym e) none
not_given_like settled file later (forgotten number made loose m s) none = absurd (made_not_none file number made none.unmade)

module _ (steps : List Step) (roots : List (List ℕ)) (settled : ℕ → Type 0) (f : Knowledge) (n number : ℕ) (file : FileFacts) (about : IsAbout steps roots f) (known : file_at f n ≡ Some file) (made : file.maker ≡ Some number) (loose : settled number → ⊥) where
  abbrev blind : FileFacts
  blind = record file { seen = seen.Unasked; digest = None }

  abbrev later : Knowledge
  later = with_file f n blind

  -- what is known of each file afterwards
  like_after : (m : ℕ) (x : FileFacts) → file_at f m ≡ Some x → (y : FileFacts) × (file_at later m ≡ Some y) × IsLike settled x y
  like_after m x at = elim (cases_eq m n) [
    | inl e ↦ (
      blind,
      subst (λ k. slice_get (slice_set f.files n blind) k ≡ Some blind) (sym e) (set_here f.files n blind file known),
      (let is : file ≡ x = some_is file x (sym known ∙ subst (λ k. slice_get f.files k ≡ Some x) e at) in
          subst (λ z. IsLike settled z blind) is (forgotten number made loose refl refl)),
    )
    | inr other ↦ (x, set_there f.files n m blind other ∙ at, same refl)
  ]

  like_before : (m : ℕ) (x y : FileFacts) → file_at f m ≡ Some x → file_at later m ≡ Some y → IsLike settled x y
  like_before m x y before after = let z = like_after m x before in subst (IsLike settled x) (some_is z.0 y (sym z.1 ∙ after)) z.2

  done_like : (list : ℕ) (members : List ℕ) (m : ℕ) (x y : FileFacts) → IsLike settled x y → IsDone steps settled f list members m x → IsDone steps settled later list members m y
  done_like list members m x y like (plain given unscanned) = plain (given_like settled x y like given) (scanned_like settled x y like ∙ unscanned)
  done_like list members m x y like (no_file none) = no_file (record { number = none.number; made = maker_like settled x y like ∙ none.made; step = none.step; at = none.at; notfile = none.notfile })
  done_like list members m x y like (gone hand is) =
      let e = hand_like steps settled x y like hand in
      gone (subst (IsAtHand steps settled) (sym e) hand) (ap (λ (z : FileFacts). z.seen) e ∙ is)
  done_like list members m x y like (found targets hand at within) = found targets (subst (IsAtHand steps settled) (sym (hand_like steps settled x y like hand)) hand) at within

  taken_like : (r : Reach) (m : ℕ) (x y : FileFacts) → IsLike settled x y → IsTaken steps settled f r m x → IsTaken steps settled later r m y
  taken_like r m x y like (waits among) = waits among
  taken_like r m x y like (lacks told none) = lacks told (not_given_like settled x y like none)
  taken_like r m x y like (done is) = done (done_like r.list r.members m x y like is)

  in_order_like : (r : Reach) → IsInOrder steps settled f r → IsInOrder steps settled later r
  in_order_like r order = record {
    listed = order.listed;
    numbered = λ m among. (let is = order.numbered m among in (is.0, subst (λ k. m < k) (sym (set_length f.files n blind)) is.1));
    once = order.once;
    within = order.within;
    taken = λ place m y low at y_at.
        (let (x, x_at) = has_file steps roots f m about (order.numbered m (among_at r.members place m at)) in
        taken_like r m x y (like_before m x y x_at y_at) (order.taken place m x low at x_at));
    pending = order.pending;
    waiting = λ m y among y_at.
        (let (x, x_at) = has_file steps roots f m about (order.numbered m (order.pending m among)) in
        let like = like_before m x y x_at y_at in
        let w = order.waiting m x among x_at in
        record { scanned = scanned_like settled x y like ∙ w.scanned; number = w.number; owed = owed_like steps settled x y w.number like w.owed });
    lacks = λ told.
        (let (m, missing) = order.lacks told in
        let (y, y_at, like) = like_after m missing.file missing.file_is in
        (m, record { among = missing.among; file = y; file_is = y_at; missing = not_given_like settled missing.file y like missing.missing }));
  }

  of_step_like : (step : Step) (r : Reach) → IsOfStep steps settled step f r → IsOfStep steps settled step later r
  of_step_like step r is = record { dirs = is.dirs; ins = is.ins; each = λ m among. reaches_like_first step r.list m (is.each m among) }
    where
      reaches_like_first : (step : Step) (list m : ℕ) → Reaches steps settled f list (IsNumberOf f step.ins) m → Reaches steps settled later list (IsNumberOf later step.ins) m
      reaches_like_first step list j (first k at) = first k (record { path = at.path; path_is = at.path_is; among = at.among })
      reaches_like_first step list m (include k j x from at hand target) =
          let (y, y_at, like) = like_after k x at in
          include k j y (reaches_like_first step list k from) y_at (subst (IsAtHand steps settled) (sym (hand_like steps settled x y like hand)) hand) (record { targets = target.targets; found = target.found; among = target.among })

pub reach_stays_as_forgotten : ReachStaysAsForgotten
reach_stays_as_forgotten steps roots s step f r n number file about known made loose is = record {
  in_order = in_order_like steps roots (IsSettled s) f n number file about known made loose r is.in_order;
  of_step = of_step_like steps roots (IsSettled s) f n number file about known made loose step r is.of_step;
}
