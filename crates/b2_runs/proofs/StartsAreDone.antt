use Rattle.std.proofs.Common.{◌≡◌, ℕ, ◌+◌, suc, Bool, List, [], ◌∷◌, ◌++◌, length, ◌⊎◌, inl, inr, refl, sym, ap, subst, ◌∙◌, arith, count_by, append_assoc, append-nil}
use Rattle.std.specs.List.{Contains}
use Rattle.std.proofs.lemmas.List.Elements.{Contains-append_left, Contains-push}
use Rattle.b2_host.specs.declared.children.ChildEvent.{ChildEvent}
use Rattle.b2_host.specs.declared.children.ChildEvent.TheVariants.{Start, Done}
use Rattle.b2_plan.specs.declared.step.Step.{Step}
use Rattle.b2_runs.specs.Events.{IsOpen, is_start, is_done, FollowFrom, AreInOrder}
use Rattle.b2_runs.specs.StuckLaws.{StartsAreDone}
use Rattle.b2_runs.proofs.FirstElementOrLater.{Contains_here, Contains_there, Contains_cases, Contains_nil}
use Rattle.b2_runs.proofs.OneEventMore.{count_one, start_in_start, done_in_start, start_in_done, done_in_done}
use Rattle.b2_runs.proofs.RunIsInOrder.{run_is_in_order}

-- no number stands twice
abbrev pub AreApart : List ℕ → Type 0
AreApart [] = Unit {0}
AreApart (x ∷ xs) = (Contains xs x → ⊥) × AreApart xs

-- a list without one of its numbers
record Without (list : List ℕ) (i : ℕ) : Type 0 where
  rest : List ℕ
  shorter : length list ≡ suc (length rest)
  apart : AreApart rest
  kept : (k : ℕ) → Contains list k → (k ≡ i → ⊥) → Contains rest k
  among : (k : ℕ) → Contains rest k → Contains list k × (k ≡ i → ⊥)

without : (list : List ℕ) (i : ℕ) → AreApart list → Contains list i → Without list i
without [] i a c = absurd (Contains_nil i c)
without (x ∷ xs) i (new, a) c = go (Contains_cases x i xs c) (without xs i a)
  where
    go : (x ≡ i) ⊎ Contains xs i → (Contains xs i → Without xs i) → Without (x ∷ xs) i
    go (inl e) later = record {
      rest = xs;
      shorter = refl;
      apart = a;
      kept = λ k d differ. elim (Contains_cases x k xs d) [ inl f ↦ absurd (differ (sym f ∙ e)) | inr old ↦ old ];
      among = λ k d. (Contains_there x k xs d, λ f. new (subst (Contains xs) (f ∙ sym e) d));
    }
    go (inr d) later =
        let w = later d in
        let shorter = w.shorter in
        record {
          rest = x ∷ w.rest;
          shorter = ap suc shorter;
          apart = ((λ f. new (w.among x f).0), w.apart);
          kept = λ k f differ. elim (Contains_cases x k xs f) [
            | inl e ↦ subst (λ z. Contains (x ∷ w.rest) z) e (Contains_here x w.rest)
            | inr old ↦ Contains_there x k w.rest (w.kept k old differ)
          ];
          among = λ k f. elim (Contains_cases x k w.rest f) [
            | inl e ↦ (subst (λ z. Contains (x ∷ xs) z) e (Contains_here x xs), λ g. new (subst (Contains xs) (sym (e ∙ g)) d))
            | inr old ↦ (let (inside, differ) = w.among k old in (Contains_there x k xs inside, differ))
          ];
        }

-- These are the open steps, each once.
pub record AreOpens (events : List ChildEvent) (opens : List ℕ) : Type 0 where
  pub apart : AreApart opens
  pub each : (k : ℕ) → Contains opens k → IsOpen events k
  pub whole : (k : ℕ) → IsOpen events k → Contains opens k
  pub count : count_by is_start events ≡ count_by is_done events + length opens
  pub begun : (k : ℕ) (well : Bool) → Contains events (Done k well) → Contains events (Start k)

opens_start : (events : List ChildEvent) (i : ℕ) (opens : List ℕ) → AreOpens events opens → (Contains events (Start i) → ⊥) → AreOpens (events ++ Start i ∷ []) (i ∷ opens)
opens_start events i opens o new = record {
  apart = ((λ c. new (o.each i c).0), o.apart);
  each = λ k c. elim (Contains_cases i k opens c) [
    | inl e ↦ subst (IsOpen (events ++ Start i ∷ [])) e (Contains-push events (Start i), λ w d. new (o.begun i w (done_in_start events i i w d)))
    | inr old ↦ (Contains-append_left events (Start i ∷ []) (Start k) (o.each k old).0, λ w d. (o.each k old).1 w (done_in_start events i k w d))
  ];
  whole = λ k opened. elim (start_in_start events i k opened.0) [
    | inl old ↦ Contains_there i k opens (o.whole k (old, λ w d. opened.1 w (Contains-append_left events (Start i ∷ []) (Done k w) d)))
    | inr e ↦ subst (λ z. Contains (i ∷ opens) z) e (Contains_here i opens)
  ];
  count = (let f = count_one is_start events (Start i) in let g = count_one is_done events (Start i) in let h = o.count in omega arith);
  begun = λ k w d. Contains-append_left events (Start i ∷ []) (Start k) (o.begun k w (done_in_start events i k w d));
}

opens_done : (events : List ChildEvent) (i : ℕ) (well : Bool) (opens : List ℕ) → AreOpens events opens → IsOpen events i → (w : Without opens i) → AreOpens (events ++ Done i well ∷ []) w.rest
opens_done events i well opens o opened w = record {
  apart = w.apart;
  each = λ k c.
      let (old, differ) = w.among k c in (
        Contains-append_left events (Done i well ∷ []) (Start k) (o.each k old).0,
        λ v d. elim (done_in_done events i k well v d) [ inl before ↦ (o.each k old).1 v before | inr e ↦ differ (sym e.0) ],
      );
  whole = λ k open_k. w.kept k
      (o.whole k (start_in_done events i k well open_k.0, λ v d. open_k.1 v (Contains-append_left events (Done i well ∷ []) (Done k v) d)))
      (λ e. open_k.1 well (subst (λ j. Contains (events ++ Done i well ∷ []) (Done j well)) (sym e) (Contains-push events (Done i well))));
  count = (let f = count_one is_start events (Done i well) in let g = count_one is_done events (Done i well) in let h = o.count in let l = w.shorter in omega arith);
  begun = λ k v d. elim (done_in_done events i k well v d) [
    | inl before ↦ Contains-append_left events (Done i well ∷ []) (Start k) (o.begun k v before)
    | inr e ↦ Contains-append_left events (Done i well ∷ []) (Start k) (subst (λ j. Contains events (Start j)) e.0 opened.0)
  ];
}

opens_along : (steps : List Step) (jobs : ℕ) (before events : List ChildEvent) (opens : List ℕ) → AreOpens before opens → FollowFrom steps jobs before events → (later : List ℕ) × AreOpens (before ++ events) later
opens_along steps jobs before [] opens o r = (opens, subst (λ es. AreOpens es opens) (sym (append-nil before)) o)
opens_along steps jobs before (Start i ∷ events) opens o (m, r) =
    let (later, all) = opens_along steps jobs (before ++ Start i ∷ []) events (i ∷ opens) (opens_start before i opens o m.0) r in
    (later, subst (λ es. AreOpens es later) (append_assoc before (Start i ∷ []) events) all)
opens_along steps jobs before (Done i well ∷ events) opens o (m, r) =
    let w = without opens i o.apart (o.whole i m) in
    let (later, all) = opens_along steps jobs (before ++ Done i well ∷ []) events w.rest (opens_done before i well opens o m w) r in
    (later, subst (λ es. AreOpens es later) (append_assoc before (Done i well ∷ []) events) all)

no_opens : AreOpens [] []
no_opens = record {
  apart = tt;
  each = λ k c. absurd (Contains_nil k c);
  whole = λ k opened. absurd (Contains_nil (Start k) opened.0);
  count = refl;
  begun = λ k w d. absurd (Contains_nil (Done k w) d);
}

-- the steps that are open after events in order
pub opens_of : (steps : List Step) (jobs : ℕ) (events : List ChildEvent) → AreInOrder steps jobs events → (opens : List ℕ) × AreOpens events opens
opens_of steps jobs events r = opens_along steps jobs [] events [] no_opens r

-- where nothing is open, as many are done as were started
pub starts_are_done : StartsAreDone
starts_are_done u events run none = let (opens, o) = opens_of u.build.steps u.jobs events (run_is_in_order u events run) in go opens o
  where
    go : (opens : List ℕ) → AreOpens events opens → count_by is_start events ≡ count_by is_done events
    go [] o = let h = o.count in omega arith
    go (x ∷ xs) o = absurd (none x (o.each x (Contains_here x xs)))
