use Rattle.std.proofs.Common.{◌≡◌, ℕ, Bool, true, List, [], ◌∷◌, ◌++◌, inl, inr, refl, sym, ap, subst, ◌∙◌, append_assoc, append-nil}
use Rattle.std.specs.List.{Contains}
use Rattle.std.proofs.lemmas.List.Elements.{Contains-append_left, Contains-append_right, Contains-append_cases}
use Rattle.b2_host.specs.declared.children.ChildEvent.{ChildEvent}
use Rattle.b2_host.specs.declared.children.ChildEvent.TheVariants.{Start, Done}
use Rattle.b2_host.specs.Disks.{Disk}
use Rattle.b2_runs.specs.Staleness.{Update}
use Rattle.b2_runs.specs.Events.{IsOpen}
use Rattle.b2_runs.specs.Runs.{IsRunSoFar, OpenEnds, IsBegun}
use Rattle.b2_runs.specs.Soundness.{IsLoose, IsAllowedChange}
use Rattle.b2_runs.specs.Afterwards.{IsNoted}
use Rattle.b2_runs.specs.StopLaws.{RunIsBegun, BegunGoesOn, BegunUpToStart, SoundBeforeEnds, NotedThroughEnds, NotedThoughTorn, BegunHoldsEarlier}
use Rattle.b2_runs.proofs.FirstElementOrLater.{Contains_here, Contains_cases, Contains_nil}
use Rattle.b2_runs.proofs.RunGoesOn.{run_has_begun}
use Rattle.b2_runs.proofs.NotedAfterEachEvent.{noted_after_change}

-- a start is none of some ends
start_not_done : (before rest : List ChildEvent) → OpenEnds before rest → (i : ℕ) → Contains rest (Start i) → ⊥
start_not_done before [] ends i c = Contains_nil (Start i) c
start_not_done before (Start k ∷ rest) ends i c = ends.0
start_not_done before (Done k well ∷ rest) ends i c = elim (Contains_cases (Done k well) (Start i) rest c) [
  | inl e ↦ absurd (let f : Done k well ≡ Start i = e in cc)
  | inr d ↦ start_not_done (before ++ Done k well ∷ []) rest ends.1 i d
]

-- each start of what has begun is before the ends
pub start_before : (u : Update) (events : List ChildEvent) (b : IsBegun u events) (i : ℕ) → Contains events (Start i) → Contains b.front (Start i)
start_before u events b i c = elim (Contains-append_cases b.front b.rest (Start i) (subst (λ l. Contains l (Start i)) b.whole c)) [
  | inl d ↦ d
  | inr d ↦ absurd (start_not_done b.front b.rest b.ends i d)
]

-- each event before the ends is one of all
pub event_after : (u : Update) (events : List ChildEvent) (b : IsBegun u events) (event : ChildEvent) → Contains b.front event → Contains events event
event_after u events b event c = subst (λ l. Contains l event) (sym b.whole) (Contains-append_left b.front b.rest event c)

pub run_is_begun : RunIsBegun
run_is_begun u events run = (record { front = events; rest = []; whole = sym (append-nil events); run = run; ends = tt }, refl)

pub more_ends : (before rest : List ChildEvent) (i : ℕ) (well : Bool) → OpenEnds before rest → IsOpen (before ++ rest) i → OpenEnds before (rest ++ Done i well ∷ [])
more_ends before [] i well ends opened = (subst (λ l. IsOpen l i) (append-nil before) opened, tt)
more_ends before (event ∷ rest) i well ends opened = (ends.0, more_ends (before ++ event ∷ []) rest i well ends.1 (subst (λ l. IsOpen l i) (sym (append_assoc before (event ∷ []) rest)) opened))

pub begun_goes_on : BegunGoesOn
begun_goes_on u events i well b opened = (
  record {
    front = b.front;
    rest = b.rest ++ Done i well ∷ [];
    whole = ap (λ (l : List ChildEvent). l ++ Done i well ∷ []) b.whole ∙ append_assoc b.front b.rest (Done i well ∷ []);
    run = b.run;
    ends = more_ends b.front b.rest i well b.ends (subst (λ l. IsOpen l i) b.whole opened);
  },
  refl,
)

-- where no start is among the last, a start is among the first
start_within : (front rest before after : List ChildEvent) (i : ℕ) → (Contains rest (Start i) → ⊥) → front ++ rest ≡ before ++ Start i ∷ after → (more : List ChildEvent) × (front ≡ before ++ Start i ∷ more)
start_within [] rest before after i none e = absurd (none (subst (λ l. Contains l (Start i)) (sym e) (Contains-append_right before (Start i ∷ after) (Start i) (Contains_here (Start i) after))))
start_within (x ∷ front) rest [] after i none e =
    let f : x ∷ (front ++ rest) ≡ Start i ∷ after = e in
    let same : x ≡ Start i = cc in
    (front, ap (λ (z : ChildEvent). z ∷ front) same)
start_within (x ∷ front) rest (y ∷ before) after i none e =
    let f : x ∷ (front ++ rest) ≡ y ∷ (before ++ Start i ∷ after) = e in
    let same : x ≡ y = cc in
    let tails : front ++ rest ≡ before ++ Start i ∷ after = cc in
    let (more, g) = start_within front rest before after i none tails in
    (more, (λ k. same k ∷ g k))

pub begun_up_to_start : BegunUpToStart
begun_up_to_start u events before after i b e =
    let (more, f) = start_within b.front b.rest before after i (start_not_done b.front b.rest b.ends i) (sym b.whole ∙ e) in
    run_has_begun u (before ++ Start i ∷ []) more (subst (IsRunSoFar u) (f ∙ sym (append_assoc before (Start i ∷ []) more)) b.run)

pub sound_before_ends : SoundBeforeEnds
sound_before_ends u events disk b s = record {
  keeps = s.keeps;
  entry_stood = s.entry_stood;
  records_true = s.records_true;
  distinct = s.distinct;
  done_well = λ i step path makes done. s.done_well i step path makes (event_after u events b (Done i true) done);
  only_outputs = λ path not_log unmade. s.only_outputs path not_log (λ i step started makes. unmade i step (start_before u events b i started) makes);
}

-- what is loose after the ends was so before them
loose_before : (u : Update) (events : List ChildEvent) (b : IsBegun u events) (i : ℕ) → IsLoose events i → IsLoose b.front i
loose_before u events b i l = (start_before u events b i l.0, λ done. l.1 (event_after u events b (Done i true) done))

pub change_before : (u : Update) (events : List ChildEvent) (before after : Disk) (b : IsBegun u events) → IsAllowedChange u events before after → IsAllowedChange u b.front before after
change_before u events before after b d = record {
  keeps = d.keeps;
  others = λ path not_log unmade. d.others path not_log (λ i step makes loose. unmade i step makes (loose_before u events b i loose));
  grows = d.grows;
}

pub noted_through_ends : NotedThroughEnds
noted_through_ends u events before after log b apart d n = noted_after_change u b.front before after log apart b.run (change_before u events before after b d) n

pub noted_though_torn : NotedThoughTorn
noted_though_torn u events now log after line (inl same) without with_line = subst (IsNoted u events now) (sym same) without
noted_though_torn u events now log after line (inr whole) without with_line = subst (IsNoted u events now) (sym whole) with_line

pub begun_holds_earlier : BegunHoldsEarlier
begun_holds_earlier u events before after i event b e c =
    let (more, f) = start_within b.front b.rest before after i (start_not_done b.front b.rest b.ends i) (sym b.whole ∙ e) in
    subst (λ l. Contains l event) (sym f) (Contains-append_left before (Start i ∷ more) event c)
