use Rattle.std.proofs.Common.{◌≡◌, ℕ, List, [], ◌∷◌, ◌++◌, inl, inr, refl, sym, ap, subst, subst₂, ◌∙◌, append_assoc, Some}
use Rattle.std.specs.Option.{IfSome}
use Rattle.std.proofs.lemmas.List.Elements.{Contains-append_left, Contains-push}
use Rattle.b2_host.specs.Disks.{Folder, Disk}
use Rattle.b2_plan.specs.Sources.{Build, IsInRoots}
use Rattle.b2_runs.specs.Staleness.{Update, making}
use Rattle.b2_runs.specs.Outcomes.{IsCleanBuild}
use Rattle.b2_runs.specs.Soundness.{Distinguishes}
use Rattle.b2_runs.specs.Afterwards.{at_present}
use Rattle.b2_runs.specs.UpdateAnswers.{UpdateAnswer.all_went}
use Rattle.b2_runs.specs.Moments.{Moment}
use Rattle.b2_runs.specs.Sessions.{Happening, Happening.update, Happening.stop, IsTrueAt, HoldsOfPast, IsUpdateMaking, Happens, IsSession, IsAskedFor}
use Rattle.b2_runs.specs.SessionLaws.{SessionSplits, SessionEndsWith, UpdateLeavesClean, SessionEndsClean}
use Rattle.b2_runs.proofs.SourcesAreKept.{log_in_roots}
use Rattle.b2_runs.proofs.DiskStaysSound.{true_log_serves}
use Rattle.b2_runs.proofs.RecordIsTrue.{distinguishes_less}
use Rattle.b2_runs.proofs.CleanBySources.{clean_by_sources}
use Rattle.b2_runs.proofs.TrueThroughSession.{true_shown, so_shown, so_before, updates_leave_true, true_through_session}

-- a clean build of the files at entry is one of the sources as they stand, where none of these has changed
clean_now : (b : Build) (now : Folder) → ((path : List ℕ) → (IsInRoots b.roots path → ⊥) → now path ≡ b.folder path) → IsCleanBuild b now → IsCleanBuild (record b { folder = now }) now
clean_now b now same clean path c = elim (clean path c) [
  | inl (bytes, is, stands) ↦ inl (bytes, (clean_by_sources b now path (Some bytes) same).0 is, stands)
  | inr (i, step, makes, none) ↦ inr (i, step, makes, none)
]

pub update_leaves_clean : UpdateLeavesClean
update_leaves_clean u before after is distinct t =
    let did = is.did in
    let serves = true_log_serves u did.old (true_shown (making u) before did.old did.shows t) in
    let (log, is_log, h) = did.has (so_shown (Distinguishes u) after did.new did.shows_then distinct) serves in
    let b = (at_present u did.old.now log).build in
    subst (λ o. IfSome o (λ (disk : Disk). IsCleanBuild (record u.build { folder = disk.now }) disk.now)) (sym did.shows_then)
    (clean_now b did.new.now
    (λ path outside. h.changed path (λ e. outside (subst (IsInRoots u.build.roots) (sym e) (log_in_roots u.build did.apart))) (λ i step started makes. outside (did.apart.under_root i step path makes))) h.told.2)

-- ---- the last event of a session

module _ {X : Type 0} where
  -- a list with a last element is not empty
  some_last : (zs : List X) (z : X) → [] ≡ zs ++ z ∷ [] → ⊥
  some_last [] z e = let f : [] ≡ z ∷ [] = e in cc
  some_last (w ∷ zs) z e = let f : [] ≡ w ∷ (zs ++ z ∷ []) = e in cc

  -- the last of two lists that are one
  last_same : (xs ys : List X) (x y : X) → xs ++ x ∷ [] ≡ ys ++ y ∷ [] → x ≡ y
  last_same [] [] x y e = let f : x ∷ [] ≡ y ∷ [] = e in cc
  last_same [] (z ∷ ys) x y e = absurd (some_last ys y (let f : x ∷ [] ≡ z ∷ (ys ++ y ∷ []) = e in cc))
  last_same (z ∷ xs) [] x y e = absurd (some_last xs x (let f : z ∷ (xs ++ x ∷ []) ≡ y ∷ [] = e in (let g : xs ++ x ∷ [] ≡ [] = cc in sym g)))
  last_same (z ∷ xs) (w ∷ ys) x y e = last_same xs ys x y (let f : z ∷ (xs ++ x ∷ []) ≡ w ∷ (ys ++ y ∷ []) = e in cc)

module _ {Asked Answer : Type 0} (Follows : Asked → Answer → Moment → Moment → Type 0) where
  -- what happens splits
  happens_splits : (first last : Moment) (front rest : List (Happening Asked)) (answers : List Answer) → Happens Follows first (front ++ rest) answers last
      → (middle : Moment) × (here : List Answer) × (later : List Answer) × (answers ≡ here ++ later) × Happens Follows first front here middle × Happens Follows middle rest later last
  happens_splits first last [] rest answers s = (first, [], answers, refl, (refl, refl), s)
  happens_splits first last (h ∷ front) rest answers (next, here, later, e, comes, more) =
      let (middle, mine, others, f, s, r) = happens_splits next last front rest later more in
      (middle, here ++ mine, others, e ∙ ap (λ (l : List Answer). here ++ l) f ∙ sym (append_assoc here mine others), (next, here, mine, refl, comes, s), r)

  pub session_splits : SessionSplits Follows
  session_splits first last front rest answers (renewed, same, s) =
      let (middle, here, later, e, earlier, rest_follows) = happens_splits renewed last front rest answers s in
      (middle, here, later, e, (renewed, same, earlier), (middle, refl, rest_follows))

  -- a session that ends with something that is asked for is one before it, and that
  session_before : (asked : Asked) (answer : Answer) (first last : Moment) (happenings : List (Happening Asked)) (answers : List Answer) → IsSession Follows first (happenings ++ update asked ∷ []) (answers ++ answer ∷ []) last
      → (before : Moment) × (here : List Answer) × IsSession Follows first happenings here before × Follows asked answer before last
  session_before asked answer first last happenings answers (renewed, but_risks, s) =
      let (before, here, later, e, earlier, (next, mine, none, f, (other, one, is, idle), (nil, same))) = happens_splits renewed last happenings (update asked ∷ []) (answers ++ answer ∷ []) s in
      let g : later ≡ other ∷ [] = f ∙ (λ i. one i ++ nil i) in
      let one_answer : answer ≡ other = last_same answers here answer other (e ∙ ap (λ (l : List Answer). here ++ l) g) in
      (before, here, (renewed, but_risks, earlier), subst₂ (λ a w. Follows asked a before w) (sym one_answer) (sym same) is)

  pub session_ends_with : SessionEndsWith Follows
  session_ends_with asked answer first last happenings answers s = let (before, here, earlier, is) = session_before asked answer first last happenings answers s in (before, is)

-- what was asked for before the last event was asked for in a session
asked_before : (u asked : Update) (happenings : List (Happening Update)) → IsAskedFor happenings asked → IsAskedFor (happenings ++ update u ∷ []) asked
asked_before u asked happenings (inl c) = inl (Contains-append_left happenings (update u ∷ []) (update asked) c)
asked_before u asked happenings (inr c) = inr (Contains-append_left happenings (update u ∷ []) (stop asked) c)

pub session_ends_clean : SessionEndsClean
session_ends_clean m u first last happenings answers s distinct t =
    let (before, here, earlier, (make, is)) = session_before (IsUpdateMaking m) u all_went first last happenings answers s in
    let leave = updates_leave_true m in
    let so : (asked : Update) → IsAskedFor happenings asked → HoldsOfPast (Distinguishes asked) before =
    λ asked c. so_before (Distinguishes asked) before last (distinguishes_less asked) (leave.grows u all_went before last (make, is)) (distinct asked (asked_before u asked happenings c)) in
    let true_then : IsTrueAt m before = true_through_session (IsUpdateMaking m) Distinguishes m leave first before happenings here earlier so t in
    update_leaves_clean u before last is (distinct u (inl (Contains-push happenings (update u)))) (subst (λ k. IsTrueAt k before) (sym make) true_then)
