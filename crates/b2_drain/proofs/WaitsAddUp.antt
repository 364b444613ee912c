-- What waits do to a host adds up, whatever runs.
use Rattle.std.proofs.Common.{◌≡◌, ◌≢◌, ℕ, zero, suc, ◌+◌, ◌<◌, ◌≤◌, List, [], ◌∷◌, ◌++◌, inl, inr, ◌⊎◌, Bool, true, false, ◌&&◌, Result, Ok, Err, is_ok, refl, sym, ap, subst, arith, ◌∙◌, length, append_assoc, append-nil}
use Rattle.std.specs.List.{Contains}
use Rattle.std.proofs.lemmas.List.{nil_from_length}
use Rattle.std.proofs.lemmas.List.Edits.{length-remove}
use Rattle.std.proofs.lemmas.Option.{slice_get_within}
use Rattle.b2_base.specs.Counts.{Rose, greatest_count}
use Rattle.b2_host.specs.declared.children.ChildEvent.{ChildEvent}
use Rattle.b2_host.specs.declared.children.ChildEvent.TheVariants.{Done}
use Rattle.b2_host.specs.declared.fault.Failed.{Failed}
use Rattle.b2_host.specs.ChildProcesses.{Child}
use Rattle.b2_host.specs.ChildCalls.{Waits}
use Rattle.b2_host.specs.Outside.{Outside, Risks}
use Rattle.b2_host.specs.OutsideLaws.{Keeps, keeps_same, keeps_then, keeps_waits, then_rose}
use Rattle.b2_host.specs.ReadsAdded.{reads_waits}
use Rattle.b2_runs.specs.PlanChildren.{AreOfOpenSteps}
use Rattle.b2_runs.specs.UpdateAnswers.{WaitFailed, IsQuietHost, LeavesNone}
use Rattle.b2_runs.proofs.BegunUpToStart.{more_ends}
use Rattle.b2_runs.proofs.OpenStepsHaveChildren.{ends_open_step, open_steps_after_end, open_steps_after_failed_wait}
use Rattle.b2_runs.proofs.OthersAreLeft.{removed_among}
use Rattle.b2_drain.specs.Drains.{Made, AllWaited, WaitedForAllBut, WaitedOut, EndsCame, Drains}

-- one number is below another one, or is not
below_or_not : (a b : ℕ) → (a < b) ⊎ (b ≤ a)
below_or_not a zero = inr (omega arith)
below_or_not zero (suc b) = inl (omega arith)
below_or_not (suc a) (suc b) = elim (below_or_not a b) [ inl h ↦ inl (omega (arith, h)) | inr h ↦ inr (omega (arith, h)) ]

-- no wait, and none of as many as are left waited for
pub no_wait : (before : Outside) (rest : ℕ) → length before.children.running ≡ rest → Drains rest before before
no_wait before rest left = record {
  waited = inl (record { faults = refl; waits = refl; left = left });
  at_least = omega (arith, left);
  not_again = omega (arith, left);
  keeps = keeps_same before before refl;
  reads = refl;
  given = refl;
  fewer = λ child c. c;
  ends = λ events opened. record { ends = []; came = sym (append-nil before.children.events); open_ends = tt; left = subst (λ l. AreOfOpenSteps l before.children.running) (sym (append-nil events)) opened };
}

-- as one ends there is one less
one_less : (made : Made) (before after : Outside) (step : ℕ) (well : Bool) → Waits made before after (Ok (step, well)) → length after.children.running + 1 ≡ length before.children.running
one_less made before after step well w =
    let e = w.ended in
    subst (λ (l : List Child). length l + 1 ≡ length before.children.running) (sym e.running) (length-remove before.children.running e.place (slice_get_within before.children.running e.place e.child e.ran))

-- the children that run are those before but for one that ended, or all of them
fewer_run : (made : Made) (before after : Outside) (r : Result (ℕ × Bool) Failed) → Waits made before after r → (child : Child) → Contains after.children.running child → Contains before.children.running child
fewer_run made before after (Ok done) w child c =
    let e = w.ended in
    removed_among before.children.running e.place e.child e.ran child (subst (λ l. Contains l child) e.running c)
fewer_run made before after (Err e) w child c = subst (λ (o : Outside). Contains o.children.running child) w.same c

-- for each child but so many that is left a wait failed, also where none did
for_all_but : (rest : ℕ) (before after : Outside) → WaitedOut rest before after → WaitedForAllBut rest before after
for_all_but rest before after (inl all) = inl (let l = all.left in let w = all.waits in omega (arith, l, w))
for_all_but rest before after (inr (failed, but)) = but

-- where one more wait failed, one more child may be left
one_more_left : (top rest first before after left : ℕ) → before ≤ after → (before < top → before < after) → (left + first ≤ before + suc rest) ⊎ (top ≤ before) → (left + first ≤ after + rest) ⊎ (top ≤ after)
one_more_left top rest first before after left kept more (inl most) = elim (below_or_not before top) [
  | inl low ↦ inl (let rose = more low in omega (arith, most, rose))
  | inr high ↦ inr (omega (arith, high, kept))
]
one_more_left top rest first before after left kept more (inr high) = inr (omega (arith, high, kept))

-- where one more child ended, one less is left
one_more_ended : (top rest first before left now : ℕ) → now + 1 ≡ left → (left + first ≤ before + suc rest) ⊎ (top ≤ before) → (now + first ≤ before + rest) ⊎ (top ≤ before)
one_more_ended top rest first before left now less (inl most) = inl (omega (arith, less, most))
one_more_ended top rest first before left now less (inr high) = inr high

-- all waits so far were answered, and so is one more
all_answered : (made : Made) (rest : ℕ) (x y z : Outside) (done : ℕ × Bool) → AllWaited (suc rest) x y → Waits made y z (Ok done) → AllWaited rest x z
all_answered made rest x y z done all w =
    let faults : z.faults ≡ y.faults = ap (λ (o : Outside). o.faults) w.same in
    let waits : z.failed_waits ≡ y.failed_waits = ap (λ (o : Outside). o.failed_waits) w.same in
    let less = one_less made y z done.0 done.1 w in
    record { faults = faults ∙ all.faults; waits = waits ∙ all.waits; left = (let l = all.left in omega (arith, less, l)) }

-- a wait failed before, and one more was answered
failed_before : (made : Made) (x y z : Outside) (done : ℕ × Bool) → WaitFailed x y → Waits made y z (Ok done) → WaitFailed x z
failed_before made x y z done failed w =
    let faults : z.faults ≡ y.faults = ap (λ (o : Outside). o.faults) w.same in
    let waits : z.failed_waits ≡ y.failed_waits = ap (λ (o : Outside). o.failed_waits) w.same in
    record { may = failed.may; faults = subst (Rose x.faults) (sym faults) failed.faults; waits = subst (Rose x.failed_waits) (sym waits) failed.waits }

-- one more wait failed
fails_now : (made : Made) (x y z : Outside) (e : Failed) → Keeps x y → Waits made y z (Err e) → WaitFailed x z
fails_now made x y z e keeps w = record {
  may = sym (ap (λ (k : Risks). k.wait_may_fail) keeps.risks) ∙ w.wait_may_fail;
  faults = then_rose x.faults y.faults z.faults keeps.faults w.rose;
  waits = then_rose x.failed_waits y.failed_waits z.failed_waits keeps.waits w.waits;
}

-- one wait more, and one child less to wait for
waited_out : (made : Made) (rest : ℕ) (x y z : Outside) (r : Result (ℕ × Bool) Failed) → Drains (suc rest) x y → Waits made y z r → WaitedOut rest x z
waited_out made rest x y z (Ok done) d w =
    let waits : z.failed_waits ≡ y.failed_waits = ap (λ (o : Outside). o.failed_waits) w.same in
    elim d.waited [
      | inl all ↦ inl (all_answered made rest x y z done all w)
      | inr (failed, but) ↦ inr (
        failed_before made x y z done failed w,
        subst (λ n. (length z.children.running + x.failed_waits ≤ n + rest) ⊎ (greatest_count ≤ n)) (sym waits)
            (one_more_ended greatest_count rest x.failed_waits y.failed_waits (length y.children.running) (length z.children.running) (one_less made y z done.0 done.1 w) but),
      )
    ]
waited_out made rest x y z (Err e) d w = inr (
  fails_now made x y z e d.keeps w,
  subst (λ (o : Outside). (length o.children.running + x.failed_waits ≤ z.failed_waits + rest) ⊎ (greatest_count ≤ z.failed_waits)) (sym w.same)
      (one_more_left greatest_count rest x.failed_waits y.failed_waits z.failed_waits (length y.children.running) w.waits.kept w.waits.more (for_all_but (suc rest) x y d.waited)),
)

-- so many are left at least, and one more for each wait that failed
record AreLeft (rest : ℕ) (before after : Outside) : Type 0 where
  at_least : rest ≤ length after.children.running
  not_again : after.failed_waits + rest ≤ before.failed_waits + length after.children.running

are_left : (made : Made) (rest : ℕ) (x y z : Outside) (r : Result (ℕ × Bool) Failed) → Drains (suc rest) x y → Waits made y z r → AreLeft rest x z
are_left made rest x y z (Ok done) d w =
    let waits : z.failed_waits ≡ y.failed_waits = ap (λ (o : Outside). o.failed_waits) w.same in
    let less = one_less made y z done.0 done.1 w in
    let low = d.at_least in
    record {
      at_least = omega (arith, less, low);
      not_again = (let lower = d.not_again in omega (arith, less, waits, lower));
    }
are_left made rest x y z (Err e) d w =
    let same : length z.children.running ≡ length y.children.running = ap (λ (o : Outside). length o.children.running) w.same in
    let low = d.at_least in
    let lower = d.not_again in
    let once = w.once in
    record { at_least = omega (arith, same, low); not_again = omega (arith, same, lower, once) }

-- the ends that came, and perhaps one more
ends_came : (made : Made) (x y z : Outside) (r : Result (ℕ × Bool) Failed) (events : List ChildEvent) → EndsCame events x y → Waits made y z r → EndsCame events x z
ends_came made x y z (Ok done) events so w =
    let e = w.ended in
    let last : List ChildEvent = Done done.0 done.1 ∷ [] in
    record {
      ends = so.ends ++ last;
      came = e.events ∙ ap (λ (l : List ChildEvent). l ++ last) so.came ∙ append_assoc x.children.events so.ends last;
      open_ends = more_ends events so.ends done.0 done.1 so.open_ends (ends_open_step (events ++ so.ends) made y.children z.children y.disk z.disk done.0 done.1 so.left e);
      left = subst (λ l. AreOfOpenSteps l z.children.running) (append_assoc events so.ends last) (open_steps_after_end (events ++ so.ends) made y.children z.children y.disk z.disk done.0 done.1 so.left e);
    }
ends_came made x y z (Err e) events so w = record {
  ends = so.ends;
  came = ap (λ (o : Outside). o.children.events) w.same ∙ so.came;
  open_ends = so.open_ends;
  left = open_steps_after_failed_wait (events ++ so.ends) y z so.left w;
}

given_same : (made : Made) (before after : Outside) (r : Result (ℕ × Bool) Failed) → Waits made before after r → after.children.given ≡ before.children.given
given_same made before after (Ok done) w = w.ended.given
given_same made before after (Err e) w = ap (λ (o : Outside). o.children.given) w.same

-- one wait more
pub one_more_wait : (made : Made) (rest : ℕ) (x y z : Outside) (r : Result (ℕ × Bool) Failed) → Drains (suc rest) x y → Waits made y z r → Drains rest x z
one_more_wait made rest x y z r d w =
    let left = are_left made rest x y z r d w in
    record {
      waited = waited_out made rest x y z r d w;
      at_least = left.at_least;
      not_again = left.not_again;
      keeps = keeps_then x y z d.keeps (keeps_waits made y z r w);
      reads = reads_waits made y z r w ∙ d.reads;
      given = given_same made y z r w ∙ d.given;
      fewer = λ child c. d.fewer child (fewer_run made y z r w child c);
      ends = λ events opened. ends_came made x y z r events (d.ends events opened) w;
    }

-- while one is left to wait for, a child runs
pub some_run : (rest : ℕ) (before after : Outside) → Drains (suc rest) before after → after.children.running ≢ []
some_run rest before after d none =
    let low = d.at_least in
    let e : length after.children.running ≡ 0 = ap length none in
    absurd (omega (arith, low, e))

pub quiet : (rest : ℕ) (before after : Outside) → Drains rest before after → IsQuietHost before after
quiet rest before after d = elim d.waited [ inl all ↦ inl (all.faults, all.waits) | inr (failed, but) ↦ inr failed ]

pub none_left : (before after : Outside) → Drains 0 before after → LeavesNone before after
none_left before after d = elim d.waited [
  | inl all ↦ inl (nil_from_length after.children.running all.left)
  | inr (failed, but) ↦ inr (failed, elim but [ inl most ↦ inl (omega (arith, most)) | inr high ↦ inr high ])
]

-- what a flag tells of all waits so far: each was answered, or one failed
abbrev pub IsAnswerOf : ℕ → Outside → Outside → Bool → Type 0
IsAnswerOf rest before after true = AllWaited rest before after
IsAnswerOf rest before after false = WaitFailed before after × (before.risks.may_fail ≡ true)

pub no_answer : (before : Outside) (rest : ℕ) → length before.children.running ≡ rest → IsAnswerOf rest before before true
no_answer before rest left = record { faults = refl; waits = refl; left = left }

-- one wait more, and whether it was answered
pub one_more_answer : (made : Made) (rest : ℕ) (x y z : Outside) (all : Bool) (r : Result (ℕ × Bool) Failed) → Drains (suc rest) x y → Waits made y z r → IsAnswerOf (suc rest) x y all → IsAnswerOf rest x z (all && is_ok r)
one_more_answer made rest x y z true (Ok done) d w all = all_answered made rest x y z done all w
one_more_answer made rest x y z false (Ok done) d w (failed, may) = (failed_before made x y z done failed w, may)
one_more_answer made rest x y z true (Err e) d w all = (fails_now made x y z e d.keeps w, sym (ap (λ (r : Risks). r.may_fail) d.keeps.risks) ∙ w.may_fail)
one_more_answer made rest x y z false (Err e) d w failed = (fails_now made x y z e d.keeps w, failed.1)

-- what the flag tells at the end
pub told_all : (rest : ℕ) (before after : Outside) (all : Bool) → IsAnswerOf rest before after all → all ≡ true → AllWaited rest before after
told_all rest before after true is e = is
told_all rest before after false is e = absurd (let h : false ≡ true = e in cc)

pub told_failed : (rest : ℕ) (before after : Outside) (all : Bool) → IsAnswerOf rest before after all → all ≡ false → WaitFailed before after × (before.risks.may_fail ≡ true)
told_failed rest before after true is e = absurd (let h : true ≡ false = e in cc)
told_failed rest before after false is e = is
