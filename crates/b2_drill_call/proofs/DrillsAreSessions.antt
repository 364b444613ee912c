-- What a session over the events of a drill is to the drill.
use Rattle.std.proofs.Common.{◌≡◌, ℕ, zero, suc, ◌<◌, ◌≤◌, ◌+◌, Bool, true, false, List, [], ◌∷◌, ◌++◌, take, length, refl, sym, ap, subst, ◌∙◌, arith}
use Rattle.std.proofs.Math.Seq.{take-length}
use Rattle.std.proofs.lemmas.Bool.{true≢false, and_parts}
use Rattle.std.proofs.lemmas.List.Sums.{sum_by-append}
use Rattle.std.specs.List.{AllByRecursion, count_by, list_all}
use Rattle.b2_drill.specs.declared.event.Event.{Event}
use Rattle.b2_drill.specs.Drills.{project_edit, first_edit, first_edits, update, rounds, drill_events}
use Rattle.b2_host.specs.Outside.{Outside}
use Rattle.b2_host.specs.Output.{Output}
use Rattle.b2_memory.specs.Hosts.{told_outside}
use Rattle.b2_memory.specs.Memories.{Memory, new_memory}
use Rattle.b2_memory.specs.Scripts.{risks_of, AreAmong}
use Rattle.b2_memory.specs.Sinks.{new_output}
use Rattle.b2_memory.specs.declared.memory.MemoryHost.{MemoryHost}
use Rattle.b2_sessions.specs.Courses.{HasRun, IsSessionOf}
use Rattle.b2_sessions.specs.Events.{gives_answer}
use Rattle.b2_sessions.specs.Results.{StopsBy}
use Rattle.b2_sessions.specs.Scenes.{scene_of}
use Rattle.b2_sessions.specs.declared.fault.SessionFault.{SessionFault}
use Rattle.b2_sessions.specs.declared.fault.SessionFault.TheVariants as faults
use Rattle.b2_sessions.proofs.RunsAreSessions.{is_session}
use Rattle.b2_top.specs.declared.answer.Answer.{Answer}
use Rattle.b2_top.specs.declared.answer.Answer.TheVariants as answers
use Rattle.b2_drill_call.specs.Drilled.{begun, RunsOver, HasAnswered, IsDrilled, is_well, GoesWithoutFaults}
use Rattle.b2_drill_call.proofs.DrillsGoWell.{IsDrillOf, goes_well}
use Rattle.b2_drill_laws.specs.Laws.{DrillsGoWell}

-- ---- seven updates

counts_append : (xs ys : List Event) → count_by gives_answer (xs ++ ys) ≡ count_by gives_answer xs + count_by gives_answer ys
counts_append xs ys = sum_by-append _ xs ys

edits_give_none : (n : ℕ) → count_by gives_answer (first_edits n) ≡ 0
unfolding first_edits
edits_give_none zero = refl
edits_give_none (suc n) = counts_append (first_edits n) (first_edit n ∷ []) ∙ ap (λ k. k + 0) (edits_give_none n)

rounds_give : (n : ℕ) → count_by gives_answer (rounds n 5) ≡ 5
unfolding rounds
rounds_give n = refl

pub updates_answer : (n : ℕ) → count_by gives_answer (drill_events n) ≡ 7
updates_answer n =
    let written : List Event = project_edit n ∷ [] ++ first_edits n in
    let one = counts_append (project_edit n ∷ []) (first_edits n) in
    let two = counts_append written (update ∷ []) in
    let three = counts_append (written ++ update ∷ []) (rounds n 5) in
    let four = counts_append (written ++ update ∷ [] ++ rounds n 5) (update ∷ []) in
    let none = edits_give_none n in
    let five = rounds_give n in
    omega (arith, one, two, three, four, none, five)

-- ---- the whole session

-- the same of another spelling of its events and of its sink
respelled : (list other : List Event) (before after : Outside) (given : List Answer) (first last : Output) → list ≡ other → first ≡ new_output
    → IsSessionOf list (record { host = before; out = first }) given (record { host = after; out = last }) → RunsOver other before given after
respelled list other before after given first last same new session =
    (last, subst (λ l. IsSessionOf l (begun before) given (record { host = after; out = last })) same (subst (λ o. IsSessionOf list (record { host = before; out = o }) given (record { host = after; out = last })) new session))

pub has_answered : (n : ℕ) (list : List Event) (before after : Outside) (given : List Answer) (first last : Output) → list ≡ drill_events n → first ≡ new_output
    → IsSessionOf list (record { host = before; out = first }) given (record { host = after; out = last }) → length given ≡ count_by gives_answer list → HasAnswered n before given after
has_answered n list before after given first last same new session one_each = record {
  session = respelled list (drill_events n) before after given first last same new session;
  each_answered = one_each ∙ ap (count_by gives_answer) same ∙ updates_answer n;
}

pub answered_well : DrillsGoWell → (n : ℕ) (before after : Outside) (given : List Answer) → HasAnswered n before given after → IsDrillOf n before after → GoesWithoutFaults n before after
answered_well law n before after given answered drill =
    goes_well law n (length (drill_events n)) before after given (subst (λ l. RunsOver l before given after) (sym (take-length (drill_events n))) answered.session) drill

-- ---- a session that stopped

-- so many events of a session over the drill
some_went_well : DrillsGoWell → (n count : ℕ) (list : List Event) (before after : MemoryHost) (given : List Answer) (first last : Output) → list ≡ drill_events n → first ≡ new_output
    → HasRun list count (scene_of before first) given (scene_of after last) → IsDrillOf n (told_outside before) (told_outside after) → GoesWithoutFaults n (told_outside before) (told_outside after)
some_went_well law n count list before after given first last same new ran drill =
    goes_well law n count (told_outside before) (told_outside after) given
    (respelled (take count list) (take count (drill_events n)) (told_outside before) (told_outside after) given first last (ap (take count) same) new
    (is_session (take count list) before first given (scene_of after last) ran.no_log_edit ran.ran))
    drill

pub stopped_well : DrillsGoWell → (n : ℕ) (list : List Event) (before after : MemoryHost) (first last : Output) (fault : SessionFault) → list ≡ drill_events n → first ≡ new_output
    → StopsBy list (scene_of before first) (scene_of after last) fault → IsDrillOf n (told_outside before) (told_outside after) → GoesWithoutFaults n (told_outside before) (told_outside after)
stopped_well law n list before after first last (faults.LogEdit index) same new stops drill = some_went_well law n index list before after stops.answers first last same new stops.ran drill
stopped_well law n list before after first last faults.OutOfMemory same new stops drill = some_went_well law n stops.count list before after stops.answers first last same new stops.ran drill

-- ---- what may go wrong

-- no call of the host may fail, and no child may end badly, where nothing was listed at the beginning
pub is_drill : (n : ℕ) (before after : Memory) → 0 < n → n ≤ 2000 → before ≡ new_memory → AreAmong after.outside.risks (risks_of before.listed) → IsDrillOf n before.outside after.outside
is_drill n before after some few new among = record {
  some = some;
  few = few;
  new = ap (λ (m : Memory). m.outside) new;
  may_fail = fails after.outside.risks.may_fail refl;
  may_end_badly = ends after.outside.risks.may_end_badly refl;
}
  where
    fails : (b : Bool) → after.outside.risks.may_fail ≡ b → b ≡ false
    fails true is = absurd (true≢false (sym (among.fail is) ∙ ap (λ (m : Memory). (risks_of m.listed).may_fail) new))
    fails false is = refl

    ends : (b : Bool) → after.outside.risks.may_end_badly ≡ b → b ≡ false
    ends true is = absurd (true≢false (sym (among.badly is) ∙ ap (λ (m : Memory). (risks_of m.listed).may_end_badly) new))
    ends false is = refl

-- ---- answers with the status 0

well_is_ok : (answer : Answer) → is_well answer ≡ true → answer ≡ answers.Ok
well_is_ok answers.Ok e = refl
well_is_ok (answers.Failed lists) e = absurd (true≢false (sym e))
well_is_ok (answers.Refused fault) e = absurd (true≢false (sym e))
well_is_ok answers.Usage e = absurd (true≢false (sym e))
well_is_ok answers.HostFault e = absurd (true≢false (sym e))
well_is_ok answers.OutOfMemory e = absurd (true≢false (sym e))
well_is_ok answers.SinkFault e = absurd (true≢false (sym e))

all_ok : (given : List Answer) → list_all is_well given ≡ true → AllByRecursion (λ answer. answer ≡ answers.Ok) given
all_ok [] e = tt
all_ok (answer ∷ given) e = let both = and_parts (is_well answer) (list_all is_well given) e in (well_is_ok answer both.0, all_ok given both.1)

pub drilled_well : (n : ℕ) (before after : Outside) (given : List Answer) (well : Bool) → HasAnswered n before given after → well ≡ list_all is_well given → well ≡ true → IsDrilled n before after
drilled_well n before after given well answered is holds = record { given = given; answered = answered; all_ok = all_ok given (sym is ∙ holds) }
