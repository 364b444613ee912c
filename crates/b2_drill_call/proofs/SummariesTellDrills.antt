-- What is written at the end of a drill, and what its answer says.
use Rattle.std.proofs.Common.{◌≡◌, ℕ, List, ap, sym, subst, ◌∙◌, refl, inl, inr, Option, Some, None, Result, Ok, Err, arith}
use Rattle.std.specs.Option.{IfSome}
use Rattle.std.proofs.lemmas.Bool.{true≢false}
use Rattle.std.specs.List.{count_by}
use Rattle.b2_host.specs.declared.fault.IoFault.{IoFault}
use Rattle.b2_host.specs.declared.fault.IoFault.TheVariants as faults
use Rattle.b2_host.specs.Outside.{Outside}
use Rattle.b2_host.specs.Output.{Output}
use Rattle.b2_host.specs.OutputLaws.{OutKeeps}
use Rattle.b2_memory.specs.Memories.{new_memory}
use Rattle.b2_refusals.specs.Lines.{usage_line}
use Rattle.b2_runs.specs.Events.{is_start}
use Rattle.b2_runs.specs.Moments.{Moment}
use Rattle.b2_top.specs.Endings.{IsUsageOrCutShort}
use Rattle.b2_top.specs.Writing.{Writes, unwritten, Says}
use Rattle.b2_top.specs.Writing.Says.{said, failed, stopped}
use Rattle.b2_top.specs.declared.answer.Answer.{Answer}
use Rattle.b2_top.specs.declared.answer.Answer.TheVariants as answers
use Rattle.b2_command_line.specs.Words.{Word}
use Rattle.b2_drill_call.specs.Asked.{drill_of}
use Rattle.b2_drill_call.specs.Drilled.{IsDrilled, HasDrilled, AnswersDrill, GoesWithoutFaults, summary_line}
use Rattle.b2_drill_call.proofs.DrillsGoWell.{goes_nowhere}

-- what a line that was said keeps of the sink
pub says_keeps : (answer : Answer) (bytes : List ℕ) (before after : Output) (result : Answer) → Says answer bytes before after result → OutKeeps before after
says_keeps answer bytes before after result (said is same) = subst (OutKeeps before) (sym same) (record { faults = omega arith; no_fault = λ none. refl; may_fail = refl })
says_keeps answer bytes before after result (failed is fails) = record {
  faults = fails.sink.faults.kept;
  no_fault = λ none. absurd (true≢false (sym fails.sink.may ∙ none));
  may_fail = fails.may_fail;
}
says_keeps answer bytes before after result (stopped is stops) = subst (OutKeeps before) (sym stops.same) (record { faults = omega arith; no_fault = λ none. refl; may_fail = refl })

-- the drill went well, and its summary was said
pub summed : (n : ℕ) (before after : Outside) (out later : Output) (result : Answer) → IsDrilled n before after
    → Says answers.Ok (summary_line n (count_by is_start after.children.events)) out later result
    → HasDrilled n (record { host = before; out = out }) (record { host = after; out = later }) result
summed n before after out later result drilled (said is same) = subst (HasDrilled n (record { host = before; out = out }) (record { host = after; out = later })) (sym is) (drilled, same)
summed n before after out later result drilled (failed is fails) = subst (HasDrilled n (record { host = before; out = out }) (record { host = after; out = later })) (sym is) fails.sink
summed n before after out later result drilled (stopped is stops) = subst (HasDrilled n (record { host = before; out = out }) (record { host = after; out = later })) (sym is) (ap (λ (o : Output). o.faults) stops.same)

-- the words ask for the drill
pub asked_for : (words : List Word) (n : ℕ) (before after : Moment) (result : Answer) → drill_of words ≡ Some n → HasDrilled n before after result → AnswersDrill words before after result
asked_for words n before after answers.Ok asked has = record { n = n; asked = asked; drilled = has.0; written = has.1 }
asked_for words n before after (answers.Failed lists) asked has = has
asked_for words n before after (answers.Refused fault) asked has = has
asked_for words n before after answers.Usage asked has = absurd has
asked_for words n before after answers.HostFault asked has = has
asked_for words n before after answers.OutOfMemory asked has = has
asked_for words n before after answers.SinkFault asked has = has

-- the words ask for none, and the usage line was said
pub refused : (words : List Word) (before after : Moment) (result : Answer) → drill_of words ≡ None → Says answers.Usage usage_line before.out after.out result → AnswersDrill words before after result
refused words before after result none (said is same) = subst (AnswersDrill words before after) (sym is) (record { no_drill = none; written = same })
refused words before after result none (failed is fails) = subst (AnswersDrill words before after) (sym is) fails.sink
refused words before after result none (stopped is stops) = subst (AnswersDrill words before after) (sym is) (ap (λ (o : Output). o.faults) stops.same)

pub usage_said : (bytes : List ℕ) (before after : Output) (result : Answer) → Says answers.Usage bytes before after result → IsUsageOrCutShort result
usage_said bytes before after result (said is same) = inl is
usage_said bytes before after result (failed is fails) = inr (inl is)
usage_said bytes before after result (stopped is stops) = inr (inr is)

-- ---- whether the words ask for a drill

pub no_drill : {A : Type 0} (found : Option ℕ) (n : ℕ) → found ≡ Some n → found ≡ None → A
no_drill found n some none = absurd cc

pub gone_asked : (P : ℕ → Type 0) (found : Option ℕ) (n : ℕ) → found ≡ Some n → P n → IfSome found P
gone_asked P found n some h = subst (λ (f : Option ℕ). IfSome f P) (sym some) h

pub gone_refused : (P : ℕ → Type 0) (found : Option ℕ) → found ≡ None → IfSome found P
gone_refused P found none = subst (λ (f : Option ℕ). IfSome f P) (sym none) tt

pub gone_nowhere : (found : Option ℕ) (host : Outside) → IfSome found (λ n. GoesWithoutFaults n host host)
gone_nowhere None host = tt
gone_nowhere (Some n) host = goes_nowhere n host host refl

-- the same of a host of its own
pub ended_anew : (words : List Word) (before after : Outside) (out later : Output) (result : Answer) → before ≡ new_memory.outside
    → AnswersDrill words (record { host = before; out = out }) (record { host = after; out = later }) result
    → (last : Outside) × AnswersDrill words (record { host = new_memory.outside; out = out }) (record { host = last; out = later }) result
ended_anew words before after out later result same ends = (after, subst (λ (h : Outside). AnswersDrill words (record { host = h; out = out }) (record { host = after; out = later }) result) same ends)

-- ---- one line

-- all of it was written, and this is the answer
pub says_done : (answer : Answer) (bytes : List ℕ) (x y : Output) (r : Result (Unit {0}) IoFault) (v : Unit {0}) → r ≡ Ok v → Writes bytes x y r → Says answer bytes x y answer
says_done answer bytes x y r v e w = said refl (subst (λ z. Writes bytes x y z) e w)

says_end : (answer : Answer) (bytes : List ℕ) (x y : Output) (fault : IoFault) → Writes {T = Unit {0}} bytes x y (Err fault) → Says answer bytes x y (unwritten fault)
says_end answer bytes x y faults.Failed w = failed refl w
says_end answer bytes x y faults.OutOfMemory w = stopped refl w

-- it was not, and that is the answer
pub says_not : (answer : Answer) (bytes : List ℕ) (x y : Output) (r : Result (Unit {0}) IoFault) (fault : IoFault) (result : Answer) → r ≡ Err fault → result ≡ unwritten fault → Writes bytes x y r → Says answer bytes x y result
says_not answer bytes x y r fault result e is w =
    subst (λ a. Says answer bytes x y a) (sym is) (says_end answer bytes x y fault (subst (λ z. Writes bytes x y z) e w))
