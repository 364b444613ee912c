-- What a memory writes and which children it awaits is what any host is to do; with torn writes and failed calls.
use Rattle.std.proofs.Common.{◌≡◌, ℕ, ◌+◌, ◌<◌, Bool, true, false, cond, List, [], ◌∷◌, ◌++◌, length, take, Option, None, Some, Result, Ok, Err, inr, refl, ap, sym, ◌∙◌, subst, arith}
use Rattle.std.specs.Option.{IfSome, option_map}
use Rattle.std.specs.List.{Contains}
use Rattle.b2_host.specs.declared.fault.IoFault.{IoFault}
use Rattle.b2_host.specs.declared.fault.IoFault.TheVariants as faults
use Rattle.b2_host.specs.declared.children.ChildEvent.TheVariants as events
use Rattle.b2_host.specs.Disks.{Disk, Past}
use Rattle.b2_host.specs.Outside.{Outside, Fails}
use Rattle.b2_host.specs.FileCalls as calls
use Rattle.b2_host.specs.ChildCalls as child_calls
use Rattle.b2_files.specs.Writes.{written}
use Rattle.b2_memory.specs.declared.script.CallKind.{CallKind}
use Rattle.b2_memory.specs.declared.script.CallKind.TheVariants as kinds
use Rattle.b2_memory.specs.Results.{made_of}
use Rattle.b2_memory.specs.Scripts.{left_of, risks_of, AreAmong}
use Rattle.b2_memory.specs.Families.{child_with}
use Rattle.b2_memory.specs.Memories.{Memory, fails, counted, failed, with_disk, Writes, Appends, Replaces, Ended}
use Rattle.b2_memory.proofs.CountsRiseUntilFull.{rose}
use Rattle.b2_memory.proofs.ListedFailuresAreExpected.{expected}
use Rattle.b2_memory.proofs.ChildEnds.{IsBounded, works, makes}

fails_told : (kind : CallKind) (before after : Memory) → before.outside.risks.may_fail ≡ true → after ≡ failed kind before → Fails before.outside after.outside
fails_told kind before after may h = subst (λ (m : Memory). Fails before.outside m.outside) (sym h) (record { may_fail = may; rose = rose before.outside.faults; same = refl })

-- ---- writes

-- the stamp of the next write
next_stamp : Option Disk → ℕ
next_stamp None = 0
next_stamp (Some disk) = length disk.past + 1

puts_here : (path : List ℕ) (bytes : Disk → List ℕ) (before : Outside) → IfSome before.disk IsBounded → calls.Puts path bytes before (record before { disk = option_map (λ disk. written path (bytes disk) disk) before.disk })
unfolding next_stamp
puts_here path bytes before within = record {
  stamp = next_stamp before.disk;
  newest = newest before.disk within;
  same = ap (λ (d : Option Disk). record before { disk = d }) (same before.disk);
}
  where
    newest : (o : Option Disk) → IfSome o IsBounded → IfSome o (λ disk. (old : Past) → Contains disk.past old → old.file.stamp < next_stamp o)
    newest None h = tt
    newest (Some disk) h = λ old a. let low = h old a in omega (arith, low)

    same : (o : Option Disk) → option_map (λ disk. written path (bytes disk) disk) o ≡ option_map (λ disk. calls.stored path (record { stamp = next_stamp o; bytes = bytes disk }) disk) o
    same None = refl
    same (Some disk) = refl

-- a write of the same bytes
pub writes_same : {T : Type 0} (kind : CallKind) (path : List ℕ) (f g : Disk → List ℕ) (before after : Memory) (disk : Disk) (r : Result T IoFault) → before.outside.disk ≡ Some disk → f disk ≡ g disk → Writes kind path f before after r → Writes kind path g before after r
writes_same {T} kind path f g before after disk r at same h = go r h
  where
    wrote : with_disk (λ d. written path (f d) d) before ≡ with_disk (λ d. written path (g d) d) before
    wrote = ap (λ (o : Option Disk). record before { outside = record before.outside { disk = o } })
        (ap (option_map (λ d. written path (f d) d)) at ∙ ap (λ b. Some (written path b disk)) same ∙ sym (ap (option_map (λ d. written path (g d) d)) at))

    go : (x : Result T IoFault) → Writes kind path f before after x → Writes kind path g before after x
    go (Ok x) k = (k.0, k.1 ∙ ap (counted kind) wrote)
    go (Err faults.Failed) k = (k.0, k.1 ∙ ap (failed kind) wrote)
    go (Err faults.OutOfMemory) k = k

-- a write whose bytes are those of a piece, or of what a failure leaves of it
pub writes_told : {T : Type 0} (kind : CallKind) (path piece : List ℕ) (bytes : List ℕ → Disk → List ℕ) (before after : Memory) (r : Result T IoFault) → IfSome before.outside.disk IsBounded
    → (fails kind before ≡ true → before.outside.risks.may_fail ≡ true) → Writes kind path (bytes (left_of kind piece before.listed)) before after r → calls.Writes path bytes piece before.outside after.outside r
writes_told kind path piece bytes before after (Ok x) within may h =
    let whole : left_of kind piece before.listed ≡ piece = ap (λ b. cond b (take before.listed.tear piece) piece) h.0 in
    subst (λ (m : Memory). calls.Puts path (bytes piece) before.outside m.outside) (sym h.1)
    (subst (λ left. calls.Puts path (bytes piece) before.outside (with_disk (λ disk. written path (bytes left disk) disk) before).outside) (sym whole) (puts_here path (bytes piece) before.outside within))
writes_told kind path piece bytes before after (Err faults.Failed) within may h =
    let torn : left_of kind piece before.listed ≡ take before.listed.tear piece = ap (λ b. cond b (take before.listed.tear piece) piece) h.0 in
    let wrote : Memory = with_disk (λ disk. written path (bytes (left_of kind piece before.listed) disk) disk) before in
    inr (
      before.listed.tear,
      wrote.outside,
      subst (λ left. calls.Puts path (bytes left) before.outside wrote.outside) torn (puts_here path (bytes (left_of kind piece before.listed)) before.outside within),
      fails_told kind wrote after (may h.0) h.1,
    )
writes_told kind path piece bytes before after (Err faults.OutOfMemory) within may h = ap (λ (m : Memory). m.outside) h

pub appends_told : {T : Type 0} (path piece : List ℕ) (before after : Memory) (r : Result T IoFault) → IfSome before.outside.disk IsBounded → AreAmong (risks_of before.listed) before.outside.risks
    → Appends path piece before after r → calls.Appends path piece before.outside after.outside r
appends_told path piece before after r within among h = writes_told kinds.Append path piece (calls.with_piece path) before after r within (expected kinds.Append before.listed before.outside.risks among) h

pub replaces_told : {T : Type 0} (path piece : List ℕ) (before after : Memory) (r : Result T IoFault) → IfSome before.outside.disk IsBounded → AreAmong (risks_of before.listed) before.outside.risks
    → Replaces path piece before after r → calls.Replaces path piece before.outside after.outside r
replaces_told path piece before after r within among h = writes_told kinds.Replace path piece (λ bytes disk. bytes) before after r within (expected kinds.Replace before.listed before.outside.risks among) h

-- ---- children

pub awaits_told : (place : ℕ) (before between after : Memory) (step : ℕ) (well : Bool) → IfSome before.outside.disk IsBounded → between.outside ≡ before.outside → (before.outside.risks.may_end_badly ≡ false → well ≡ true)
    → Ended place between step well after → child_calls.Awaits made_of before.outside step well after.outside
awaits_told place before between after step well within same ends_well e =
    subst (λ (o : Outside). child_calls.Awaits made_of o step well after.outside) same
    (subst (λ (m : Memory). child_calls.Awaits made_of between.outside step well m.outside) (sym e.after_is) (record {
      ended = record {
        place = place;
        child = child_with e.given;
        ran = e.ran;
        step_is = e.step_is;
        running = refl;
        events = ap (λ (s : ℕ). between.outside.children.events ++ events.Done s well ∷ []) e.step_is;
        given = refl;
        worked = works between.outside.children.running place e.given well between.outside.disk e.ran;
        made_all = makes e.given well between.outside.disk (subst (λ (o : Outside). IfSome o.disk IsBounded) (sym same) within);
      };
      ends_well = λ none. ends_well (ap (λ (o : Outside). o.risks.may_end_badly) (sym same) ∙ none);
      same = refl;
    }))
