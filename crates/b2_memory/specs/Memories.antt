use Rattle.std.specs.Prelude.{◌≡◌, ℕ, Bool, true, false, not, List, [], ◌∷◌, ◌++◌, length, remove, slice_get, Option, Some, Result, Ok, Err}
use Rattle.std.specs.Option.{option_map}
use Rattle.std.proofs.Common.{zero, suc}
use Rattle.b2_host.specs.declared.fault.Failed.{Failed}
use Rattle.b2_host.specs.declared.fault.IoFault.{IoFault}
use Rattle.b2_host.specs.declared.fault.IoFault.TheVariants as faults
use Rattle.b2_host.specs.declared.children.ChildEvent.TheVariants as events
use Rattle.b2_host.specs.Disks.{Disk}
use Rattle.b2_host.specs.ChildProcesses.{Given, Family}
use Rattle.b2_host.specs.Outside.{Outside, Risks}
use Rattle.b2_host.specs.FileCalls.{after_read, removed, with_piece}
use Rattle.b2_host.specs.ChildCalls.{started}
use Rattle.b2_files.specs.Writes.{written, all_written, edited, blank}
use Rattle.b2_memory.specs.declared.script.CallKind.{CallKind}
use Rattle.b2_memory.specs.declared.script.CallKind.TheVariants as kinds
use Rattle.b2_memory.specs.Families.{child_with, admitted}
use Rattle.b2_memory.specs.Scripts.{Listed, nothing_listed, is_to_fail, listed_after, is_bad, starts_after, place_picked, picked, left_of, raised, with_calls, with_starts, no_risks, risks_of, risks_with_calls, risks_with_starts, risks_with_fuse}
use Rattle.b2_memory.specs.ChildWrites.{writes_of}

-- All that a host in memory is: the outside that it tells; what it was told to do; and whether each child that runs is to
-- end well, in order of start.
pub record Memory : Type 0 where
  pub outside : Outside
  pub listed : Listed
  pub ends_well : List Bool

-- a host without files, children, reads and faults, which was told nothing
abbrev pub new_memory : Memory
new_memory = record {
  outside = record { disk = Some blank; reads = Some []; children = record { running = []; events = []; given = Some [] }; faults = 0; failed_waits = 0; risks = no_risks };
  listed = nothing_listed;
  ends_well = [];
}

-- the host with other files
abbrev pub with_disk : (Disk → Disk) → Memory → Memory
with_disk change memory = record memory { outside = record memory.outside { disk = option_map change memory.outside.disk } }

-- the host with something else listed
abbrev pub with_listed : (Listed → Listed) → Memory → Memory
with_listed change memory = record memory { listed = change memory.listed }

-- the host with other risks
abbrev pub with_risks : (Risks → Risks) → Memory → Memory
with_risks change memory = record memory { outside = record memory.outside { risks = change memory.outside.risks } }

-- the host that was told of calls that are to fail, of starts that are to end badly, or of a fuse
abbrev pub told_calls : List (CallKind × ℕ) → Memory → Memory
told_calls more memory = with_risks (risks_with_calls more) (with_listed (with_calls more) memory)

abbrev pub told_starts : List ℕ → Memory → Memory
told_starts more memory = with_risks (risks_with_starts more) (with_listed (with_starts more) memory)

abbrev pub told_fuse : ℕ → Memory → Memory
told_fuse calls memory = with_risks risks_with_fuse (with_listed (λ listed. record listed { fuse = Some calls }) memory)

-- what may go wrong is what is still listed
abbrev pub renewed : Memory → Memory
renewed memory = with_risks (λ risks. risks_of memory.listed) memory

abbrev pub with_tear : ℕ → Listed → Listed
with_tear bytes listed = record listed { tear = bytes }

-- the host after a write of bytes to a path
abbrev pub with_entry : List ℕ → List ℕ → Memory → Memory
with_entry path bytes = with_disk (written path bytes)

-- the host after an edit, which writes bytes or deletes
abbrev pub with_edit : List ℕ → Option (List ℕ) → Memory → Memory
with_edit path bytes = with_disk (edited path bytes)

-- ---- calls

-- the next call of the kind fails
abbrev pub fails : CallKind → Memory → Bool
fails kind memory = is_to_fail kind memory.listed

-- a call of the kind was made
abbrev pub counted : CallKind → Memory → Memory
counted kind memory = with_listed (listed_after kind) memory

-- a call of the kind was made and failed
abbrev pub failed : CallKind → Memory → Memory
failed kind memory = record (counted kind memory) { outside = record memory.outside { faults = raised memory.outside.faults } }

-- A call of a kind: it fails where it is to fail, and else does what it does.
abbrev pub Calls : {T : Type 0} → CallKind → (Memory → Memory) → Memory → Memory → Result T Failed → Type 0
Calls kind done before after (Ok x) = (fails kind before ≡ false) × (after ≡ done (counted kind before))
Calls kind done before after (Err e) = (fails kind before ≡ true) × (after ≡ failed kind before)

-- the same of a call that takes memory, and is counted before
abbrev pub IoCalls : {T : Type 0} → CallKind → (Memory → Memory) → Memory → Memory → Result T IoFault → Type 0
IoCalls kind done before after (Ok x) = (fails kind before ≡ false) × (after ≡ done (counted kind before))
IoCalls kind done before after (Err faults.Failed) = (fails kind before ≡ true) × (after ≡ failed kind before)
IoCalls kind done before after (Err faults.OutOfMemory) = (fails kind before ≡ false) × (after ≡ counted kind before)

-- it looked at what stands
abbrev pub looked : Memory → Memory
looked memory = memory

-- a read was noted
abbrev pub noted : List ℕ → Memory → Memory
noted path memory = record memory { outside = after_read path memory.outside }

-- no file is at the path
abbrev pub with_removed : List ℕ → Memory → Memory
with_removed path memory = record memory { outside = removed path memory.outside }

-- one more child runs, with what it was given, and is to end well or badly
abbrev pub with_child : Given → Bool → Memory → Memory
with_child given well memory = record {
  outside = record memory.outside { children = admitted given memory.outside.children };
  listed = record memory.listed { starts = starts_after memory.listed.starts };
  ends_well = memory.ends_well ++ well ∷ [];
}

-- one more child runs, which is to end badly where its start is listed so
abbrev pub with_started : ℕ → List ℕ → List (List ℕ) → List (List ℕ) → Memory → Memory
with_started step text ins outs memory = record {
  outside = started step text ins outs memory.outside;
  listed = record memory.listed { starts = starts_after memory.listed.starts };
  ends_well = memory.ends_well ++ not (is_bad memory.listed.starts) ∷ [];
}

-- ---- writes

-- A write by a call of a kind, of bytes that depend on the files. It stands also where the call fails. The room is taken
-- first: where there is none, the call was not made.
abbrev pub Writes : {T : Type 0} → CallKind → List ℕ → (Disk → List ℕ) → Memory → Memory → Result T IoFault → Type 0
Writes kind path bytes before after (Ok x) =
    (fails kind before ≡ false) × (after ≡ counted kind (with_disk (λ disk. written path (bytes disk) disk) before))
Writes kind path bytes before after (Err faults.Failed) =
    (fails kind before ≡ true) × (after ≡ failed kind (with_disk (λ disk. written path (bytes disk) disk) before))
Writes kind path bytes before after (Err faults.OutOfMemory) = after ≡ before

-- a piece, or its torn beginning, is added to a file
abbrev pub Appends : {T : Type 0} → List ℕ → List ℕ → Memory → Memory → Result T IoFault → Type 0
Appends path piece before = Writes kinds.Append path (with_piece path (left_of kinds.Append piece before.listed)) before

-- a piece, or its torn beginning, takes the place of a file
abbrev pub Replaces : {T : Type 0} → List ℕ → List ℕ → Memory → Memory → Result T IoFault → Type 0
Replaces path piece before = Writes kinds.Replace path (λ disk. left_of kinds.Replace piece before.listed) before

-- ---- ends of children

-- the children without the one at a place, which has ended
abbrev pub without_child : ℕ → Given → Bool → Family → Family
without_child place given well family = record {
  running = remove family.running place;
  events = family.events ++ events.Done given.step well ∷ [];
  given = family.given;
}

-- the host once the child at a place has ended, and has written what it was to write
abbrev pub with_end : ℕ → Given → Bool → Memory → Memory
with_end place given well memory = record memory {
  outside = record memory.outside {
    disk = option_map (all_written (writes_of given well)) memory.outside.disk;
    children = without_child place given well memory.outside.children;
  };
  ends_well = remove memory.ends_well place;
}

-- The child at a place has ended as it was to end, and has written just what it was to write.
pub record Ended (place : ℕ) (before : Memory) (step : ℕ) (well : Bool) (after : Memory) : Type 0 where
  pub given : Given
  pub ran : slice_get before.outside.children.running place ≡ Some (child_with given)
  pub step_is : given.step ≡ step
  pub ends : slice_get before.ends_well place ≡ Some well
  pub after_is : after ≡ with_end place given well before

-- the host once a wait has taken its number
abbrev pub with_picked : Memory → Memory
with_picked memory = with_listed picked memory

-- a wait failed
abbrev pub wait_failed : Memory → Memory
wait_failed memory = record (failed kinds.Wait memory) { outside = record memory.outside { faults = raised memory.outside.faults; failed_waits = raised memory.outside.failed_waits } }

-- A wait gives the child that its number picks, or fails.
abbrev pub Waits : Memory → Memory → Result (ℕ × Bool) Failed → Type 0
Waits before after (Ok done) = (fails kinds.Wait before ≡ false)
    × Ended (place_picked before.listed.picks (length before.outside.children.running)) (with_picked (counted kinds.Wait before)) done.0 done.1 after
Waits before after (Err e) = (fails kinds.Wait before ≡ true) × (after ≡ wait_failed before)

-- so many children have ended, the first one each time
abbrev pub AllEnded : ℕ → Memory → Memory → Type 0
AllEnded zero before after = after ≡ before
AllEnded (suc count) before after = (step : ℕ) × (well : Bool) × (next : Memory) × Ended 0 before step well next × AllEnded count next after

-- all children that ran have ended, in order of start; nothing is listed, and nothing may go wrong
pub record Reopens (before after : Memory) : Type 0 where
  pub drained : Memory
  pub ended : AllEnded (length before.outside.children.running) before drained
  pub rest : after ≡ with_risks (λ risks. no_risks) (with_listed (λ listed. nothing_listed) drained)
