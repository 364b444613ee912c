-- An edit of a host in memory, as a session has it.
use Rattle.std.proofs.Common.{◌≡◌, ◌≢◌, ℕ, ◌<◌, ◌+◌, Bool, true, false, cond, List, length, Option, None, Some, option_map, refl, ap, sym, ◌∙◌, subst, arith}
use Rattle.std.specs.Prelude.{Result, Ok, Err, OnOk, OnErr}
use Rattle.std.specs.Str.{bytes_eq}
use Rattle.std.specs.Option.{IfSome}
use Rattle.std.specs.List.{Contains}
use Rattle.std.proofs.lemmas.Slice.Eq.{bytes_eq-Decides}
use Rattle.std.proofs.lemmas.List.Elements.{Contains-append_left}
use Rattle.b2_files.specs.Writes.{edited, next_file}
use Rattle.b2_host.specs.Disks.{Disk, Past, IsConsistent, put}
use Rattle.b2_host.specs.FileCalls.{log_path}
use Rattle.b2_host.specs.Outside.{Outside}
use Rattle.b2_host.specs.Output.{Output}
use Rattle.b2_base.specs.declared.fault.OutOfMemory.{OutOfMemory}
use Rattle.b2_files.specs.Consistency.{kept_disk, stamp_within}
use Rattle.b2_files.specs.StoreDisks.{told, writes_told}
use Rattle.b2_memory.specs.Hosts.{told_outside, memory_of}
use Rattle.b2_memory.specs.Memories.{Memory, with_edit}
use Rattle.b2_memory.specs.declared.memory.MemoryHost.{MemoryHost}
use Rattle.b2_memory.proofs.ChildEnds.{IsBounded}
use Rattle.b2_runs.specs.Sessions.{IsEdit, IsEdited}
use Rattle.b2_update.specs.Moments.{moment}
use Rattle.b2_sessions.specs.Courses.{moment_of, IsReady}

module _ {X : Type 0} where
  -- what was put at a path stands there
  put_here : (path : List ℕ) (x : X) (before : List ℕ → X) → put path x before path ≡ x
  put_here path x before = ap (λ b. cond b x (before path)) ((bytes_eq-Decides path path).1 refl)

  -- and nowhere else
  put_there : (path : List ℕ) (x : X) (before : List ℕ → X) (other : List ℕ) → other ≢ path → put path x before other ≡ before other
  put_there path x before other differ = go (bytes_eq path other) refl
    where
      go : (b : Bool) → bytes_eq path other ≡ b → put path x before other ≡ before other
      go true is = absurd (differ (sym ((bytes_eq-Decides path other).0 is)))
      go false is = ap (λ b. cond b x (before other)) is

-- what stands at the path
edited_here : (path : List ℕ) (bytes : Option (List ℕ)) (disk : Disk) → IsBounded disk → IsEdited disk bytes ((edited path bytes disk).now path)
edited_here path None disk bounded = put_here path None disk.now
edited_here path (Some bytes) disk bounded = (
  next_file bytes disk,
  put_here path (Some (next_file bytes disk)) disk.now,
  refl,
  λ old c. let low = bounded old c in let e : old.file.stamp < length disk.past + 1 = omega (arith, low) in e,
)

edited_there : (path : List ℕ) (bytes : Option (List ℕ)) (disk : Disk) (other : List ℕ) → other ≢ path → (edited path bytes disk).now other ≡ disk.now other
edited_there path None disk other differ = put_there path None disk.now other differ
edited_there path (Some bytes) disk other differ = put_there path (Some (next_file bytes disk)) disk.now other differ

edited_grows : (path : List ℕ) (bytes : Option (List ℕ)) (disk : Disk) (past : Past) → Contains disk.past past → Contains (edited path bytes disk).past past
edited_grows path None disk past c = c
edited_grows path (Some bytes) disk past c = Contains-append_left disk.past _ past c

-- an edit is one of a session, where it does not write the log
pub is_edit : (path : List ℕ) (bytes : Option (List ℕ)) (before after : Outside) (disk : Disk) → before.disk ≡ Some disk → IsBounded disk → IfSome after.disk IsConsistent → (path ≡ log_path → bytes ≡ None)
    → after ≡ record before { disk = option_map (edited path bytes) before.disk } → (out : Output) → IsEdit path bytes (moment before out) (moment after out)
is_edit path bytes before after disk shows bounded consistent not_log same out =
    let new : Disk = edited path bytes disk in
    let told : after ≡ record before { disk = Some new } = same ∙ ap (λ (o : Option Disk). record before { disk = option_map (edited path bytes) o }) shows in
    record {
      old = disk;
      shows = shows;
      new = new;
      same = ap (λ (o : Outside). moment o out) told;
      not_log = not_log;
      edited = edited_here path bytes disk bounded;
      others = edited_there path bytes disk;
      keeps = subst (λ (o : Option Disk). IfSome o IsConsistent) (ap (λ (o : Outside). o.disk) told) consistent;
      grows = edited_grows path bytes disk;
    }

-- ---- the host in memory

-- an edit that changed the memory so is one of a session
pub edit_is : (old new : MemoryHost) (path : List ℕ) (bytes : Option (List ℕ)) → memory_of new ≡ with_edit path bytes (memory_of old) → (path ≡ log_path → bytes ≡ None) → (out : Output) → IsEdit path bytes (moment_of old out) (moment_of new out)
edit_is old new path bytes same not_log out =
    is_edit path bytes (told_outside old) (told_outside new) (told old.store) refl (stamp_within (writes_told old.store)) (kept_disk (writes_told new.store) new.store.places new.store.placed) not_log
    (ap (λ (m : Memory). m.outside) same) out

module _ {T : Type 0} (old new : MemoryHost) (path : List ℕ) (given bytes : Option (List ℕ)) where
  -- the bytes are given in another way
  pub edit_done : (r : Result T OutOfMemory) → OnOk r (memory_of new ≡ with_edit path given (memory_of old)) → given ≡ bytes → OnOk r (memory_of new ≡ with_edit path bytes (memory_of old))
  edit_done r done is = subst (λ (b : Option (List ℕ)). OnOk r (memory_of new ≡ with_edit path b (memory_of old))) is done

  -- no child runs after an edit, and what may go wrong stays
  pub edit_ready : (r : Result T OutOfMemory) → OnOk r (memory_of new ≡ with_edit path given (memory_of old)) → OnErr r (memory_of new ≡ memory_of old) → IsReady (told_outside old) → IsReady (told_outside new)
  edit_ready (Ok x) same not ready = record {
    idle = ap (λ (m : Memory). m.outside.children.running) same ∙ ready.idle;
    calm = ap (λ (m : Memory). m.outside.risks.wait_may_fail) same ∙ ready.calm;
  }
  edit_ready (Err e) same not ready = subst IsReady (sym (ap (λ (m : Memory). m.outside) not)) ready
