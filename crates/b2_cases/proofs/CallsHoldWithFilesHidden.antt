-- What a call does to a host it does to one whose files are not visible: for hosts in cases, which tell no files.
use Rattle.std.proofs.Common.{◌≡◌, ℕ, ◌<◌, Bool, List, [], ◌∷◌, ◌++◌, map, take, drop, suc, length, Option, None, Result, Ok, Err, OnOk, OnErr, ap, sym, ◌∙◌, refl, inl, inr, arith}
use Rattle.std.specs.Option.{option_map}
use Rattle.std.specs.List.{Contains, remove}
use Rattle.std.proofs.lemmas.List.{map-append, take-map, drop-map, length-map, get_or-map}
use Rattle.std.proofs.lemmas.Option.{slice_get-map}
use Rattle.b2_host.specs.declared.children.ChildEvent.TheVariants.{Start}
use Rattle.b2_host.specs.declared.fault.Failed.{Failed}
use Rattle.b2_host.specs.declared.fault.IoFault.{IoFault}
use Rattle.b2_host.specs.declared.fault.IoFault.TheVariants as faults
use Rattle.b2_host.specs.Disks.{Disk}
use Rattle.b2_host.specs.ChildProcesses.{Child, Family, MayStart, Ends, after_start, given_at}
use Rattle.b2_host.specs.Outside.{Outside, Fails, Looks, IoLooks}
use Rattle.b2_host.specs.FileCalls.{Reads, Removes, Writes, Puts}
use Rattle.b2_host.specs.ChildCalls.{Starts, Waits}
use Rattle.b2_memory.specs.Memories.{Memory, with_edit}
use Rattle.b2_cases.specs.Untold.{forgotten, untold, hidden}

-- where none runs, none ran before it was forgotten
none_ran : (children : List Child) → map forgotten children ≡ [] → children ≡ []
none_ran [] none = refl
none_ran (child ∷ more) none = cc

pub none_runs : (family : Family) → (untold family).running ≡ [] → family.running ≡ []
none_runs family none = none_ran family.running none

pub some_runs : (family : Family) → ((untold family).running ≡ [] → ⊥) → family.running ≡ [] → ⊥
some_runs family some none = some (ap (map forgotten) none)

-- a start, as a host that tells no files has it
pub untold-after_start : (step : ℕ) (text : List ℕ) (ins outs : List (List ℕ)) (disk : Option Disk) (family : Family) → untold (after_start step text ins outs disk family) ≡ after_start step text ins outs None (untold family)
untold-after_start step text ins outs disk family =
    let child : Child = record { step = step; ins = ins; outs = outs; given = option_map (given_at step text ins outs) disk } in
    ap (λ (r : List Child). let f : Family = record { running = r; events = family.events ++ Start step ∷ []; given = None } in f) (map-append forgotten family.running (child ∷ []))

map_remove : (children : List Child) (place : ℕ) → map forgotten (remove children place) ≡ remove (map forgotten children) place
map_remove children place = map-append forgotten (take place children) (drop (suc place) children) ∙ ap (λ r. r ++ map forgotten (drop (suc place) children)) (sym (take-map forgotten place children)) ∙ ap (λ r. take place (map forgotten children) ++ r) (sym (drop-map forgotten (suc place) children))

-- an end, as a host that tells no files has it
pub ended_untold : (made other : List ℕ → List (List ℕ × List ℕ) → List ℕ → List ℕ) (old new : Family) (before after : Option Disk) (step : ℕ) (well : Bool) → Ends made old before step well new after → Ends other (untold old) None step well (untold new) None
ended_untold made other old new before after step well ends = record {
  place = ends.place;
  child = forgotten ends.child;
  ran = slice_get-map forgotten old.running ends.place ∙ ap (option_map forgotten) ends.ran;
  step_is = ends.step_is;
  running = ap (map forgotten) ends.running ∙ map_remove old.running ends.place;
  events = ends.events;
  given = refl;
  worked = tt;
  made_all = λ _. tt;
}

runs_untold : (children : List Child) (child : Child) → Contains children child → Contains (map forgotten children) (forgotten child)
runs_untold children child c =
    let long : length (map forgotten children) ≡ length children = length-map children forgotten in
    let within : c.0 < length children = c.1 in
    (c.0, omega arith, get_or-map forgotten children c.0 child (forgotten child) c.1 ∙ ap forgotten c.2)

-- what may start beside child processes that were forgotten may start beside them
pub may_start : (family : Family) (ins outs : List (List ℕ)) → MayStart (untold family).running ins outs → MayStart family.running ins outs
may_start family ins outs may = record {
  outs_ins = λ child runs. may.outs_ins (forgotten child) (runs_untold family.running child runs);
  outs_outs = λ child runs. may.outs_outs (forgotten child) (runs_untold family.running child runs);
  ins_outs = λ child runs. may.ins_outs (forgotten child) (runs_untold family.running child runs);
}

-- each call of a host, as one whose files are not visible has it
pub fails_hidden : (before after : Outside) → Fails before after → Fails (hidden before) (hidden after)
fails_hidden before after failed = record { may_fail = failed.may_fail; rose = failed.rose; same = ap hidden failed.same }

pub looks_hidden : {T : Type 0} (before after : Outside) (r : Result T Failed) → Looks before after r → Looks (hidden before) (hidden after) r
looks_hidden before after (Ok x) same = ap hidden same
looks_hidden before after (Err e) failed = fails_hidden before after failed

pub io_looks_hidden : {T : Type 0} (before after : Outside) (r : Result T IoFault) → IoLooks before after r → IoLooks (hidden before) (hidden after) r
io_looks_hidden before after (Ok x) same = ap hidden same
io_looks_hidden before after (Err faults.Failed) failed = fails_hidden before after failed
io_looks_hidden before after (Err faults.OutOfMemory) same = ap hidden same

pub reads_hidden : {T : Type 0} (path : List ℕ) (before after : Outside) (r : Result T IoFault) → Reads path before after r → Reads path (hidden before) (hidden after) r
reads_hidden path before after (Ok x) same = ap hidden same
reads_hidden path before after (Err faults.Failed) failed = fails_hidden before after failed
reads_hidden path before after (Err faults.OutOfMemory) same = ap hidden same

pub removes_hidden : {T : Type 0} (path : List ℕ) (before after : Outside) (r : Result T Failed) → Removes path before after r → Removes path (hidden before) (hidden after) r
removes_hidden path before after (Ok x) same = ap hidden same
removes_hidden path before after (Err e) (inl failed) = inl (fails_hidden before after failed)
removes_hidden path before after (Err e) (inr failed) = inl (record { may_fail = failed.may_fail; rose = failed.rose; same = ap hidden failed.same })

puts_hidden : (path : List ℕ) (bytes : Disk → List ℕ) (before after : Outside) → Puts path bytes before after → Puts path bytes (hidden before) (hidden after)
puts_hidden path bytes before after puts = record { stamp = puts.stamp; newest = tt; same = ap hidden puts.same }

pub writes_hidden : {T : Type 0} (path : List ℕ) (bytes : List ℕ → Disk → List ℕ) (piece : List ℕ) (before after : Outside) (r : Result T IoFault) → Writes path bytes piece before after r → Writes path bytes piece (hidden before) (hidden after) r
writes_hidden path bytes piece before after (Ok x) puts = puts_hidden path (bytes piece) before after puts
writes_hidden path bytes piece before after (Err faults.Failed) (inl failed) = inl (fails_hidden before after failed)
writes_hidden path bytes piece before after (Err faults.Failed) (inr (count, torn, puts, failed)) =
    inr (count, hidden torn, puts_hidden path (bytes (take count piece)) before torn puts, fails_hidden torn after failed)
writes_hidden path bytes piece before after (Err faults.OutOfMemory) same = ap hidden same

pub starts_hidden : {T : Type 0} (step : ℕ) (text : List ℕ) (ins outs : List (List ℕ)) (before after : Outside) (r : Result T IoFault) → Starts step text ins outs before after r → Starts step text ins outs (hidden before) (hidden after) r
starts_hidden step text ins outs before after (Ok x) same =
    ap hidden same ∙ ap (λ (f : Family). let o : Outside = record (hidden before) { children = f } in o) (untold-after_start step text ins outs before.disk before.children)
starts_hidden step text ins outs before after (Err faults.Failed) failed = fails_hidden before after failed
starts_hidden step text ins outs before after (Err faults.OutOfMemory) same = ap hidden same

pub waits_hidden : (made other : List ℕ → List (List ℕ × List ℕ) → List ℕ → List ℕ) (before after : Outside) (r : Result (ℕ × Bool) Failed) → Waits made before after r → Waits other (hidden before) (hidden after) r
waits_hidden made other before after (Ok done) ended = record {
  ended = ended_untold made other before.children after.children before.disk after.disk done.0 done.1 ended.ended;
  ends_well = ended.ends_well;
  same = ap hidden ended.same;
}
waits_hidden made other before after (Err e) failed = record { may_fail = failed.may_fail; wait_may_fail = failed.wait_may_fail; rose = failed.rose; waits = failed.waits; once = failed.once; worked = tt; same = ap hidden failed.same }

-- where no child process runs, none runs after what leaves all but the files
pub stays_idle : (before after : Outside) → hidden after ≡ hidden before → before.children.running ≡ [] → after.children.running ≡ []
stays_idle before after same none = none_runs after.children (ap (λ (o : Outside). o.children.running) same ∙ ap (map forgotten) none)

-- an edit leaves all but the files
pub edit_hidden : {T E : Type 0} (r : Result T E) (path : List ℕ) (bytes : Option (List ℕ)) (before after : Memory) → OnOk r (after ≡ with_edit path bytes before) → OnErr r (after ≡ before) → hidden after.outside ≡ hidden before.outside
edit_hidden (Ok x) path bytes before after ok err = ap (λ (m : Memory). hidden m.outside) ok
edit_hidden (Err e) path bytes before after ok err = ap (λ (m : Memory). hidden m.outside) err
