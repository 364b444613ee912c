-- Children that end one after another, the first one each time: what they leave, and in which order their steps end.
use Rattle.std.proofs.Common.{◌≡◌, ℕ, zero, suc, Bool, List, [], ◌∷◌, ◌++◌, length, remove, slice_get, Option, None, Some, option_map, inl, inr, refl, ap, sym, ◌∙◌, subst, append_assoc, append-nil, arith}
use Rattle.std.specs.List.{Contains}
use Rattle.std.proofs.lemmas.List.Elements.{Contains-append_cases}
use Rattle.b2_host.specs.declared.children.ChildEvent.{ChildEvent}
use Rattle.b2_host.specs.declared.children.ChildEvent.TheVariants.{Done}
use Rattle.b2_host.specs.Disks.{Disk}
use Rattle.b2_host.specs.ChildProcesses.{Child, IsWritten, ChangesOnlyOutputs, BothTold, Ends}
use Rattle.b2_host.specs.Outside.{Outside}
use Rattle.b2_files.specs.Writes.{all_written}
use Rattle.b2_memory.specs.ChildWrites.{writes_of}
use Rattle.b2_memory.specs.Families.{child_with}
use Rattle.b2_memory.specs.Memories.{Memory, Ended, AllEnded, with_end}
use Rattle.b2_memory.specs.Results.{made_of}
use Rattle.b2_memory.proofs.ChildEnds.{works}
use Rattle.b2_runs.specs.PlanChildren.{AreOfOpenSteps}
use Rattle.b2_runs.specs.Runs.{OpenEnds}
use Rattle.b2_runs.proofs.FirstElementOrLater.{Contains_there}
use Rattle.b2_runs.proofs.OpenStepsHaveChildren.{open_steps_after_end, ends_open_step}

-- ---- lists

module _ {X : Type 0} where
  -- a list without its first element is one shorter
  one_shorter : (xs : List X) (x : X) (n : ℕ) → slice_get xs 0 ≡ Some x → length xs ≡ suc n → length (remove xs 0) ≡ n
  one_shorter [] x n e h = absurd (let f : 0 ≡ suc n = h in omega (arith, f))
  one_shorter (y ∷ xs) x n e h = let f : suc (length xs) ≡ suc n = h in omega (arith, f)

  none_in : (xs : List X) → length xs ≡ 0 → xs ≡ []
  none_in [] e = refl
  none_in (x ∷ xs) e = absurd (let f : suc (length xs) ≡ 0 = e in omega (arith, f))

  -- what is left of a list was in it
  was_in : (xs : List X) (y : X) → Contains (remove xs 0) y → Contains xs y
  was_in [] y c = c
  was_in (x ∷ xs) y c = Contains_there x y xs c

-- ---- what children change

-- what fewer children write is written by more
widen : (fewer running : List Child) (path : List ℕ) → ((child : Child) → Contains fewer child → Contains running child) → IsWritten fewer path → IsWritten running path
widen fewer running path among w = record { child = w.child; runs = among w.child w.runs; out = w.out }

-- children work, and then some of them
works_then : (running fewer : List Child) (x y z : Disk) → ((child : Child) → Contains fewer child → Contains running child) → ChangesOnlyOutputs running x y → ChangesOnlyOutputs fewer y z → ChangesOnlyOutputs running x z
works_then running fewer x y z among a b = record {
  others = λ path none. b.others path (λ w. none (widen fewer running path among w)) ∙ a.others path none;
  more = a.more ++ b.more;
  past = b.past ∙ ap (λ l. l ++ b.more) a.past ∙ append_assoc x.past a.more b.more;
  written = λ old c. elim (Contains-append_cases a.more b.more old c) [
    | inl first ↦ a.written old first
    | inr second ↦ widen fewer running old.path among (b.written old second)
  ];
}

both_work : (running fewer : List Child) (x y z : Option Disk) → ((child : Child) → Contains fewer child → Contains running child) → BothTold (ChangesOnlyOutputs running) x y → BothTold (ChangesOnlyOutputs fewer) y z → BothTold (ChangesOnlyOutputs running) x z
both_work running fewer None None z among a b = b_none z b
  where
    b_none : (o : Option Disk) → BothTold (ChangesOnlyOutputs fewer) None o → BothTold (ChangesOnlyOutputs running) None o
    b_none None told = tt
    b_none (Some disk) told = absurd told
both_work running fewer None (Some y) z among a b = absurd a
both_work running fewer (Some x) None z among a b = absurd a
both_work running fewer (Some x) (Some y) None among a b = absurd b
both_work running fewer (Some x) (Some y) (Some z) among a b = works_then running fewer x y z among a b

idle_work : (running : List Child) (o : Option Disk) → BothTold (ChangesOnlyOutputs running) o o
idle_work running None = tt
idle_work running (Some disk) = record {
  others = λ path none. refl;
  more = [];
  past = sym (append-nil disk.past);
  written = λ old c. absurd (let low = c.1 in omega (arith, low));
}

-- ---- ends

-- All children that ran have ended, by ends that follow these events.
pub record AreDrained (events : List ChildEvent) (before after : Outside) : Type 0 where
  pub ends : List ChildEvent
  pub open_ends : OpenEnds events ends
  pub none_open : AreOfOpenSteps (events ++ ends) []
  pub same : after ≡ record before { disk = after.disk; children = record before.children { running = []; events = before.children.events ++ ends } }
  pub worked : BothTold (ChangesOnlyOutputs before.children.running) before.disk after.disk

-- none ran
none_drained : (events : List ChildEvent) (before : Outside) → before.children.running ≡ [] → AreOfOpenSteps events before.children.running → AreDrained events before before
none_drained events before none open_steps = record {
  ends = [];
  open_ends = tt;
  none_open = subst (λ l. AreOfOpenSteps l []) (sym (append-nil events)) (subst (AreOfOpenSteps events) none open_steps);
  same = ap (λ (l : List Child). record before { children = record before.children { running = l } }) none
      ∙ ap (λ (l : List ChildEvent). record before { children = record before.children { running = []; events = l } }) (sym (append-nil before.children.events));
  worked = idle_work before.children.running before.disk;
}

-- the end of the first child, over files that are not visible
first_ends : (before : Memory) (step : ℕ) (well : Bool) (after : Memory) (e : Ended 0 before step well after)
    → Ends made_of before.outside.children None e.given.step well (with_end 0 e.given well before).outside.children None
first_ends before step well after e = record {
  place = 0;
  child = child_with e.given;
  ran = e.ran;
  step_is = refl;
  running = refl;
  events = refl;
  given = refl;
  worked = tt;
  made_all = λ is. tt;
}

pub drained : (count : ℕ) (before after : Memory) (events : List ChildEvent) → length before.outside.children.running ≡ count → AreOfOpenSteps events before.outside.children.running → AllEnded count before after → AreDrained events before.outside after.outside
drained zero before after events len open_steps same =
    subst (λ (m : Memory). AreDrained events before.outside m.outside) (sym same) (none_drained events before.outside (none_in before.outside.children.running len) open_steps)
drained (suc count) before after events len open_steps (step, well, next, e, rest) =
    let running = before.outside.children.running in
    let middle : Memory = with_end 0 e.given well before in
    let end : ChildEvent = Done e.given.step well in
    let ends = first_ends before step well next e in
    let d = drained count middle after (events ++ end ∷ []) (one_shorter running (child_with e.given) count e.ran len)
    (open_steps_after_end events made_of before.outside.children middle.outside.children None None e.given.step well open_steps ends)
    (subst (λ (m : Memory). AllEnded count m after) e.after_is rest) in
    record {
      ends = end ∷ d.ends;
      open_ends = (ends_open_step events made_of before.outside.children middle.outside.children None None e.given.step well open_steps ends, d.open_ends);
      none_open = subst (λ l. AreOfOpenSteps l []) (append_assoc events (end ∷ []) d.ends) d.none_open;
      same = d.same ∙ ap (λ (l : List ChildEvent). record before.outside { disk = after.outside.disk; children = record before.outside.children { running = []; events = l } })
          (append_assoc before.outside.children.events (end ∷ []) d.ends);
      worked = both_work running (remove running 0) before.outside.disk (option_map (all_written (writes_of e.given well)) before.outside.disk) after.outside.disk (was_in running)
          (works running 0 e.given well before.outside.disk e.ran) d.worked;
    }

-- then none runs
pub none_after : (count : ℕ) (before after : Memory) → length before.outside.children.running ≡ count → AllEnded count before after → after.outside.children.running ≡ []
none_after zero before after len same = ap (λ (m : Memory). m.outside.children.running) same ∙ none_in before.outside.children.running len
none_after (suc count) before after len (step, well, next, e, rest) =
    none_after count (with_end 0 e.given well before) after (one_shorter before.outside.children.running (child_with e.given) count e.ran len) (subst (λ (m : Memory). AllEnded count m after) e.after_is rest)
