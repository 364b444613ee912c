-- What no call changes, over several calls.
use Rattle.std.proofs.Common.{◌≡◌, ◌≢◌, ◌<◌, List, [], ◌∷◌, length, drop, is_some, Result, Ok, Err, refl, sym, ap, ◌∙◌, subst, arith}
use Rattle.std.proofs.lemmas.List.{length-map}
use Rattle.b2_base.specs.Counts.{Rose}
use Rattle.b2_host.specs.Outside.{Outside}
use Rattle.b2_host.specs.OutsideLaws.{keeps_same, keeps_then}
use Rattle.jam_journal.specs.Scopes.{Frame}
use Rattle.jam_scope.specs.Worlds.{Worlds, World}
use Rattle.jam_scope.specs.Changes.{frames_at_mark}
use Rattle.jam_meaning.specs.Settings.{Setting}
use Rattle.jam_meaning.specs.Laws.{bounds}
use Rattle.jam_effects.specs.declared.fault.EvalFault.{EvalFault}
use Rattle.jam_effects.specs.declared.fault.EvalFault.TheVariants as fault
use Rattle.jam_effects.specs.Machines.{Machine, folder_of, IsSettingOf}
use Rattle.jam_effects.specs.Does.{kinds, Stays, Counts}

-- as many frames as before
pub as_many : (before after : List Frame) → kinds after ≡ kinds before → length after ≡ length before
as_many before after e = sym (length-map after (λ (frame : Frame). (frame.owner, frame.caller))) ∙ ap length e ∙ length-map before (λ (frame : Frame). (frame.owner, frame.caller))

no_kinds : (fs : List Frame) → kinds fs ≡ [] → fs ≡ []
no_kinds [] e = refl
no_kinds (f ∷ fs) e = cc

-- where a frame stood, one stands
pub still_framed : (before after : List Frame) → kinds after ≡ kinds before → before ≢ [] → after ≢ []
still_framed before after e some = λ none. some (no_kinds before (sym e ∙ ap kinds none))

module _ {R : Type 0} where
  pub stays_same : (m : Machine R) → Stays m m
  stays_same m = record {
    turns = omega arith;
    budget = refl;
    meaning = refl;
    frames = refl;
    outer = refl;
    marks = refl;
    step = refl;
    disk = refl;
    children = refl;
    keeps = keeps_same m.outside m.outside refl;
  }

  pub stays_then : (a b c : Machine R) → Stays a b → Stays b c → Stays a c
  stays_then a b c one two = record {
    turns = (let p = one.turns in let q = two.turns in omega arith);
    budget = two.budget ∙ one.budget;
    meaning = two.meaning ∙ one.meaning;
    frames = two.frames ∙ one.frames;
    outer = two.outer ∙ one.outer;
    marks = two.marks ∙ one.marks;
    step = two.step ∙ one.step;
    disk = two.disk ∙ one.disk;
    children = two.children ∙ one.children;
    keeps = keeps_then a.outside b.outside c.outside one.keeps two.keeps;
  }

  -- the same worlds after a change of them that keeps frames, marks and whether a step is open
  pub stays_worlds : (m : Machine R) (worlds : Worlds) → kinds worlds.now.scopes.frames ≡ kinds m.worlds.now.scopes.frames → bounds (drop 1 worlds.now.scopes.frames) ≡ bounds (drop 1 m.worlds.now.scopes.frames) → worlds.marked ≡ m.worlds.marked → is_some worlds.now.step ≡ is_some m.worlds.now.step → Stays m (record m { worlds = worlds })
  stays_worlds m worlds frames outer marks step = record {
    turns = omega arith;
    budget = refl;
    meaning = refl;
    frames = frames;
    outer = outer;
    marks = marks;
    step = step;
    disk = refl;
    children = refl;
    keeps = keeps_same m.outside m.outside refl;
  }

  -- nothing changes where the worlds are equal
  pub stays_equal : (m : Machine R) (worlds : Worlds) → worlds ≡ m.worlds → Stays m (record m { worlds = worlds })
  stays_equal m worlds e = subst (λ ws. Stays m (record m { worlds = ws })) (sym e) (stays_same m)

  -- a setting stays right
  pub setting_after : (setting : Setting R) (a b : Machine R) → Stays a b → IsSettingOf setting a → IsSettingOf setting b
  setting_after setting a b stays is = record {
    budget = stays.budget ∙ is.budget;
    natives = stays.meaning ∙ is.natives;
    folder = ap folder_of stays.disk ∙ is.folder;
    right = is.right;
  }

  -- the newest frame may be left where it could be before
  pub may_leave : (a b : Machine R) → Stays a b → frames_at_mark a.worlds.marked < length a.worlds.now.scopes.frames → frames_at_mark b.worlds.marked < length b.worlds.now.scopes.frames
  may_leave a b stays h =
      subst (λ (marked : List World). frames_at_mark marked < length b.worlds.now.scopes.frames) (sym stays.marks)
      (subst (λ n. frames_at_mark a.worlds.marked < n) (sym (as_many a.worlds.now.scopes.frames b.worlds.now.scopes.frames stays.frames)) h)

-- counts of faults, after a call without a fault of the host
pub counts_after : {A : Type 0} (result : Result A EvalFault) (a b c : Outside) → b.faults ≡ a.faults → Counts result b c → Counts result a c
counts_after (Ok v) a b c e h = h ∙ e
counts_after (Err fault.Host) a b c e h = subst (λ n. Rose n c.faults) e h
counts_after (Err fault.OutOfMemory) a b c e h = tt
counts_after (Err (fault.At path line why)) a b c e h = h ∙ e
