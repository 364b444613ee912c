-- What single changes do to turns, frames, and the rest of a world.
use Rattle.std.proofs.Common.{arith, ◌≡◌, Bool, true, false, List, [], ◌∷◌, Option, is_some, refl, ◌∙◌, ap, drop, if◌then◌else◌}
use Rattle.std.specs.Prelude.{map as each}
use Rattle.std.specs.Str.{bytes_eq}
use Rattle.jam_journal.specs.Tables.{Text}
use Rattle.jam_journal.specs.Scopes.{Value, Frame, Scopes, Binding, with_binding, assign, rebound, rebound_in, module_of}
use Rattle.jam_meaning.specs.States.{State}
use Rattle.jam_meaning.specs.Settings.{Setting, Told, answers, refuses}
use Rattle.jam_meaning.specs.Outcomes.{Outcome, gives, faults}
use Rattle.jam_meaning.specs.RuleCalls.{native_answer, acted_answer}
use Rattle.jam_meaning.specs.Rolled.{back_to}
use Rattle.jam_meaning.specs.Kept.{Ends, EndsTold}
use Rattle.jam_meaning.specs.Laws.{TurnsFall, SameFrames, FramesLeft, KeepFrames, SameWorlds, SameRest, ChangeNothing, SameParents, KeepParents, bound_of, bounds}
use Rattle.jam_meaning.proofs.IsKept.{IsKept}

told_turns : {R A : Type 0} (s : State R) (t : Told A R) → EndsTold TurnsFall s t
told_turns s (answers a worlds kept) = omega arith
told_turns s (refuses cause worlds kept) = omega arith

pub turns_kept : {R : Type 0} (setting : Setting R) → IsKept setting TurnsFall TurnsFall
turns_kept setting = record {
  same = λ s. omega arith;
  chain = λ a b c one two. omega arith;
  chain_loose = λ a b c one two. omega arith;
  loosen = λ s later h. h;
  turn = λ s left is. omega arith;
  assigns = λ name value s. omega arith;
  binds = λ name value s. omega arith;
  frame = λ owner s later h. h;
  call_frame = λ owner s later h. h;
  sets_own = λ target name value s. omega arith;
  rules = λ name params block path line s. omega arith;
  actions = λ name body s. omega arith;
  roots = λ s. omega arith;
  native = λ name given line s. told_turns s (native_answer setting name given line s);
  records = λ name given line s. told_turns s (acted_answer setting name given line s);
}

abbrev names_of : List Binding → List Text
names_of = each (λ b. b.0)

rebound_one : (b : Bool) (first : Binding) (value : Value) (bs more : List Binding) → names_of more ≡ names_of bs
    → names_of (if b then (first.0, value) ∷ bs else first ∷ more) ≡ names_of (first ∷ bs)
rebound_one true first value bs more h = refl
rebound_one false first value bs more h = ap (λ names. first.0 ∷ names) h

rebound_names : (bs : List Binding) (name : Text) (value : Value) → names_of (rebound bs name value) ≡ names_of bs
rebound_names [] name value = refl
rebound_names (b ∷ bs) name value = rebound_one (bytes_eq b.0 name) b value bs (rebound bs name value) (rebound_names bs name value)

rebound_choice : (b : Bool) (f : Frame) (value : List Binding) (fs more : List Frame) → names_of value ≡ names_of f.bindings → bounds more ≡ bounds fs
    → bounds (if b then record f { bindings = value } ∷ fs else f ∷ more) ≡ bounds (f ∷ fs)
rebound_choice true f value fs more names h = ap (λ ns. (f.owner, (f.caller, ns)) ∷ bounds fs) names
rebound_choice false f value fs more names h = ap (λ more. bound_of f ∷ more) h

rebound_bounds : (owner : Text) (fs : List Frame) (name : Text) (value : Value) → bounds (rebound_in owner fs name value) ≡ bounds fs
rebound_bounds owner [] name value = refl
rebound_bounds owner (f ∷ fs) name value =
    rebound_choice _ f (rebound f.bindings name value) fs (rebound_in owner fs name value) (rebound_names f.bindings name value) (rebound_bounds owner fs name value)

chosen : (b : Bool) (s t : Scopes) (fs : List (Text × (Option Text × List Text))) → bounds s.frames ≡ fs → bounds t.frames ≡ fs → bounds (if b then s else t).frames ≡ fs
chosen true s t fs one two = one
chosen false s t fs one two = two

pub assigned_bounds : (name : Text) (value : Value) (s : Scopes) → bounds (assign name value s).frames ≡ bounds s.frames
assigned_bounds name value s = chosen _ (record s { frames = rebound_in (module_of s.frames) s.frames name value }) _ _ (rebound_bounds (module_of s.frames) s.frames name value) refl

-- a binding changes the newest frame alone
bound_below : (b : Binding) (fs : List Frame) → drop 1 (bounds (with_binding b fs)) ≡ drop 1 (bounds fs)
bound_below b [] = refl
bound_below b (f ∷ fs) = refl

below : (fs : List Frame) → bounds (drop 1 fs) ≡ drop 1 (bounds fs)
below [] = refl
below (f ∷ fs) = refl

-- the frames below the newest one are those that stood, and so are the marked worlds and whether a step is open
abbrev pub SameBelow : {R : Type 0} → State R → State R → Type 0
SameBelow s later =
    (drop 1 (bounds later.worlds.now.scopes.frames) ≡ drop 1 (bounds s.worlds.now.scopes.frames))
    × (later.worlds.marked ≡ s.worlds.marked) × (is_some later.worlds.now.step ≡ is_some s.worlds.now.step)

left_frames : {R A : Type 0} (s : State R) (t : Told A R) → EndsTold FramesLeft s t → EndsTold SameFrames s t
left_frames s (answers a worlds kept) h = (ap bounds h.frames, h.marked, h.step)
left_frames s (refuses cause worlds kept) h = (ap bounds h.frames, h.marked, h.step)

same_frames : {R : Type 0} (s : State R) → SameFrames s s
same_frames s = (refl, refl, refl)

pub frames_kept : {R : Type 0} (setting : Setting R) → KeepFrames setting → IsKept setting SameFrames SameBelow
frames_kept setting natives = record {
  same = same_frames;
  chain = λ a b c one two. (two.0 ∙ one.0, two.1 ∙ one.1, two.2 ∙ one.2);
  chain_loose = λ a b c one two. (two.0 ∙ one.0, two.1 ∙ one.1, two.2 ∙ one.2);
  loosen = λ s later h. (ap (drop 1) h.0, h.1, h.2);
  turn = λ s left is. same_frames s;
  assigns = λ name value s. (assigned_bounds name value s.worlds.now.scopes, refl, refl);
  binds = λ name value s. (bound_below (name, value) s.worlds.now.scopes.frames, refl, refl);
  frame = λ owner s later h. (below later.worlds.now.scopes.frames ∙ h.0, h.1, h.2);
  call_frame = λ owner s later h. (below later.worlds.now.scopes.frames ∙ h.0, h.1, h.2);
  sets_own = λ target name value s. same_frames s;
  rules = λ name params block path line s. same_frames s;
  actions = λ name body s. same_frames s;
  roots = λ s. same_frames s;
  native = λ name given line s. left_frames s (native_answer setting name given line s) (natives.native name given line s);
  records = λ name given line s. left_frames s (acted_answer setting name given line s) (natives.records name given line s);
}

pub back_same : {R A : Type 0} (s : State R) (o : Outcome R A) → Ends SameWorlds s (back_to s.worlds o)
back_same s (gives a later) = refl
back_same s (faults fault later) = refl

same_rest : {R A : Type 0} (s : State R) (t : Told A R) → EndsTold SameWorlds s t → EndsTold SameRest s t
same_rest s (answers a worlds now) h =
    (ap (λ ws. ws.now.parents) h, ap (λ ws. ws.now.place) h, ap (λ ws. ws.now.roots) h, ap (λ ws. ws.now.step) h, ap (λ ws. ws.marked) h)
same_rest s (refuses cause worlds now) h =
    (ap (λ ws. ws.now.parents) h, ap (λ ws. ws.now.place) h, ap (λ ws. ws.now.roots) h, ap (λ ws. ws.now.step) h, ap (λ ws. ws.marked) h)

same : {R : Type 0} (s : State R) → SameRest s s
same s = (refl, refl, refl, refl, refl)

pub rest_kept : {R : Type 0} (setting : Setting R) → ChangeNothing setting → IsKept setting SameRest SameRest
rest_kept setting natives = record {
  same = same;
  chain = λ a b c one two. (two.0 ∙ one.0, two.1 ∙ one.1, two.2 ∙ one.2, two.3 ∙ one.3, two.4 ∙ one.4);
  chain_loose = λ a b c one two. (two.0 ∙ one.0, two.1 ∙ one.1, two.2 ∙ one.2, two.3 ∙ one.3, two.4 ∙ one.4);
  loosen = λ s later h. h;
  turn = λ s left is. same s;
  assigns = λ name value s. same s;
  binds = λ name value s. same s;
  frame = λ owner s later h. h;
  call_frame = λ owner s later h. h;
  sets_own = λ target name value s. same s;
  rules = λ name params block path line s. same s;
  actions = λ name body s. same s;
  roots = λ s. same s;
  native = λ name given line s. same_rest s (native_answer setting name given line s) (natives.native name given line s);
  records = λ name given line s. same_rest s (acted_answer setting name given line s) (natives.records name given line s);
}

pub parents_kept : {R : Type 0} (setting : Setting R) → KeepParents setting → IsKept setting SameParents SameParents
parents_kept setting natives = record {
  same = λ s. refl;
  chain = λ a b c one two. two ∙ one;
  chain_loose = λ a b c one two. two ∙ one;
  loosen = λ s later h. h;
  turn = λ s left is. refl;
  assigns = λ name value s. refl;
  binds = λ name value s. refl;
  frame = λ owner s later h. h;
  call_frame = λ owner s later h. h;
  sets_own = λ target name value s. refl;
  rules = λ name params block path line s. refl;
  actions = λ name body s. refl;
  roots = λ s. refl;
  native = λ name given line s. natives.native name given line s;
  records = λ name given line s. natives.records name given line s;
}
