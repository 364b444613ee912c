-- Changes of the worlds that keep the frames, but for the values of names and for what the newest one binds.
use Rattle.std.proofs.Common.{◌≡◌, List, [], ◌∷◌, drop, is_some, Result, Ok, Err, OnOk, OnErr, refl, sym, ◌∙◌, subst}
use Rattle.jam_journal.specs.Tables.{Text}
use Rattle.jam_journal.specs.Scopes.{Value, Binding, Frame, with_binding, bind, assign, append}
use Rattle.jam_scope.specs.Worlds.{Worlds}
use Rattle.jam_scope.specs.Changes.{changed, rescoped, set_on}
use Rattle.jam_meaning.specs.Laws.{bounds}
use Rattle.jam_meaning.proofs.FramesStay.{assigned_bounds}
use Rattle.jam_effects.specs.Does.{kinds}
use Rattle.jam_effects.specs.Naming.{SameFrames}
use Rattle.jam_effects.proofs.FramesCloseEvenAfterFaults.{same_kinds, outer_of}

-- all frames bind the names that they bound
same_bounds : (before after : Worlds) → bounds after.now.scopes.frames ≡ bounds before.now.scopes.frames → after.marked ≡ before.marked → is_some after.now.step ≡ is_some before.now.step → SameFrames before after
same_bounds before after all marks step = record {
  frames = same_kinds after.now.scopes.frames before.now.scopes.frames all;
  outer = outer_of after.now.scopes.frames before.now.scopes.frames all;
  marks = marks;
  step = step;
}

pub same_worlds : (ws : Worlds) → SameFrames ws ws
same_worlds ws = record { frames = refl; outer = refl; marks = refl; step = refl }

pub same_then : (a b c : Worlds) → SameFrames a b → SameFrames b c → SameFrames a c
same_then a b c one two = record {
  frames = two.frames ∙ one.frames;
  outer = two.outer ∙ one.outer;
  marks = two.marks ∙ one.marks;
  step = two.step ∙ one.step;
}

pub same_equal : (before after : Worlds) → after ≡ before → SameFrames before after
same_equal before after e = subst (λ ws. SameFrames before ws) (sym e) (same_worlds before)

pub same_assigned : (name : Text) (value : Value) (before after : Worlds) → after ≡ rescoped (assign name value) before → SameFrames before after
same_assigned name value before after e =
    subst (λ ws. SameFrames before ws) (sym e) (same_bounds before (rescoped (assign name value) before) (assigned_bounds name value before.now.scopes) refl refl)

pub same_appended : (name : Text) (texts : Value) (before after : Worlds) → after ≡ rescoped (append name texts) before → SameFrames before after
same_appended name texts before after e =
    subst (λ ws. SameFrames before ws) (sym e)
    (same_bounds before (rescoped (append name texts) before) (assigned_bounds name _ before.now.scopes) refl refl)

pub same_set_on : (target name : Text) (value : Value) (before after : Worlds) → after ≡ changed (set_on target name value) before → SameFrames before after
same_set_on target name value before after e = subst (λ ws. SameFrames before ws) (sym e) (record { frames = refl; outer = refl; marks = refl; step = refl })

-- binding changes no frame but the newest
bound_kinds : (b : Binding) (fs : List Frame) → kinds (with_binding b fs) ≡ kinds fs
bound_kinds b [] = refl
bound_kinds b (f ∷ fs) = refl

bound_after : (b : Binding) (fs : List Frame) → bounds (drop 1 (with_binding b fs)) ≡ bounds (drop 1 fs)
bound_after b [] = refl
bound_after b (f ∷ fs) = refl

pub same_bound : (name : Text) (value : Value) (before after : Worlds) → after ≡ rescoped (bind name value) before → SameFrames before after
same_bound name value before after e =
    subst (λ ws. SameFrames before ws) (sym e)
    (record { frames = bound_kinds (name, value) before.now.scopes.frames; outer = bound_after (name, value) before.now.scopes.frames; marks = refl; step = refl })

-- setting a name, or failing to
pub same_either : {T E : Type 0} (r : Result T E) (name : Text) (value : Value) (before after : Worlds) → OnOk r (after ≡ rescoped (assign name value) before) → OnErr r (after ≡ before) → SameFrames before after
same_either (Ok x) name value before after ok err = same_assigned name value before after ok
same_either (Err e) name value before after ok err = same_equal before after err
