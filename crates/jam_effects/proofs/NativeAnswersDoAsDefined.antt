-- What natives answer does what is defined.
use Rattle.std.proofs.Common.{◌≡◌, ◌⊎◌, inl, inr, ◌∙◌, ◌++◌, ℕ, suc, List, drop, Option, Some, None, Result, Ok, Err, refl, sym, ap, subst, arith}
use Rattle.std.specs.Option.{IfSome}
use Rattle.b2_host.specs.Disks.{Folder, Disk}
use Rattle.b2_host.specs.Outside.{Outside}
use Rattle.b2_host.specs.OutsideLaws.{Keeps, keeps_same, keeps_fails}
use Rattle.jam_journal.specs.Tables.{Text}
use Rattle.jam_journal.specs.Scopes.{Value}
use Rattle.jam_scope.specs.Worlds.{Worlds}
use Rattle.jam_meaning.specs.declared.native_answer.NativeStep.{NativeStep}
use Rattle.jam_meaning.specs.declared.native_answer.NativeError.{NativeError}
use Rattle.jam_meaning.specs.declared.native_answer.NativeError.TheVariants as errors
use Rattle.jam_meaning.specs.Faults.{Spot, Cause, native, arity, refused_in}
use Rattle.jam_meaning.specs.Laws.{bounds}
use Rattle.jam_meaning.specs.States.{State}
use Rattle.jam_meaning.specs.Settings as settings
use Rattle.jam_meaning.specs.Settings.{Sight, IsSight, Told, Meaning, Setting}
use Rattle.jam_meaning.specs.Refused.{refused_here, Refuses}
use Rattle.jam_meaning.specs.RefusedLaws.{here_named}
use Rattle.jam_meaning.specs.Kept.{Ends, EndsTold, Grows, Begins}
use Rattle.jam_meaning.specs.NativeCalls.{IsMeant, StaysKept, CallsAsMeant, KeepsFrames, LooksAt, refused_of as refused_natively}
use Rattle.jam_meaning.specs.RuleCalls.{as_told, native_answer}
use Rattle.jam_effects.specs.declared.at.At.{At}
use Rattle.jam_effects.specs.declared.turns.Turns.{Turns}
use Rattle.jam_effects.specs.declared.fault.EvalFault.{EvalFault}
use Rattle.jam_effects.specs.declared.fault.EvalFault.TheVariants as fault
use Rattle.jam_effects.specs.Causes.{IsFault, HoldsNoMemory, refused_of}
use Rattle.jam_effects.specs.Spots.{spot_of}
use Rattle.jam_effects.specs.AskedNatives.{heard, native_step_at, IsNativeFault}
use Rattle.jam_effects.specs.Machines.{machine, state_of, folder_of, IsSettingOf}
use Rattle.jam_effects.specs.Does.{kinds, Stays, Counts, Agrees, DoesInCall}
use Rattle.jam_effects.specs.Views.{step}
use Rattle.jam_effects.proofs.OrderedCallsDoAsDefined.{fault_agrees, fault_whole}

-- what was refused in a call is what the setting names in it
pub here_is : (refused : Option (ℕ × Text)) (left : ℕ) (text : Option Text) → Refuses refused (suc left) left text → refused_here refused left ≡ text
here_is refused left None h = h left (omega arith) (omega arith)
here_is refused left (Some text) h = here_named refused left text h

seen : (d : Option Disk) (folder : Folder) (P : Folder → Type 0) → folder_of d ≡ Some folder → IfSome d (λ disk. P disk.now) → P folder
seen None folder P e h = cc
seen (Some disk) folder P e h = (let same : disk.now ≡ folder = cc in subst P same h)

-- the outside, after a call of natives
looks_disk : {A : Type 0} (before after : Outside) (r : Result A NativeError) → LooksAt before after r → after.disk ≡ before.disk
looks_disk before after (Ok a) h = ap (λ o. o.disk) h
looks_disk before after (Err (errors.Fault f)) h = ap (λ o. o.disk) h
looks_disk before after (Err errors.Arity) h = ap (λ o. o.disk) h
looks_disk before after (Err errors.Host) h = ap (λ o. o.disk) h.same
looks_disk before after (Err errors.OutOfMemory) h = ap (λ o. o.disk) h

looks_children : {A : Type 0} (before after : Outside) (r : Result A NativeError) → LooksAt before after r → after.children ≡ before.children
looks_children before after (Ok a) h = ap (λ o. o.children) h
looks_children before after (Err (errors.Fault f)) h = ap (λ o. o.children) h
looks_children before after (Err errors.Arity) h = ap (λ o. o.children) h
looks_children before after (Err errors.Host) h = ap (λ o. o.children) h.same
looks_children before after (Err errors.OutOfMemory) h = ap (λ o. o.children) h

looks_keeps : {A : Type 0} (before after : Outside) (r : Result A NativeError) → LooksAt before after r → Keeps before after
looks_keeps before after (Ok a) h = keeps_same before after h
looks_keeps before after (Err (errors.Fault f)) h = keeps_same before after h
looks_keeps before after (Err errors.Arity) h = keeps_same before after h
looks_keeps before after (Err errors.Host) h = keeps_fails before after h
looks_keeps before after (Err errors.OutOfMemory) h = keeps_same before after h

-- a fault at a spot counts as none of the host
fault_of : (spot : Spot) (cause : Cause) (e : EvalFault) (before after : Outside) → IsFault spot cause e → after ≡ before → Counts {A = NativeStep} (Err e) before after
fault_of spot cause fault.Host before after h is = absurd h
fault_of spot cause fault.OutOfMemory before after h is = tt
fault_of spot cause (fault.At path line why) before after h is = ap (λ o. o.faults) is

-- natives answer an error, for which this fault stands
refused_so : (error : NativeError) (name : Text) (spot : Spot) (e : EvalFault) → IsNativeFault error name spot e → (e ≡ fault.OutOfMemory) ⊎ (refused_of {A = NativeStep} (Err e) ≡ refused_natively {A = NativeStep} (Err error))
refused_so (errors.Fault f) name spot fault.Host h = absurd h
refused_so (errors.Fault f) name spot fault.OutOfMemory h = inl refl
refused_so (errors.Fault f) name spot (fault.At path line why) h = inr (ap refused_in h.1)
refused_so errors.Arity name spot fault.Host h = absurd h
refused_so errors.Arity name spot fault.OutOfMemory h = inl refl
refused_so errors.Arity name spot (fault.At path line why) h = inr (ap refused_in h.1)
refused_so errors.Host name spot e h = inr (subst (λ x. refused_of {A = NativeStep} (Err x) ≡ None) (sym h) refl)
refused_so errors.OutOfMemory name spot e h = inl h

error_counts : (error : NativeError) (name : Text) (spot : Spot) (e : EvalFault) (o after : Outside) → IsNativeFault error name spot e → LooksAt {A = NativeStep} o after (Err error) → Counts {A = NativeStep} (Err e) o after
error_counts (errors.Fault f) name spot e o after h looks = fault_of spot (native f) e o after h looks
error_counts errors.Arity name spot e o after h looks = fault_of spot (arity name) e o after h looks
error_counts errors.Host name spot e o after h looks = subst (λ x. Counts {A = NativeStep} (Err x) o after) (sym h) looks.rose
error_counts errors.OutOfMemory name spot e o after h looks = subst (λ x. Counts {A = NativeStep} (Err x) o after) (sym h) tt

-- a fault that stands for an error of natives does not hold that memory ran out
pub error_whole : (error : NativeError) (name : Text) (spot : Spot) (e : EvalFault) → IsNativeFault error name spot e → HoldsNoMemory e
error_whole (errors.Fault f) name spot e h = fault_whole spot (native f) e h
error_whole errors.Arity name spot e h = fault_whole spot (arity name) e h
error_whole errors.Host name spot e h = subst HoldsNoMemory (sym h) tt
error_whole errors.OutOfMemory name spot e h = subst HoldsNoMemory (sym h) tt

module _ {R : Type 0} where
  stays_asked : (ws later : Worlds) (turns : Turns) (k now : R) (meaning same : Option (Meaning R)) (o after : Outside) (r : Result NativeStep NativeError)
      → same ≡ meaning → KeepsFrames ws later → LooksAt o after r → Stays (machine ws turns k meaning o) (machine later turns now same after)
  stays_asked ws later turns k now meaning same o after r means frames looks = record {
    turns = omega arith;
    budget = refl;
    meaning = means;
    frames = ap kinds frames.frames;
    outer = ap (λ fs. bounds (drop 1 fs)) frames.frames;
    marks = frames.marked;
    step = frames.step;
    disk = looks_disk o after r looks;
    children = looks_children o after r looks;
    keeps = looks_keeps o after r looks;
  }

  -- what is meant, for a right setting that names what was refused
  meant : (name : Text) (given : List Value) (at : At) (ws later : Worlds) (turns : Turns) (k now : R) (meaning : Option (Meaning R)) (o : Outside) (r : Result NativeStep NativeError) (setting : Setting R)
      → CallsAsMeant meaning o.disk name given at.line ws k r later now → IsSettingOf setting (machine ws turns k meaning o) → Refuses setting.refused (suc turns.left) turns.left (refused_natively r)
      → IsMeant (setting.natives.call name given at.line setting.sight (refused_here setting.refused turns.left) ws k) r later now
  meant name given at ws later turns k now meaning o r setting told right refuses =
      subst (λ t. IsMeant (setting.natives.call name given at.line setting.sight t ws k) r later now) (sym (here_is setting.refused turns.left (refused_natively r) refuses))
      (seen o.disk setting.sight.folder
      (λ folder. (sight : Sight) → IsSight sight → sight.folder ≡ folder → IsMeant (setting.natives.call name given at.line sight (refused_natively r) ws k) r later now)
      right.folder (told setting.natives right.natives) setting.sight right.right.sees refl)

  -- a fault of natives; where the host failed, they keep what they kept before
  told_begins : {A : Type 0} (look : R → List Text) (name : Text) (spot : Spot) (s from : State R) (told : Told A R) → from.kept ≡ s.kept → EndsTold (Grows look) s told → Ends (Grows look) from (heard name spot s told)
  told_begins look name spot s from (settings.answers a worlds kept) same (more, is) = (more, is ∙ ap (λ k. look k ++ more) (sym same))
  told_begins look name spot s from (settings.refuses cause worlds kept) same (more, is) = (more, is ∙ ap (λ k. look k ++ more) (sym same))

  step_begins : (setting : Setting R) (name : Text) (given : List Value) (at : At) (s : State R) (ws : Worlds) (now : R) → now ≡ s.kept → Begins setting (as_told ws now s) (native_step_at name given at setting s)
  step_begins setting name given at s ws now same = λ look adds.
      told_begins look name (spot_of at) s (as_told ws now s) (native_answer setting name given at.line s) same (adds.called name given at.line s)

  fault_heard : {A B : Type 0} (setting : Setting R) (view : A → B) (error : NativeError) (name : Text) (spot : Spot) (e : EvalFault) (told : Told B R) (s : State R) (ws : Worlds) (k : R)
      → IsNativeFault error name spot e → IsMeant told (Err error) ws k → (error ≡ errors.Host → Begins setting (as_told ws k s) (heard name spot s told)) → Agrees setting view (Err e) (heard name spot s told) (as_told ws k s)
  fault_heard setting view (errors.Fault f) name spot e told s ws k h is begins = fault_agrees setting view spot (native f) e (heard name spot s told) (as_told ws k s) h (ap (heard name spot s) is)
  fault_heard setting view errors.Arity name spot e told s ws k h is begins = fault_agrees setting view spot (arity name) e (heard name spot s told) (as_told ws k s) h (ap (heard name spot s) is)
  fault_heard setting view errors.Host name spot e told s ws k h is begins = subst (λ x. Agrees setting view (Err x) (heard name spot s told) (as_told ws k s)) (sym h) (begins refl)
  fault_heard setting view errors.OutOfMemory name spot e told s ws k h is begins = subst (λ x. Agrees setting view (Err x) (heard name spot s told) (as_told ws k s)) (sym h) tt

  -- what natives keep stays where the host failed
  stays_at_host : (error : NativeError) (k now : R) → StaysKept {A = NativeStep} (Err error) k now → error ≡ errors.Host → now ≡ k
  stays_at_host error k now stays is = subst (λ x. StaysKept {A = NativeStep} (Err x) k now) is stays

  -- natives answer a step
  pub native_ok : (name : Text) (given : List Value) (at : At) (ws later : Worlds) (turns : Turns) (k now : R) (meaning same : Option (Meaning R)) (o after : Outside) (st : NativeStep)
      → CallsAsMeant meaning o.disk name given at.line ws k (Ok st) later now → same ≡ meaning → KeepsFrames ws later → LooksAt {A = NativeStep} o after (Ok st)
      → DoesInCall step (native_step_at name given at) (machine ws turns k meaning o) (machine later turns now same after) (Ok st)
  native_ok name given at ws later turns k now meaning same o after st told means frames looks = record {
    told = λ setting right refuses. ap (heard name (spot_of at) (state_of (machine ws turns k meaning o))) (meant name given at ws later turns k now meaning o (Ok st) setting told right refuses);
    stays = stays_asked ws later turns k now meaning same o after (Ok st) means frames looks;
    counts = ap (λ p. p.faults) looks;
    whole = tt;
  }

  told_fails : (name : Text) (given : List Value) (at : At) (ws later : Worlds) (turns : Turns) (k now : R) (meaning : Option (Meaning R)) (o : Outside) (error : NativeError) (e : EvalFault) (setting : Setting R)
      → CallsAsMeant meaning o.disk name given at.line ws k (Err error) later now → StaysKept {A = NativeStep} (Err error) k now → IsNativeFault error name (spot_of at) e → IsSettingOf setting (machine ws turns k meaning o)
      → Refuses setting.refused (suc turns.left) turns.left (refused_of {A = NativeStep} (Err e)) → (e ≡ fault.OutOfMemory) ⊎ (refused_of {A = NativeStep} (Err e) ≡ refused_natively {A = NativeStep} (Err error))
      → Agrees setting step (Err e) (native_step_at name given at setting (state_of (machine ws turns k meaning o))) (as_told later now (state_of (machine ws turns k meaning o)))
  told_fails name given at ws later turns k now meaning o error e setting told kept h right refuses (inl memory) =
      subst (λ x. Agrees setting step (Err x) (native_step_at name given at setting (state_of (machine ws turns k meaning o))) (as_told later now (state_of (machine ws turns k meaning o)))) (sym memory) tt
  told_fails name given at ws later turns k now meaning o error e setting told kept h right refuses (inr same) =
      fault_heard setting step error name (spot_of at) e (native_answer setting name given at.line (state_of (machine ws turns k meaning o))) (state_of (machine ws turns k meaning o)) later now h
      (meant name given at ws later turns k now meaning o (Err error) setting told right (subst (λ t. Refuses setting.refused (suc turns.left) turns.left t) same refuses))
      (λ is. step_begins setting name given at (state_of (machine ws turns k meaning o)) later now (stays_at_host error k now kept is))

  pub native_fails : (name : Text) (given : List Value) (at : At) (ws later : Worlds) (turns : Turns) (k now : R) (meaning same : Option (Meaning R)) (o after : Outside) (error : NativeError) (e : EvalFault)
      → CallsAsMeant meaning o.disk name given at.line ws k (Err error) later now → StaysKept {A = NativeStep} (Err error) k now → same ≡ meaning → KeepsFrames ws later → LooksAt {A = NativeStep} o after (Err error) → IsNativeFault error name (spot_of at) e
      → DoesInCall step (native_step_at name given at) (machine ws turns k meaning o) (machine later turns now same after) (Err e)
  native_fails name given at ws later turns k now meaning same o after error e told kept means frames looks h = record {
    told = λ setting right refuses. told_fails name given at ws later turns k now meaning o error e setting told kept h right refuses (refused_so error name (spot_of at) e h);
    stays = stays_asked ws later turns k now meaning same o after (Err error) means frames looks;
    counts = error_counts error name (spot_of at) e o after h looks;
    whole = error_whole error name (spot_of at) e h;
  }
