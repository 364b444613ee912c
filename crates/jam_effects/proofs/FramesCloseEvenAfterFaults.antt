-- What is done in a frame, which is closed after it, also after a fault.
use Rattle.std.proofs.Common.{◌≡◌, List, [], ◌∷◌, drop, map, Option, is_some, Result, Ok, Err, refl, sym, ap, ◌∙◌, subst}
use Rattle.jam_journal.specs.Tables.{Text}
use Rattle.jam_journal.specs.Scopes.{Frame, Scopes, Binding, enter, leave, bind, bind_each, with_binding}
use Rattle.jam_scope.specs.Worlds.{Worlds}
use Rattle.jam_scope.specs.Changes.{rescoped}
use Rattle.jam_meaning.specs.States.{State, with_scopes}
use Rattle.jam_meaning.specs.Settings.{Setting}
use Rattle.jam_meaning.specs.Outcomes.{Outcome, gives, faults, in_module, close_frame}
use Rattle.jam_meaning.specs.Laws.{bounds}
use Rattle.jam_meaning.proofs.RecordsOnlyGrow.{close_begins}
use Rattle.jam_effects.specs.declared.fault.EvalFault.{EvalFault}
use Rattle.jam_effects.specs.declared.fault.EvalFault.TheVariants as fault
use Rattle.jam_effects.specs.Causes.{cause_of}
use Rattle.jam_effects.specs.Machines.{Machine, state_of}
use Rattle.jam_effects.specs.Does.{kinds, Stays, Agrees, Does}

-- frames whose names are equal are of equal kinds
kinds_of_bounds : (fs : List Frame) → kinds fs ≡ map (λ (b : Text × (Option Text × List Text)). (b.0, b.1.0)) (bounds fs)
kinds_of_bounds [] = refl
kinds_of_bounds (f ∷ fs) = ap (λ ks. (f.owner, f.caller) ∷ ks) (kinds_of_bounds fs)

pub same_kinds : (fs gs : List Frame) → bounds fs ≡ bounds gs → kinds fs ≡ kinds gs
same_kinds fs gs e = kinds_of_bounds fs ∙ ap (map (λ (b : Text × (Option Text × List Text)). (b.0, b.1.0))) e ∙ sym (kinds_of_bounds gs)

pub outer_of : (fs gs : List Frame) → bounds fs ≡ bounds gs → bounds (drop 1 fs) ≡ bounds (drop 1 gs)
outer_of [] [] e = refl
outer_of [] (g ∷ gs) e = cc
outer_of (f ∷ fs) [] e = cc
outer_of (f ∷ fs) (g ∷ gs) e = cc

-- bindings change no frame but the newest
bound_outer : (bs : List Binding) (s : Scopes) → drop 1 (bind_each bs s).frames ≡ drop 1 s.frames
bound_outer [] s = refl
bound_outer (b ∷ bs) s = bound_outer bs (bind b.0 b.1 s) ∙ with_one (b.0, b.1) s.frames
  where
    with_one : (c : Binding) (fs : List Frame) → drop 1 (with_binding c fs) ≡ drop 1 fs
    with_one c [] = refl
    with_one c (f ∷ fs) = refl

module _ {R : Type 0} where
  agrees_closed : {A B : Type 0} (setting : Setting R) (view : A → B) (result : Result A EvalFault) (o : Outcome R B) (n : Machine R) (closed : Worlds)
      → closed ≡ rescoped leave n.worlds → Agrees setting view result o (state_of n) → Agrees setting view result (close_frame o) (state_of (record n { worlds = closed }))
  agrees_closed setting view (Ok v) o n closed e h = ap close_frame h ∙ ap (λ ws. gives (view v) (state_of (record n { worlds = ws }))) (sym e)
  agrees_closed setting view (Err fault.Host) o n closed e h = close_begins setting o (state_of n) h
  agrees_closed setting view (Err fault.OutOfMemory) o n closed e h = tt
  agrees_closed setting view (Err (fault.At path line why)) o n closed e h = ap close_frame h ∙ ap (λ ws. faults (record { spot = record { path = path; line = line }; cause = cause_of why }) (state_of (record n { worlds = ws }))) (sym e)

  does_same : {A B : Type 0} (view : A → B) (what other : Setting R → State R → Outcome R B) (a b : Machine R) (result : Result A EvalFault)
      → ((setting : Setting R) → what setting (state_of a) ≡ other setting (state_of a)) → Does view other a b result → Does view what a b result
  does_same view what other a b result e h = record {
    told = λ setting is refuses. subst (λ o. Agrees setting view result o (state_of b)) (sym (e setting)) (h.told setting is refuses);
    stays = h.stays;
    counts = h.counts;
    whole = h.whole;
    took = h.took;
  }

  -- The frame that was opened is closed again: all frames are those of entry, but for the values of their names.
  pub all_frames : (m : Machine R) (entered : Worlds) (n : Machine R) (closed : Worlds)
      → drop 1 entered.now.scopes.frames ≡ m.worlds.now.scopes.frames → Stays (record m { worlds = entered }) n → closed ≡ rescoped leave n.worlds
      → bounds closed.now.scopes.frames ≡ bounds m.worlds.now.scopes.frames
  all_frames m entered n closed opened stays e = ap (λ ws. bounds ws.now.scopes.frames) e ∙ stays.outer ∙ ap bounds opened

  pub stays_closed : (m : Machine R) (entered : Worlds) (n : Machine R) (closed : Worlds)
      → drop 1 entered.now.scopes.frames ≡ m.worlds.now.scopes.frames → entered.marked ≡ m.worlds.marked → is_some entered.now.step ≡ is_some m.worlds.now.step
      → Stays (record m { worlds = entered }) n → closed ≡ rescoped leave n.worlds → Stays m (record n { worlds = closed })
  stays_closed m entered n closed opened marked step stays e = (let all = all_frames m entered n closed opened stays e in record {
    turns = stays.turns;
    budget = stays.budget;
    meaning = stays.meaning;
    frames = same_kinds closed.now.scopes.frames m.worlds.now.scopes.frames all;
    outer = outer_of closed.now.scopes.frames m.worlds.now.scopes.frames all;
    marks = ap (λ ws. ws.marked) e ∙ stays.marks ∙ marked;
    step = ap (λ ws. is_some ws.now.step) e ∙ stays.step ∙ step;
    disk = stays.disk;
    children = stays.children;
    keeps = stays.keeps;
  })

  -- What is done after a frame was opened, which is closed then.
  pub closed_does : {A B : Type 0} (view : A → B) (act : Setting R → State R → Outcome R B) (m : Machine R) (entered : Worlds) (n : Machine R) (closed : Worlds) (result : Result A EvalFault)
      → drop 1 entered.now.scopes.frames ≡ m.worlds.now.scopes.frames → entered.marked ≡ m.worlds.marked → is_some entered.now.step ≡ is_some m.worlds.now.step
      → Does view act (record m { worlds = entered }) n result → closed ≡ rescoped leave n.worlds
      → Does view (λ setting s. close_frame (act setting (record s { worlds = entered }))) m (record n { worlds = closed }) result
  closed_does view act m entered n closed result opened marked step h e = record {
    told = λ setting is refuses. agrees_closed setting view result (act setting (state_of (record m { worlds = entered }))) n closed e
        (h.told setting (record { budget = is.budget; natives = is.natives; folder = is.folder; right = is.right }) refuses);
    stays = stays_closed m entered n closed opened marked step h.stays e;
    counts = h.counts;
    whole = h.whole;
    took = h.took;
  }

  -- a frame of a module
  pub in_frame_does : {A B : Type 0} (view : A → B) (owner : Text) (act : Setting R → State R → Outcome R B) (m : Machine R) (entered : Worlds) (n : Machine R) (closed : Worlds) (result : Result A EvalFault)
      → entered ≡ rescoped (enter owner) m.worlds → Does view act (record m { worlds = entered }) n result → closed ≡ rescoped leave n.worlds
      → Does view (λ setting. in_module owner (act setting)) m (record n { worlds = closed }) result
  in_frame_does view owner act m entered n closed result opened h e =
      does_same view (λ setting. in_module owner (act setting)) (λ setting s. close_frame (act setting (record s { worlds = entered }))) m (record n { worlds = closed }) result
      (λ setting. ap (λ ws. close_frame (act setting (state_of (record m { worlds = ws })))) (sym opened))
      (closed_does view act m entered n closed result (ap (λ ws. drop 1 ws.now.scopes.frames) opened) (ap (λ ws. ws.marked) opened) (ap (λ ws. is_some ws.now.step) opened) h e)

  -- a frame in which names are bound before
  pub bound_does : {A B : Type 0} (view : A → B) (act : Setting R → State R → Outcome R B) (m : Machine R) (first : Scopes → Scopes) (bs : List Binding) (entered : Worlds) (n : Machine R) (closed : Worlds) (result : Result A EvalFault)
      → ((s : Scopes) → drop 1 (first s).frames ≡ s.frames) → entered ≡ rescoped (bind_each bs) (rescoped first m.worlds) → Does view act (record m { worlds = entered }) n result → closed ≡ rescoped leave n.worlds
      → Does view (λ setting s. close_frame (act setting (with_scopes (bind_each bs) (with_scopes first s)))) m (record n { worlds = closed }) result
  bound_does view act m first bs entered n closed result one opened h e =
      does_same view (λ setting s. close_frame (act setting (with_scopes (bind_each bs) (with_scopes first s)))) (λ setting s. close_frame (act setting (record s { worlds = entered }))) m (record n { worlds = closed }) result
      (λ setting. ap (λ ws. close_frame (act setting (state_of (record m { worlds = ws })))) (sym opened))
      (closed_does view act m entered n closed result (ap (λ ws. drop 1 ws.now.scopes.frames) opened ∙ bound_outer bs (first m.worlds.now.scopes) ∙ one m.worlds.now.scopes)
      (ap (λ ws. ws.marked) opened) (ap (λ ws. is_some ws.now.step) opened) h e)
