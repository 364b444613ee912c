-- What an include does, exit by exit.
use Rattle.std.proofs.Common.{◌≡◌, inl, inr, Bool, true, false, [], ◌∷◌, Option, Some, None, Result, Ok, Err, refl, sym, ap, ◌∙◌, subst, arith}
use Rattle.std.specs.Option.{IfSome}
use Rattle.b2_base.specs.Segments.{path_from}
use Rattle.b2_host.specs.Disks.{Folder, Disk}
use Rattle.b2_host.specs.Outside.{Outside}
use Rattle.jam_grammar.specs.declared.tree.Block.{Block}
use Rattle.jam_grammar.specs.Trees.{StmtTrees, whole_tree, block_tree}
use Rattle.jam_journal.specs.Tables.{Text}
use Rattle.jam_journal.specs.Scopes.{leave}
use Rattle.jam_scope.specs.Worlds.{Worlds}
use Rattle.jam_scope.specs.Changes.{rescoped, changed, freeze_roots, module_in}
use Rattle.jam_meaning.specs.Faults.{Spot, Cause, include}
use Rattle.jam_meaning.specs.Refused.{TookTurn}
use Rattle.jam_meaning.specs.States.{State}
use Rattle.jam_meaning.specs.Settings.{Setting, Reading, is_missing, is_too_big, has_no_tokens, has_no_tree, is_file, IsReading}
use Rattle.jam_meaning.specs.Outcomes.{Outcome, gives, Flow, goes_on, then_do, either, fault_at, in_frame, in_module}
use Rattle.jam_meaning.specs.Includes.{is_in_roots, read_so, file_ended}
use Rattle.jam_effects.specs.declared.at.At.{At}
use Rattle.jam_effects.specs.declared.including.IncludedFile.{IncludedFile}
use Rattle.jam_effects.specs.declared.flow.Flow.{Flow as Way}
use Rattle.jam_effects.specs.declared.fault.EvalFault.{EvalFault}
use Rattle.jam_effects.specs.declared.fault.EvalFault.TheVariants as fault
use Rattle.jam_effects.specs.Causes.{refused_of}
use Rattle.jam_effects.specs.Spots.{spot_of}
use Rattle.jam_effects.specs.Framing.{entered}
use Rattle.jam_effects.specs.Including.{file_of, IsReadFault, IsFileOf, IsFrozen, Looked}
use Rattle.jam_effects.specs.Naming.{SameFrames}
use Rattle.jam_effects.specs.Machines.{Machine, folder_of, state_of, IsSettingOf}
use Rattle.jam_effects.specs.Does.{Stays, Agrees, Does, Leads}
use Rattle.jam_effects.specs.Views.{flow_of, What, IsFileEnd}
use Rattle.jam_interp.specs.FunctionParts.{deep, deeper_at, included_at}
use Rattle.jam_meaning.proofs.RecordsOnlyGrow.{then_begins, same_begins, begins_from, file_begins, included_begins}
use Rattle.jam_effects.proofs.OrderedCallsDoAsDefined.{led, fault_agrees}
use Rattle.jam_effects.proofs.FramesCloseEvenAfterFaults.{in_frame_does}
use Rattle.jam_interp.proofs.ArgumentsDoAsDefined.{does_by}

-- what a call tells of visible files, where they are visible
with_disk : (d : Option Disk) (folder : Folder) (P : Reading → Type 0) (path : Text) (reading : Reading) → folder_of d ≡ Some folder → IsReading folder path reading
    → IfSome d (λ disk. (r : Reading) → IsReading disk.now path r → P r) → P reading
with_disk None folder P path reading e is h = cc
with_disk (Some disk) folder P path reading e is h = (let same : disk.now ≡ folder = cc in h reading (subst (λ f. IsReading f path reading) (sym same) is))

-- freezing the roots changes no frame
same_frozen : (before after : Worlds) (result : Result IncludedFile EvalFault) → IsFrozen before after result → SameFrames before after
same_frozen before after (Ok file) is = frozen before after is
  where
    frozen : (a b : Worlds) → b ≡ changed freeze_roots a → SameFrames a b
    frozen a b e = subst (λ w. SameFrames a w) (sym e) (record { frames = refl; outer = refl; marks = refl; step = refl })
same_frozen before after (Err fault.Host) is = subst (λ w. SameFrames before w) (sym is) (record { frames = refl; outer = refl; marks = refl; step = refl })
same_frozen before after (Err fault.OutOfMemory) (inl is) = subst (λ w. SameFrames before w) (sym is) (record { frames = refl; outer = refl; marks = refl; step = refl })
same_frozen before after (Err fault.OutOfMemory) (inr is) = subst (λ w. SameFrames before w) (sym is) (record { frames = refl; outer = refl; marks = refl; step = refl })
same_frozen before after (Err (fault.At path line why)) is = subst (λ w. SameFrames before w) (sym is) (record { frames = refl; outer = refl; marks = refl; step = refl })

module _ {R : Type 0} where
  -- what a file of statements does, or its fault
  abbrev pub file_runs : Text → StmtTrees → At → What R Flow
  file_runs path tree at = λ setting s. then_do (file_ended (in_frame (λ s₁. (deep at setting).stmts tree path (spot_of at) s₁) s)) (λ ended. λ s₁. gives goes_on s₁)

  abbrev pub by_file : Result StmtTrees (Spot × Cause) → Text → At → What R Flow
  by_file (Ok tree) path at = file_runs path tree at
  by_file (Err cause) path at = λ setting s. fault_at cause.0 cause.1 s

  read_is : (setting : Setting R) (below : Bool) (reading : Reading) (path : Text) (at : At) (s : State R)
      → either below (λ s₁. fault_at (spot_of at) (include path) s₁) (λ s₁. read_so setting (deep at setting) reading path (spot_of at) s₁) s ≡ by_file (file_of below reading path (spot_of at)) path at setting s
  read_is setting true reading path at s = refl
  read_is setting false is_missing path at s = refl
  read_is setting false (is_too_big size) path at s = refl
  read_is setting false (has_no_tokens f) path at s = refl
  read_is setting false (has_no_tree line found) path at s = refl
  read_is setting false (is_file tree) path at s = refl

  abbrev pub path_at : Text → Machine R → Text
  path_at name m = path_from m.worlds.now.place name

  -- the machine after a file was read
  abbrev pub after_reading : Machine R → Worlds → Outside → Machine R
  after_reading m ws o = record m { worlds = ws; outside = o }

  -- what reading the file of an include tells of it
  abbrev pub Tells_file : Text → At → Machine R → Result IncludedFile EvalFault → Type 0
  Tells_file name at m result =
      IfSome m.outside.disk (λ disk. (reading : Reading) → IsReading disk.now (path_at name m) reading
      → IsFileOf (file_of (is_in_roots m.worlds.now (path_at name m)) reading (path_at name m) (spot_of at)) (path_at name m) result)

  file_so : (name : Text) (at : At) (m : Machine R) (result : Result IncludedFile EvalFault) (setting : Setting R) → IsSettingOf setting m → Tells_file name at m result
      → IsFileOf (file_of (is_in_roots m.worlds.now (path_at name m)) (setting.reading (path_at name m)) (path_at name m) (spot_of at)) (path_at name m) result
  file_so name at m result setting is told =
      with_disk m.outside.disk setting.sight.folder (λ r. IsFileOf (file_of (is_in_roots m.worlds.now (path_at name m)) r (path_at name m) (spot_of at)) (path_at name m) result) (path_at name m) (setting.reading (path_at name m))
      is.folder (is.right.reads (path_at name m)) told

  stays_read : (m : Machine R) (ws : Worlds) (o : Outside) (result : Result IncludedFile EvalFault) → IsFrozen m.worlds ws result → Looked m.outside o result → Stays m (after_reading m ws o)
  stays_read m ws o result frozen looked = (let same = same_frozen m.worlds ws result frozen in record {
    turns = omega arith;
    budget = refl;
    meaning = refl;
    frames = same.frames;
    outer = same.outer;
    marks = same.marks;
    step = same.step;
    disk = looked.disk;
    children = looked.children;
    keeps = looked.keeps;
  })

  -- the file cannot be read
  read_agrees : (e : EvalFault) (name : Text) (at : At) (m : Machine R) (ws : Worlds) (o : Outside) (setting : Setting R) → IsSettingOf setting m → IsFrozen m.worlds ws (Err e) → Tells_file name at m (Err e)
      → Agrees setting flow_of (Err e) (included_at name at setting (state_of m)) (state_of (after_reading m ws o))
  read_agrees fault.Host name at m ws o setting is frozen told =
      begins_from setting (included_at name at setting (state_of m)) (state_of m) (state_of (after_reading m ws o)) refl (included_begins setting at.levels (name ∷ []) (spot_of at) (state_of m))
  read_agrees fault.OutOfMemory name at m ws o setting is frozen told = tt
  read_agrees (fault.At path line why) name at m ws o setting is frozen told = go (file_so name at m (Err (fault.At path line why)) setting is told)
    where
      go : IsReadFault (file_of (is_in_roots m.worlds.now (path_at name m)) (setting.reading (path_at name m)) (path_at name m) (spot_of at)) (fault.At path line why)
          → Agrees setting flow_of (Err (fault.At path line why)) (included_at name at setting (state_of m)) (state_of (after_reading m ws o))
      go (cause, so, h) =
          fault_agrees setting flow_of cause.0 cause.1 (fault.At path line why) (included_at name at setting (state_of m)) (state_of (after_reading m ws o)) h
          (read_is setting (is_in_roots m.worlds.now (path_at name m)) (setting.reading (path_at name m)) (path_at name m) at (state_of (record m { worlds = changed freeze_roots m.worlds }))
          ∙ ap (λ f. by_file f (path_at name m) at setting (state_of (record m { worlds = changed freeze_roots m.worlds }))) so
          ∙ ap (λ w. fault_at cause.0 cause.1 (state_of (record m { worlds = w }))) (sym frozen))

  pub read_fails : (name : Text) (at : At) (m : Machine R) (ws : Worlds) (o : Outside) (e : EvalFault) → IsFrozen m.worlds ws (Err e) → Looked {A = IncludedFile} m.outside o (Err e) → Tells_file name at m (Err e) → refused_of {A = IncludedFile} (Err e) ≡ None
      → Does flow_of (included_at name at) m (after_reading m ws o) (Err e)
  read_fails name at m ws o e frozen looked told none = record {
    told = λ setting is refuses. read_agrees e name at m ws o setting is frozen told;
    stays = stays_read m ws o (Err e) frozen looked;
    counts = looked.counts;
    whole = looked.whole;
    took = subst (λ text. TookTurn text m.left m.left) (sym none) tt;
  }

  -- the file is read: its statements are left
  pub read_leads : (name : Text) (at : At) (m : Machine R) (ws : Worlds) (o : Outside) (file : IncludedFile) → IsFrozen m.worlds ws (Ok file) → Looked m.outside o (Ok file) → Tells_file name at m (Ok file)
      → Leads (included_at name at) (file_runs file.path (whole_tree file.tree) at) m (after_reading m ws o)
  read_leads name at m ws o file frozen looked told = record {
    told = λ setting is none. go setting (file_so name at m (Ok file) setting is told);
    stays = stays_read m ws o (Ok file) frozen looked;
    counts = looked.counts;
  }
    where
      go : (setting : Setting R) → IsFileOf (file_of (is_in_roots m.worlds.now (path_at name m)) (setting.reading (path_at name m)) (path_at name m) (spot_of at)) (path_at name m) (Ok file)
          → included_at name at setting (state_of m) ≡ file_runs file.path (whole_tree file.tree) at setting (state_of (after_reading m ws o))
      go setting (same, so) =
          read_is setting (is_in_roots m.worlds.now (path_at name m)) (setting.reading (path_at name m)) (path_at name m) at (state_of (record m { worlds = changed freeze_roots m.worlds }))
          ∙ ap (λ f. by_file f (path_at name m) at setting (state_of (record m { worlds = changed freeze_roots m.worlds }))) so
          ∙ ap (λ p. file_runs p (whole_tree file.tree) at setting (state_of (record m { worlds = changed freeze_roots m.worlds }))) (sym same)
          ∙ ap (λ w. file_runs file.path (whole_tree file.tree) at setting (state_of (record m { worlds = w }))) (sym frozen)

  -- what follows a file
  end_agrees : (setting : Setting R) (e : EvalFault) (o : Outcome R Flow) (s : State R) → Agrees setting flow_of (Err e) o s → Agrees setting flow_of (Err e) (then_do (file_ended o) (λ ended. λ s₁. gives goes_on s₁)) s
  end_agrees setting fault.Host o s h = then_begins setting (file_ended o) (λ ended s₁. gives goes_on s₁) s (file_begins setting o s h) (λ ended later. same_begins setting goes_on later)
  end_agrees setting fault.OutOfMemory o s h = tt
  end_agrees setting (fault.At path line why) o s h = ap (λ p. then_do (file_ended p) (λ ended. λ s₁. gives goes_on s₁)) h

  pub file_does : (what : What R Flow) (a b : Machine R) (ended result : Result Way EvalFault) → IsFileEnd ended result → Does flow_of what a b ended → Does flow_of (λ setting s. then_do (file_ended (what setting s)) (λ end_. λ s₁. gives goes_on s₁)) a b result
  file_does what a b (Ok way) result is h =
      subst (λ r. Does flow_of (λ setting s. then_do (file_ended (what setting s)) (λ end_. λ s₁. gives goes_on s₁)) a b r) (sym is)
      (record { told = λ setting right none. ap (λ o. then_do (file_ended o) (λ end_. λ s₁. gives goes_on s₁)) (h.told setting right none); stays = h.stays; counts = h.counts; whole = tt; took = h.took })
  file_does what a b (Err e) result is h =
      subst (λ r. Does flow_of (λ setting s. then_do (file_ended (what setting s)) (λ end_. λ s₁. gives goes_on s₁)) a b r) (sym is)
      (record { told = λ setting right refuses. end_agrees setting e (what setting (state_of a)) (state_of b) (h.told setting right refuses); stays = h.stays; counts = h.counts; whole = h.whole; took = h.took })

  pub included_runs : (name : Text) (at : At) (m : Machine R) (ws : Worlds) (o : Outside) (file : IncludedFile) (b : Block) (opened : Worlds) (n : Machine R) (closed : Worlds) (ended result : Result Way EvalFault)
      → whole_tree file.tree ≡ block_tree b → IsFrozen m.worlds ws (Ok file) → Looked m.outside o (Ok file) → Tells_file name at m (Ok file) → opened ≡ entered ws
      → Does flow_of (deeper_at b file.path at) (record (after_reading m ws o) { worlds = opened }) n ended → closed ≡ rescoped leave n.worlds → IsFileEnd ended result
      → Does flow_of (included_at name at) m (record n { worlds = closed }) result
  included_runs name at m ws o file b opened n closed ended result tree frozen looked told is h e ends =
      led flow_of (included_at name at) (file_runs file.path (whole_tree file.tree) at) m (after_reading m ws o) (record n { worlds = closed }) result (read_leads name at m ws o file frozen looked told)
      (subst (λ t. Does flow_of (file_runs file.path t at) (after_reading m ws o) (record n { worlds = closed }) result) (sym tree)
      (file_does (λ setting s. in_frame (λ s₁. deeper_at b file.path at setting s₁) s) (after_reading m ws o) (record n { worlds = closed }) ended result ends
      (does_by flow_of (λ setting s. in_frame (λ s₁. deeper_at b file.path at setting s₁) s) (λ setting. in_module (module_in ws.now) (deeper_at b file.path at setting)) (after_reading m ws o) (record n { worlds = closed }) ended (λ setting right. refl)
      (in_frame_does flow_of (module_in ws.now) (deeper_at b file.path at) (after_reading m ws o) opened n closed ended is h e))))
