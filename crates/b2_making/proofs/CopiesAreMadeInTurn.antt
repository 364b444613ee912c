-- Copies are placed and joined one after another, as the act says: each that is made, and the one that is refused.
use Rattle.std.proofs.Common.{◌≡◌, ℕ, ◌<◌, ◌≤◌, ◌+◌, Bool, true, false, List, [], ◌∷◌, ◌++◌, Option, Some, None, Result, Ok, Err, length, drop, get_or, refl, sym, ap, subst, codes, ◌⊎◌, arith}
use Rattle.b2_plan.specs.declared.step.Step.{Step}
use Rattle.b2_plan.specs.Sources.{IsInRoots}
use Rattle.b2_evaluator.specs.Answers.{Answers}
use Rattle.b2_virtual.specs.Joining.{stands_in, joined}
use Rattle.b2_virtual.specs.Clashes.{Fits}
use Rattle.b2_virtual.specs.Paths.{source_tail, located, IsPlaced}
use Rattle.b2_base.specs.Segments.{file_name}
use Rattle.b2_virtual.specs.declared.fault.VirtualFault.{VirtualFault}
use Rattle.b2_making.specs.declared.setting.Setting.{Setting}
use Rattle.b2_making.specs.declared.site.Site as code
use Rattle.b2_virtual.specs.declared.entry.Entry.{Entry}
use Rattle.b2_virtual.specs.declared.entry.Supply.{Supply}
use Rattle.b2_making.specs.declared.fault.MakingFault.{MakingFault}
use Rattle.b2_making.specs.Faults.{Fault}
use Rattle.b2_making.specs.Acts.{Outcome, for_each, InsideIf, Joins}
use Rattle.b2_making.specs.Contexts.{context_of, site_of}
use Rattle.b2_making.specs.Answers.{IsRefused, AreHoused, Grows}
use Rattle.b2_making.specs.MakingParts.{of_virtual, IsCopiedTo, IsJoined, Alone}
use Rattle.b2_virtual.specs.Supplies.{entries_of}
use Rattle.b2_making.specs.Steps.{location_of}
use Rattle.b2_making.specs.Conversions.{copy_step, copies_at, makes_copies}
use Rattle.b2_making.proofs.ActsCompose.{IsSoFar, refused_map, refused_first, for_each_next, so_far_next, so_far_end, so_far_refused}
use Rattle.b2_making.proofs.OutputsLieInRoots.{inside_err, no_eval_of}
use Rattle.b2_making.proofs.StepsAreMadeAsPromised.{nothing, joins_fault}

joins_value : (E : Type 0) (value made : Entry) (step other : Step) (before after : List Step) → step ≡ other → made ≡ value → Joins {E = E} nothing step before (Ok (nothing, after)) → Joins {E = E} value other before (Ok (made, after))
joins_value E value made step other before after e d is = (d, subst (λ (x : Step). after ≡ joined before x) e is.1, subst (λ (x : Step). (stands_in before x ≡ true) ⊎ (Fits before x × (length before < 65536))) e is.2)

abbrev pub copy_value : Entry → List ℕ → Entry
copy_value e path = record { path = path; file_type = e.file_type; tail = source_tail path; is_made = true }

copy_in : (setting : Setting) (site : code.Site) (o : Option (List ℕ)) (name path : List ℕ) → IsCopiedTo setting site o name (Ok path) → IsInRoots setting.roots.now path
copy_in setting site None name path is = subst (IsInRoots setting.roots.now) (sym is.1) is.0.1
copy_in setting site (Some location) name path is = subst (IsInRoots setting.roots.now) (sym is.1) is.0.1

module _ {E : Type 0} (setting : Setting) (site : code.Site) (e : Entry) where
  done_at : (told : Answers E) (o : Option (List ℕ)) (path : List ℕ) (step : Step) (made : Entry) (before after : List Step) → IsCopiedTo setting site o (file_name e.path) (Ok path)
      → step ≡ copy_step (site_of site) e path → made ≡ record { path = path; file_type = e.file_type; tail = source_tail path; is_made = true } → Joins {E = E} nothing step before (Ok (nothing, after))
      → copies_at (context_of told setting) (site_of site) o e before (Ok (made, after))
  done_at told None path step made before after is same are joins = (Ok (path, before), (is.0, is.1, refl), joins_value E _ made step (copy_step (site_of site) e path) before after same are joins)
  done_at told (Some location) path step made before after is same are joins = (Ok (path, before), (is.0, is.1, refl), joins_value E _ made step (copy_step (site_of site) e path) before after same are joins)

  refused_at : (told : Answers E) (o : Option (List ℕ)) (path : List ℕ) (step : Step) (before : List Step) (fault : Fault E) → IsCopiedTo setting site o (file_name e.path) (Ok path)
      → step ≡ copy_step (site_of site) e path → Joins {E = E} nothing step before (Err fault) → copies_at (context_of told setting) (site_of site) o e before (Err fault)
  refused_at told None path step before fault is same joins =
      (Ok (path, before), (is.0, is.1, refl), subst (λ (x : Step). Joins (copy_value e path) x before (Err fault)) same (joins_fault nothing (copy_value e path) step before fault joins))
  refused_at told (Some location) path step before fault is same joins =
      (Ok (path, before), (is.0, is.1, refl), subst (λ (x : Step). Joins (copy_value e path) x before (Err fault)) same (joins_fault nothing (copy_value e path) step before fault joins))

  outside_at : (told : Answers E) (is_host is_memory : E → Bool) (o : Option (List ℕ)) (f : VirtualFault) (before : List Step) → IsCopiedTo setting site o (file_name e.path) (Err f)
      → IsRefused is_host is_memory (copies_at (context_of told setting) (site_of site) o e) before (of_virtual f)
  outside_at told is_host is_memory None f before is =
      refused_first is_host is_memory (InsideIf (IsPlaced setting.roots.now site.dir.now site.name.now (file_name e.path)) (located site.dir.now site.name.now (file_name e.path)))
      (λ path. Joins (copy_value e path) (copy_step (site_of site) e path)) before (of_virtual f) (inside_err is_host is_memory _ _ before f is)
  outside_at told is_host is_memory (Some location) f before is =
      refused_first is_host is_memory (InsideIf (IsPlaced setting.roots.now (codes ".") location (file_name e.path)) (located (codes ".") location (file_name e.path)))
      (λ path. Joins (copy_value e path) (copy_step (site_of site) e path)) before (of_virtual f) (inside_err is_host is_memory _ _ before f is)

  pub copy_outside : (o : Option (List ℕ)) (f : VirtualFault) (before : List Step) → IsCopiedTo setting site o (file_name e.path) (Err f) → Alone {E = E} (λ c s. copies_at c s o e) setting site before before (Err (of_virtual f))
  copy_outside o f before is = record { exact = λ told is_host is_memory. outside_at told is_host is_memory o f before is; no_eval = no_eval_of E f }

  pub copy_refused : (o : Option (List ℕ)) (path : List ℕ) (step : Step) (f : MakingFault E) (before after : List Step) → IsCopiedTo setting site o (file_name e.path) (Ok path) → step ≡ copy_step (site_of site) e path
      → IsJoined step before after (Err f) → Alone {E = E} (λ c s. copies_at c s o e) setting site before after (Err f)
  copy_refused o path step f before after is same joins = record {
    exact = λ told is_host is_memory.
        refused_map is_host is_memory (Joins nothing step) (copies_at (context_of told setting) (site_of site) o e) before before f (λ fault here. refused_at told o path step before fault is same here) (joins.exact is_host is_memory);
    no_eval = joins.no_eval;
  }

  pub copy_done : (o : Option (List ℕ)) (path : List ℕ) (step : Step) (made : Entry) (before after : List Step) → IsCopiedTo setting site o (file_name e.path) (Ok path) → step ≡ copy_step (site_of site) e path
      → made ≡ record { path = path; file_type = e.file_type; tail = source_tail path; is_made = true } → IsJoined {E = E} step before after (Ok nothing) → Alone {E = E} (λ c s. copies_at c s o e) setting site before after (Ok made)
  copy_done o path step made before after is same are joins = record {
    exact = λ told is_host is_memory. done_at told o path step made before after is same are (joins.exact is_host is_memory);
    no_eval = tt;
  }

  pub copy_grows : (o : Option (List ℕ)) (path : List ℕ) (step : Step) (before after : List Step) (r : Result (Unit {0}) (MakingFault E)) → IsCopiedTo setting site o (file_name e.path) (Ok path) → step ≡ copy_step (site_of site) e path
      → IsJoined step before after r → Grows setting.roots.now before after
  copy_grows o path step before after r is same joins =
      joins.grows setting.roots.now (subst (λ (x : Step). AreHoused setting.roots.now x.outs) (sym same) (record {
        some_out = λ none. let size : length (path ∷ []) ≡ 0 = ap length none in absurd (omega (arith, size));
        under_root = (copy_in setting site o (file_name e.path) path is, tt);
      }))

-- ---- all copies

module _ {E : Type 0} (setting : Setting) (site : code.Site) where
  pub copies_refused : (entries : List Entry) (f : MakingFault E) (before after : List Step) → entries ≡ entries_of site.parts.now → Alone {E = E} (λ c s. for_each (copies_at c s (location_of s.set)) entries) setting site before after (Err f)
      → Alone {E = E} makes_copies setting site before after (Err f)
  copies_refused entries f before after is alone = record {
    exact = λ told is_host is_memory.
        refused_map is_host is_memory (for_each (copies_at (context_of told setting) (site_of site) (location_of site.set.now)) entries) (makes_copies (context_of told setting) (site_of site)) before before f
        (λ fault here. (Err fault, subst (λ (es : List Entry). for_each (copies_at (context_of told setting) (site_of site) (location_of site.set.now)) es before (Err fault)) is here, refl))
        (alone.exact told is_host is_memory);
    no_eval = alone.no_eval;
  }

  pub copies_made : (entries made : List Entry) (given : Supply) (before after : List Step) → entries ≡ entries_of site.parts.now → given ≡ record { entries = made; carried = [] }
      → Alone {E = E} (λ c s. for_each (copies_at c s (location_of s.set)) entries) setting site before after (Ok made) → Alone {E = E} makes_copies setting site before after (Ok given)
  copies_made entries made given before after is same alone = record {
    exact = λ told is_host is_memory. (
      Ok (made, after),
      subst (λ (es : List Entry). for_each (copies_at (context_of told setting) (site_of site) (location_of site.set.now)) es before (Ok (made, after))) is (alone.exact told is_host is_memory),
      ap (λ (x : Supply). let o : Outcome E Supply = Ok (x, after) in o) same,
    );
    no_eval = tt;
  }

  -- the next copy is refused
  pub copy_stops : (entries : List Entry) (place : ℕ) (x : Entry) (o : Option (List ℕ)) (done : List Entry) (f : MakingFault E) (start now next : List Step) → place < length entries → x ≡ get_or entries place x → o ≡ location_of site.set.now
      → ((told : Answers E) → IsSoFar (for_each (copies_at (context_of told setting) (site_of site) (location_of site.set.now))) entries place done start now)
      → Alone {E = E} (λ c s. copies_at c s o x) setting site now next (Err f) → Alone {E = E} (λ c s. for_each (copies_at c s (location_of s.set)) entries) setting site start next (Err f)
  copy_stops entries place x o done f start now next within at here so_far one = record {
    exact = λ told is_host is_memory.
        so_far_refused (for_each (copies_at (context_of told setting) (site_of site) (location_of site.set.now))) entries start is_host is_memory place x done now f within at (so_far told)
        (refused_map is_host is_memory (copies_at (context_of told setting) (site_of site) o x) (for_each (copies_at (context_of told setting) (site_of site) (location_of site.set.now)) (x ∷ drop (place + 1) entries)) now now f
        (λ fault is. (Err fault, subst (λ (l : Option (List ℕ)). copies_at (context_of told setting) (site_of site) l x now (Err fault)) here is, refl)) (one.exact told is_host is_memory));
    no_eval = one.no_eval;
  }

  -- one copy more
  pub copy_next : (told : Answers E) (entries : List Entry) (place : ℕ) (x copy : Entry) (o : Option (List ℕ)) (done : List Entry) (start now next : List Step) → place < length entries → x ≡ get_or entries place x → o ≡ location_of site.set.now
      → IsSoFar (for_each (copies_at (context_of told setting) (site_of site) (location_of site.set.now))) entries place done start now
      → Alone {E = E} (λ c s. copies_at c s o x) setting site now next (Ok copy)
      → IsSoFar (for_each (copies_at (context_of told setting) (site_of site) (location_of site.set.now))) entries (place + 1) (done ++ copy ∷ []) start next
  copy_next told entries place x copy o done start now next within at here so_far one =
      so_far_next (for_each (copies_at (context_of told setting) (site_of site) (location_of site.set.now))) entries start place x done (copy ∷ []) now next within at
      (λ outcome rest.
      for_each_next (copies_at (context_of told setting) (site_of site) (location_of site.set.now)) x (drop (place + 1) entries) now next copy outcome
      (subst (λ (l : Option (List ℕ)). copies_at (context_of told setting) (site_of site) l x now (Ok (copy, next))) here (one.exact told (λ e. false) (λ e. false))) rest) so_far

  pub copy_ends : (entries : List Entry) (place : ℕ) (done : List Entry) (start now : List Step) → length entries ≤ place
      → ((told : Answers E) → IsSoFar (for_each (copies_at (context_of told setting) (site_of site) (location_of site.set.now))) entries place done start now)
      → Alone {E = E} (λ c s. for_each (copies_at c s (location_of s.set)) entries) setting site start now (Ok done)
  copy_ends entries place done start now over so_far = record {
    exact = λ told is_host is_memory. so_far_end (for_each (copies_at (context_of told setting) (site_of site) (location_of site.set.now))) entries start place done now over refl (so_far told);
    no_eval = tt;
  }
