-- Placing an output and joining a step do what the acts say, and the outputs lie under output roots.
use Rattle.std.proofs.Common.{◌≡◌, ◌≢◌, ℕ, ◌<◌, Bool, true, false, cond, List, [], ◌∷◌, ◌++◌, Option, Some, None, Ok, Err, length, refl, sym, ap, ap₂, subst, ◌⊎◌, inl, inr, arith}
use Rattle.std.specs.List.{AllByRecursion}
use Rattle.std.proofs.lemmas.Bool.{false≢true}
use Rattle.b2_plan.specs.declared.step.Step.{Step}
use Rattle.b2_plan.specs.Sources.{IsInRoots}
use Rattle.b2_virtual.specs.Joining.{stands_in, joined}
use Rattle.b2_virtual.specs.Clashes.{Fits}
use Rattle.b2_virtual.specs.Refusals.{IsOfNew, IsClashBy, IsTooManyBy, IsOfStep}
use Rattle.b2_virtual.specs.declared.fault.VirtualFault.{VirtualFault}
use Rattle.b2_virtual.specs.declared.fault.VirtualFault.TheVariants as virtual
use Rattle.b2_evaluator.specs.Answers.{Answers}
use Rattle.b2_making.specs.declared.setting.Setting.{Setting}
use Rattle.b2_making.specs.declared.site.Site as code
use Rattle.b2_virtual.specs.declared.entry.Entry.{Entry}
use Rattle.b2_making.specs.declared.output.Output.{Output}
use Rattle.b2_making.specs.Faults.{Fault, location_outside}
use Rattle.b2_making.specs.Acts.{Outcome, gives, for_each, InsideIf, Joins}
use Rattle.b2_making.specs.Contexts.{Context, Site, context_of, site_of}
use Rattle.b2_making.specs.Answers.{IsRefused, AreHoused, Grows}
use Rattle.b2_making.specs.MakingParts.{of_virtual, IsOfNoEval, IsInside, IsPlacedAt, IsJoined, Alone}
use Rattle.b2_making.specs.Steps.{location_of, paths_of, placed_at, places}
use Rattle.b2_making.proofs.ActsCompose.{refused_first}
use Rattle.b2_making.proofs.PromisesCompose.{grows_none}

-- ---- paths

pub inside_err : {E : Type 0} (is_host is_memory : E → Bool) (Inside : Type 0) (path : List ℕ) (before : List Step) (f : VirtualFault) → IsInside Inside path (Err f) → IsRefused {E = E} is_host is_memory (InsideIf Inside path) before (of_virtual f)
inside_err is_host is_memory Inside path before (virtual.PathClash other) is = absurd is
inside_err {E} is_host is_memory Inside path before (virtual.LocationOutside other) is = (is.0, ap (λ (p : List ℕ). let fault : Fault E = location_outside p in fault) is.1)
inside_err is_host is_memory Inside path before (virtual.TooManySteps count) is = absurd is
inside_err is_host is_memory Inside path before virtual.OutOfMemory is = tt

pub no_eval_of : (E : Type 0) (f : VirtualFault) → IsOfNoEval {E = E} (of_virtual f)
no_eval_of E (virtual.PathClash other) = tt
no_eval_of E (virtual.LocationOutside other) = tt
no_eval_of E (virtual.TooManySteps count) = tt
no_eval_of E virtual.OutOfMemory = tt

module _ {E : Type 0} (setting : Setting) (site : code.Site) (output : Output) where
  placed_ok : (told : Answers E) (o : Option (List ℕ)) (path : List ℕ) (before : List Step) → IsPlacedAt setting site output o (Ok path) → placed_at (context_of told setting) (site_of site) output o before (Ok (path, before))
  placed_ok told None path before is = (is.0, is.1, refl)
  placed_ok told (Some location) path before is = (is.0, is.1, refl)

  placed_err : (told : Answers E) (is_host is_memory : E → Bool) (o : Option (List ℕ)) (f : VirtualFault) (before : List Step) → IsPlacedAt setting site output o (Err f) → IsRefused is_host is_memory (placed_at (context_of told setting) (site_of site) output o) before (of_virtual f)
  placed_err told is_host is_memory None f before is = inside_err is_host is_memory _ _ before f is
  placed_err told is_host is_memory (Some location) f before is = inside_err is_host is_memory _ _ before f is

  -- an output that has its path
  pub place_ok : (path file_type tail : List ℕ) (before : List Step) → IsPlacedAt setting site output (cond output.moves (location_of site.set.now) None) (Ok path) → file_type ≡ output.file_type → tail ≡ output.tail
      → Alone {E = E} (λ c s. places c s output) setting site before before (Ok (record { path = path; file_type = file_type; tail = tail; is_made = true }))
  place_ok path file_type tail before is same_type same_tail = record {
    exact = λ told is_host is_memory. (
      Ok (path, before),
      placed_ok told (cond output.moves (location_of site.set.now) None) path before is,
      ap₂ (λ (t l : List ℕ). let o : Outcome E Entry = Ok (record { path = path; file_type = t; tail = l; is_made = true }, before) in o) same_type same_tail,
    );
    no_eval = tt;
  }

  -- an output that has none
  pub place_err : (f : VirtualFault) (before : List Step) → IsPlacedAt setting site output (cond output.moves (location_of site.set.now) None) (Err f) → Alone {E = E} (λ c s. places c s output) setting site before before (Err (of_virtual f))
  place_err f before is = record {
    exact = λ told is_host is_memory.
        refused_first is_host is_memory (placed_at (context_of told setting) (site_of site) output (cond output.moves (location_of site.set.now) None))
        (λ path. gives (record { path = path; file_type = output.file_type; tail = output.tail; is_made = true })) before (of_virtual f)
        (placed_err told is_host is_memory (cond output.moves (location_of site.set.now) None) f before is);
    no_eval = no_eval_of E f;
  }

-- ---- joining

stands_or : (before : List Step) (step : Step) (b : Bool) → stands_in before step ≡ b → (stands_in before step ≡ false → Fits before step) → (stands_in before step ≡ false → length before < 65536)
    → (stands_in before step ≡ true) ⊎ (Fits before step × (length before < 65536))
stands_or before step true e fits few = inl e
stands_or before step false e fits few = inr (fits e, few e)

joined_grows : (roots : List (List ℕ)) (before : List Step) (step : Step) (b : Bool) → stands_in before step ≡ b → AreHoused roots step.outs → Grows roots before (joined before step)
joined_grows roots before step true e housed = subst (λ (b : Bool). Grows roots before (cond b before (before ++ step ∷ []))) (sym e) (grows_none roots before)
joined_grows roots before step false e housed =
    subst (λ (b : Bool). Grows roots before (cond b before (before ++ step ∷ []))) (sym e) (record { more = step ∷ []; joined = refl; housed = (housed, tt) })

-- a step that was joined
pub join_ok : {E : Type 0} (step : Step) (before after : List Step) → after ≡ joined before step → (stands_in before step ≡ false → Fits before step) → (stands_in before step ≡ false → length before < 65536) → IsJoined {E = E} step before after (Ok tt)
join_ok step before after is fits few = record {
  exact = λ is_host is_memory. (refl, is, stands_or before step (stands_in before step) refl fits few);
  no_eval = tt;
  grows = λ roots housed. subst (λ (steps : List Step). Grows roots before steps) (sym is) (joined_grows roots before step (stands_in before step) refl housed);
}

-- a step that was not
pub join_err : {E : Type 0} (step : Step) (before after : List Step) (f : VirtualFault) → IsOfNew before step f → IsClashBy before step f → IsTooManyBy before step f → IsOfStep f → after ≡ before → IsJoined {E = E} step before after (Err (of_virtual f))
join_err {E} step before after f new clash too_many of_step same = record {
  exact = λ is_host is_memory. go is_host is_memory f new clash too_many of_step;
  no_eval = no_eval_of E f;
  grows = λ roots housed. subst (λ (steps : List Step). Grows roots before steps) (sym same) (grows_none roots before);
}
  where
    go : (is_host is_memory : E → Bool) (f : VirtualFault) → IsOfNew before step f → IsClashBy before step f → IsTooManyBy before step f → IsOfStep f → IsRefused {E = E} is_host is_memory (Joins {A = Unit {0}} tt step) before (of_virtual f)
    go is_host is_memory (virtual.PathClash path) new clash too_many of_step = (new, clash)
    go is_host is_memory (virtual.LocationOutside path) new clash too_many of_step = absurd of_step
    go is_host is_memory (virtual.TooManySteps count) new clash too_many of_step = (new, too_many.0, too_many.1, too_many.2)
    go is_host is_memory virtual.OutOfMemory new clash too_many of_step = tt

-- ---- outputs that have their paths

abbrev pub value_of : {E A : Type 0} → A → Outcome E A → A
value_of spare (Ok (value, after)) = value
value_of spare (Err fault) = spare

abbrev pub is_value : {E A : Type 0} → Outcome E A → Bool
is_value (Ok given) = true
is_value (Err fault) = false

module _ {E : Type 0} (c : Context E) (s : Site) where
  placed_in : (output : Output) (o : Option (List ℕ)) (path : List ℕ) (before after : List Step) → placed_at c s output o before (Ok (path, after)) → IsInRoots c.roots path
  placed_in output None path before after is = subst (IsInRoots c.roots) (sym is.1) is.0
  placed_in output (Some location) path before after is = subst (IsInRoots c.roots) (sym is.1) is.0.1

  place_in : (output : Output) (e : Entry) (before after : List Step) → places c s output before (Ok (e, after)) → IsInRoots c.roots e.path
  place_in output e before after (Ok (path, mid), placed, is) =
      subst (λ (x : Entry). IsInRoots c.roots x.path) (sym (ap (value_of e) is)) (placed_in output (cond output.moves (location_of s.set) None) path before mid placed)
  place_in output e before after (Err fault, placed, is) = absurd (false≢true (sym (ap is_value is)))

  -- all lie under output roots
  pub all_in : (outputs : List Output) (made : List Entry) (before after : List Step) → for_each (places c s) outputs before (Ok (made, after)) → AllByRecursion (IsInRoots c.roots) (paths_of made)
  all_in [] made before after is = subst (λ (es : List Entry). AllByRecursion (IsInRoots c.roots) (paths_of es)) (sym (ap (value_of made) is)) tt
  all_in (output ∷ more) made before after (Ok (e, mid), first, (Ok (es, end), rest, is)) =
      subst (λ (xs : List Entry). AllByRecursion (IsInRoots c.roots) (paths_of xs)) (sym (ap (value_of made) is)) (place_in output e before mid first, all_in more es mid end rest)
  all_in (output ∷ more) made before after (Ok (e, mid), first, (Err fault, rest, is)) = absurd (false≢true (sym (ap is_value is)))
  all_in (output ∷ more) made before after (Err fault, first, is) = absurd (false≢true (sym (ap is_value is)))

  -- and there are some
  pub some_in : (outputs : List Output) (made : List Entry) (before after : List Step) → outputs ≢ [] → for_each (places c s) outputs before (Ok (made, after)) → paths_of made ≢ []
  some_in [] made before after some is none = some refl
  some_in (output ∷ more) made before after some (Ok (e, mid), first, (Ok (es, end), rest, is)) none =
      let empty : length (paths_of made) ≡ 0 = ap length none in
      let full : length (paths_of made) ≡ length (paths_of (e ∷ es)) = ap (λ (xs : List Entry). length (paths_of xs)) (ap (value_of made) is) in
      absurd (omega (arith, empty, full))
  some_in (output ∷ more) made before after some (Ok (e, mid), first, (Err fault, rest, is)) none = absurd (false≢true (sym (ap is_value is)))
  some_in (output ∷ more) made before after some (Err fault, first, is) none = absurd (false≢true (sym (ap is_value is)))
