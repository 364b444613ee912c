-- Where the job at a place has ended, the children and events are as a wait for its child promises.
use Rattle.std.proofs.Common.{◌≡◌, ℕ, ◌<◌, Bool, List, [], ◌∷◌, ◌++◌, map, take, drop, suc, get_or, length, Some, None, ap, sym, ◌∙◌, refl, arith}
use Rattle.std.specs.Option.{option_map}
use Rattle.std.specs.List.{remove}
use Rattle.std.proofs.lemmas.Bool.{true≢false}
use Rattle.std.proofs.lemmas.List.{map-append, take-map, drop-map}
use Rattle.std.proofs.lemmas.Option.{slice_get-map, slice_get-get_or}
use Rattle.b2_host.specs.declared.children.ChildEvent.{ChildEvent}
use Rattle.b2_host.specs.declared.children.ChildEvent.TheVariants.{Done}
use Rattle.b2_host.specs.ChildProcesses.{Ends}
use Rattle.b2_host.specs.ChildCalls.{Awaits}
use Rattle.b2_realhost.specs.declared.system_job.SystemJob.{SystemJob}
use Rattle.b2_realhost.specs.Jobs.{child_of}
use Rattle.b2_realhost.specs.RealOutside.{outside_of}

map_remove : (xs : List SystemJob) (i : ℕ) → map child_of (remove xs i) ≡ remove (map child_of xs) i
map_remove xs i = map-append child_of (take i xs) (drop (suc i) xs) ∙ ap (λ r. r ++ map child_of (drop (suc i) xs)) (sym (take-map child_of i xs)) ∙ ap (λ r. take i (map child_of xs) ++ r) (sym (drop-map child_of (suc i) xs))

-- the job at a place ends
pub ends_at : (made : List ℕ → List (List ℕ × List ℕ) → List ℕ → List ℕ) (xs ys : List SystemJob) (j : SystemJob) (i : ℕ) (es fs : List ChildEvent) (well : Bool) → i < length xs → j ≡ get_or xs i j → ys ≡ remove xs i → fs ≡ es ++ Done j.step well ∷ []
    → Ends made (record { running = map child_of xs; events = es; given = None }) None j.step well (record { running = map child_of ys; events = fs; given = None }) None
ends_at made xs ys j i es fs well within e rest told = record {
  place = i;
  child = child_of j;
  ran = slice_get-map child_of xs i ∙ ap (option_map child_of) (slice_get-get_or xs i j within ∙ ap Some (sym e));
  step_is = refl;
  running = ap (map child_of) rest ∙ map_remove xs i;
  events = told;
  given = refl;
  worked = tt;
  made_all = λ _. tt;
}

-- the outside after that
pub awaits_at : (made : List ℕ → List (List ℕ × List ℕ) → List ℕ → List ℕ) (xs ys : List SystemJob) (j : SystemJob) (i : ℕ) (es fs : List ChildEvent) (faults waits : ℕ) (well : Bool) → i < length xs → j ≡ get_or xs i j → ys ≡ remove xs i → fs ≡ es ++ Done j.step well ∷ []
    → Awaits made (outside_of xs es faults waits) j.step well (outside_of ys fs faults waits)
awaits_at made xs ys j i es fs faults waits well within e rest told = record {
  ended = ends_at made xs ys j i es fs well within e rest told;
  ends_well = λ none. absurd (true≢false none);
  same = refl;
}

-- where a child runs there is a job
pub some_job : (xs : List SystemJob) → (map child_of xs ≡ [] → ⊥) → 0 < length xs
some_job [] some = absurd (some refl)
some_job (x ∷ xs) some = omega arith
