-- Acts leave the steps before as they are, and are repeated where their steps stand.
use Rattle.std.proofs.Common.{◌≡◌, ℕ, zero, suc, Bool, true, false, not, cond, List, [], ◌∷◌, ◌++◌, Option, Some, None, Result, Ok, Err, refl, sym, ◌∙◌, ap, subst, inl, append_assoc}
use Rattle.std.specs.List.{Contains, filter}
use Rattle.std.proofs.lemmas.Bool.{false≢true}
use Rattle.std.proofs.lemmas.List.{append-nil}
use Rattle.std.proofs.lemmas.List.Elements.{Contains-append_left}
use Rattle.std.proofs.lemmas.Option.{slice_get_within, get_or_from_slice_get}
use Rattle.b2_plan.specs.declared.step.Step.{Step}
use Rattle.b2_plan.specs.Plans.{step_at}
use Rattle.b2_props.specs.Sets.{Pair}
use Rattle.b2_generators.specs.declared.generator.Generator.{Generator}
use Rattle.b2_virtual.specs.Joining.{stands_in, joined, number_in}
use Rattle.b2_virtual.proofs.JoinedStepsKeepTheirNumbers.{number_own}
use Rattle.b2_declaring_calls.specs.declared.declaration.Kind.{Kind}
use Rattle.b2_declaring_calls.specs.declared.declaration.Kind.TheVariants.{Exe, Lib, Obj, Alias, Make, Install}
use Rattle.jam_meaning.specs.Rolled.{Job, StepAnswer}
use Rattle.b2_virtual.specs.declared.entry.Entry.{Entry}
use Rattle.b2_making.specs.declared.output.Output.{Output}
use Rattle.b2_making.specs.Faults.{Fault, eval}
use Rattle.b2_making.specs.Acts.{Outcome, Act, gives, refuses, and_then, for_each, for_all, InsideIf, Joins}
use Rattle.b2_making.specs.Contexts.{Context, Site}
use Rattle.b2_making.specs.Steps.{location_of, paths_of, job, placed_at, places, texted, asks, runs}
use Rattle.b2_virtual.specs.Supplies.{is_header, entries_of, carried_of}
use Rattle.b2_making.specs.Conversions.{chains, along, to_objects, linked, links, program, library_file, is_shared, named_file, to_convert, copies_at, makes_kind}
use Rattle.b2_making.specs.Laws.{StepsStay, IsRepeated}

-- both at once, since an act that follows is repeated after one whose steps stay
pub record IsSteady {E A : Type 0} (act : Act E A) : Type 0 where
  pub stays : StepsStay act
  pub repeats : IsRepeated act

-- ---- outcomes

abbrev pub value_in : {E A : Type 0} → A → Outcome E A → A
value_in spare (Ok (value, after)) = value
value_in spare (Err fault) = spare

abbrev pub steps_in : {E A : Type 0} → List Step → Outcome E A → List Step
steps_in spare (Ok (value, after)) = after
steps_in spare (Err fault) = spare

abbrev pub is_ok_in : {E A : Type 0} → Outcome E A → Bool
is_ok_in (Ok given) = true
is_ok_in (Err fault) = false

-- ---- combinators

pub steady_gives : {E A : Type 0} (value : A) → IsSteady {E = E} (gives value)
steady_gives {E} {A} value = record {
  stays = λ before after v e. ([], ap (steps_in after) e ∙ sym (append-nil before));
  repeats = λ before after later v e stand. ap (λ (x : A). let o : Outcome E A = Ok (x, later) in o) (ap (value_in v) e);
}

pub steady_refuses : {E A : Type 0} (fault : Fault E) → IsSteady {E = E} {A = A} (refuses fault)
steady_refuses fault = record {
  stays = λ before after v e. absurd (false≢true (sym (ap is_ok_in e)));
  repeats = λ before after later v e stand. absurd (false≢true (sym (ap is_ok_in e)));
}

pub steady_then : {E A B : Type 0} (act : Act E A) (next : A → Act E B) → IsSteady act → ((value : A) → IsSteady (next value)) → IsSteady (and_then act next)
steady_then {E} {A} {B} act next one ones = record { stays = stays; repeats = repeats }
  where
    stays : StepsStay (and_then act next)
    stays before after v (Ok (value, mid), p, f) =
        let a = one.stays before mid value p in
        let b = (ones value).stays mid after v f in
        (a.0 ++ b.0, b.1 ∙ ap (λ (xs : List Step). xs ++ b.0) a.1 ∙ append_assoc before a.0 b.0)
    stays before after v (Err fault, p, f) = absurd (false≢true (sym (ap is_ok_in f)))

    repeats : IsRepeated (and_then act next)
    repeats before after later v (Ok (value, mid), p, f) stand =
        let b = (ones value).stays mid after v f in (
          Ok (value, later),
          one.repeats before mid later value p (λ step there. stand step (subst (λ (xs : List Step). Contains xs step) (sym b.1) (Contains-append_left mid b.0 step there))),
          (ones value).repeats mid after later v f stand,
        )
    repeats before after later v (Err fault, p, f) stand = absurd (false≢true (sym (ap is_ok_in f)))

pub steady_each : {E X A : Type 0} (act : X → Act E A) → ((x : X) → IsSteady (act x)) → (xs : List X) → IsSteady (for_each act xs)
steady_each act one [] = steady_gives []
steady_each act one (x ∷ xs) =
    steady_then (act x) (λ value. and_then (for_each act xs) (λ values. gives (value ∷ values))) (one x)
    (λ value. steady_then (for_each act xs) (λ values. gives (value ∷ values)) (steady_each act one xs) (λ values. steady_gives (value ∷ values)))

pub steady_all : {E X A : Type 0} (act : X → Act E (List A)) → ((x : X) → IsSteady (act x)) → (xs : List X) → IsSteady (for_all act xs)
steady_all act one [] = steady_gives []
steady_all act one (x ∷ xs) =
    steady_then (act x) (λ values. and_then (for_all act xs) (λ others. gives (values ++ others))) (one x)
    (λ values. steady_then (for_all act xs) (λ others. gives (values ++ others)) (steady_all act one xs) (λ others. steady_gives (values ++ others)))

steady_inside : {E : Type 0} (Inside : Type 0) (path : List ℕ) → IsSteady {E = E} (InsideIf Inside path)
steady_inside Inside path = record {
  stays = λ before after v is. ([], is.2 ∙ sym (append-nil before));
  repeats = λ before after later v is stand. (is.0, is.1, refl);
}

-- ---- joining

at_place : (steps : List Step) (n : ℕ) (step : Step) → step_at steps n ≡ Some step → Contains steps step
at_place steps zero step at = absurd (false≢true (ap some_step at))
  where
    some_step : Option Step → Bool
    some_step None = false
    some_step (Some x) = true
at_place steps (suc n) step at = (n, slice_get_within steps n step at, get_or_from_slice_get steps n step step at)

joined_more : (before : List Step) (step : Step) (b : Bool) → (more : List Step) × (cond b before (before ++ step ∷ []) ≡ before ++ more)
joined_more before step true = ([], sym (append-nil before))
joined_more before step false = (step ∷ [], refl)

steady_joins : {E A : Type 0} (value : A) (step : Step) → IsSteady {E = E} (Joins value step)
steady_joins value step = record {
  stays = λ before after v is. let m = joined_more before step (stands_in before step) in (m.0, is.1 ∙ m.1);
  repeats = λ before after later v is stand.
      let stands = stand step (subst (λ (xs : List Step). Contains xs step) (sym is.1) (at_place (joined before step) (number_in before step) step (number_own before step))) in
      (is.0, sym (ap (λ b. cond b later (later ++ step ∷ [])) stands), inl stands);
}

steady_chains : {E : Type 0} (gs : List Generator) (set : List Pair) (from to : List ℕ) → IsSteady {E = E} (chains gs set from to)
steady_chains gs set from to = record {
  stays = λ before after v is. ([], is.1 ∙ sym (append-nil before));
  repeats = λ before after later v is stand. (is.0, refl);
}

-- ---- what main targets make

module _ {E : Type 0} (c : Context E) (s : Site) where
  steady_placed : (output : Output) (o : Option (List ℕ)) → IsSteady (placed_at c s output o)
  steady_placed output None = steady_inside _ _
  steady_placed output (Some location) = steady_inside _ _

  steady_place : (output : Output) → IsSteady (places c s output)
  steady_place output = steady_then _ _ (steady_placed output (cond output.moves (location_of s.set) None)) (λ path. steady_gives _)

  steady_texted : (j : Job) (answer : Result StepAnswer E) → IsSteady (texted c s j answer)
  steady_texted j (Ok answer) = steady_gives _
  steady_texted j (Err why) = steady_refuses (eval why)

  steady_asks : {A : Type 0} (j : Job) (value : A) → IsSteady (asks c s j value)
  steady_asks j value = steady_then _ _ (steady_texted j (c.step_text j)) (λ step. steady_joins value step)

  steady_runs : (name : List ℕ) (ins : List Entry) (outputs : List Output) → IsSteady (runs c s name ins outputs)
  steady_runs name ins outputs = steady_then _ _ (steady_each (places c s) steady_place outputs) (λ made. steady_asks (job s name (paths_of made) (paths_of ins)) made)

  steady_along : (named : Option Output) (spare : List ℕ) (ids : List (List ℕ)) (ins : List Entry) → IsSteady (along c s named spare ids ins)
  steady_along named spare [] ins = steady_gives ins
  steady_along named spare (id ∷ []) ins = steady_runs id ins _
  steady_along named spare (id ∷ next ∷ more) ins = steady_then _ _ (steady_runs id ins _) (λ made. steady_along named spare (next ∷ more) made)

  steady_to_objects : (e : Entry) → IsSteady (to_objects c s e)
  steady_to_objects e = steady_then _ _ (steady_chains c.generators s.set _ _) (λ ids. steady_then _ _ (steady_along None e.tail ids (e ∷ [])) (λ made. steady_gives _))

  steady_linked : (named : Output) (ins : List Entry) → IsSteady (linked c s named ins)
  steady_linked named ins = steady_then _ _ (steady_chains c.generators s.set _ _) (λ ids. steady_then _ _ (steady_along (Some named) named.tail ids ins) (λ made. steady_gives _))

  steady_links : (named : Output) (with_libraries : Bool) → IsSteady (links c s named with_libraries)
  steady_links named with_libraries = steady_then _ _ (steady_all (to_objects c s) steady_to_objects (to_convert s)) (λ made. steady_linked named _)

  steady_copies : (o : Option (List ℕ)) (e : Entry) → IsSteady (copies_at c s o e)
  steady_copies None e = steady_then _ _ (steady_inside _ _) (λ path. steady_joins _ _)
  steady_copies (Some location) e = steady_then _ _ (steady_inside _ _) (λ path. steady_joins _ _)

  pub steady_kind : (kind : Kind) → IsSteady (makes_kind c kind s)
  steady_kind Obj = steady_then _ _ (steady_all (to_objects c s) steady_to_objects (filter (λ e. not (is_header e)) (entries_of s.sources))) (λ made. steady_gives _)
  steady_kind Exe = steady_then _ _ (steady_links (program s) true) (λ entries. steady_gives _)
  steady_kind Lib = steady_then _ _ (steady_links (library_file c.file_types s) (is_shared s)) (λ entries. steady_gives _)
  steady_kind Alias = steady_gives (record { entries = entries_of s.parts; carried = carried_of s.parts })
  steady_kind Make = steady_then _ _ (steady_runs s.rule (entries_of s.parts) (named_file c.file_types s ∷ [])) (λ entries. steady_gives _)
  steady_kind Install = steady_then _ _ (steady_each (copies_at c s (location_of s.set)) (steady_copies (location_of s.set)) (entries_of s.parts)) (λ entries. steady_gives _)
