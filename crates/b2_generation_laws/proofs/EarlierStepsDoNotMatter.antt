-- An act done twice, over whatever steps stand before, gives the same: for each part of making, and for each kind.
use Rattle.std.proofs.Common.{◌≡◌, ℕ, Bool, true, not, cond, List, [], ◌∷◌, ◌++◌, Option, Some, None, Result, Ok, Err, sym, ◌∙◌, ap, subst}
use Rattle.std.specs.List.{filter}
use Rattle.std.proofs.lemmas.Bool.{false≢true}
use Rattle.b2_plan.specs.declared.step.Step.{Step}
use Rattle.b2_props.specs.Sets.{Pair}
use Rattle.b2_generators.specs.declared.generator.Generator.{Generator}
use Rattle.b2_generators.specs.Chains.{IsOnlyShortest, ids_of}
use Rattle.b2_declaring_calls.specs.declared.declaration.Kind.{Kind}
use Rattle.b2_declaring_calls.specs.declared.declaration.Kind.TheVariants.{Exe, Lib, Obj, Alias, Make, Install}
use Rattle.jam_meaning.specs.Rolled.{Job, StepAnswer}
use Rattle.b2_virtual.specs.declared.entry.Entry.{Entry}
use Rattle.b2_virtual.specs.Supplies.{is_header, entries_of, carried_of}
use Rattle.b2_making.specs.Faults.{Fault, eval}
use Rattle.b2_making.specs.Acts.{Act, gives, refuses, and_then, for_each, for_all, InsideIf, Joins}
use Rattle.b2_making.specs.Contexts.{Context, Site}
use Rattle.b2_making.specs.Steps.{location_of, paths_of, job, placed_at, places, texted, asks, runs}
use Rattle.b2_making.specs.Conversions.{chains, along, to_objects, linked, links, program, library_file, is_shared, named_file, to_convert, copies_at, makes_kind}
use Rattle.b2_making.proofs.EarlierStepsAreKept.{value_in, is_ok_in}

-- an act that is done twice, over whatever steps, gives the same
abbrev pub GivesOne : {E A : Type 0} → Act E A → Type 0
GivesOne {E} {A} act = (before after earlier later : List Step) (a b : A) → act before (Ok (a, after)) → act earlier (Ok (b, later)) → a ≡ b

-- ---- combinators

given : {E A : Type 0} (value : A) → GivesOne {E = E} (gives value)
given value before after earlier later a b p q = ap (value_in a) p ∙ sym (ap (value_in b) q)

refused : {E A : Type 0} (fault : Fault E) → GivesOne {E = E} {A = A} (refuses fault)
refused fault before after earlier later a b p q = absurd (false≢true (sym (ap is_ok_in p)))

followed : {E A B : Type 0} (act : Act E A) (next : A → Act E B) → GivesOne act → ((value : A) → GivesOne (next value)) → GivesOne (and_then act next)
followed act next one more before after earlier later a b (Ok (x, mid), p, f) (Ok (y, mid₁), q, g) =
    more x mid after mid₁ later a b f (subst (λ v. next v mid₁ (Ok (b, later))) (sym (one before mid earlier mid₁ x y p q)) g)
followed act next one more before after earlier later a b (Ok (x, mid), p, f) (Err fault, q, g) = absurd (false≢true (sym (ap is_ok_in g)))
followed act next one more before after earlier later a b (Err fault, p, f) second = absurd (false≢true (sym (ap is_ok_in f)))

each : {E X A : Type 0} (act : X → Act E A) → ((x : X) → GivesOne (act x)) → (xs : List X) → GivesOne (for_each act xs)
each act one [] = given []
each act one (x ∷ xs) =
    followed (act x) (λ value. and_then (for_each act xs) (λ values. gives (value ∷ values))) (one x)
    (λ value. followed (for_each act xs) (λ values. gives (value ∷ values)) (each act one xs) (λ values. given (value ∷ values)))

all : {E X A : Type 0} (act : X → Act E (List A)) → ((x : X) → GivesOne (act x)) → (xs : List X) → GivesOne (for_all act xs)
all act one [] = given []
all act one (x ∷ xs) =
    followed (act x) (λ values. and_then (for_all act xs) (λ others. gives (values ++ others))) (one x)
    (λ values. followed (for_all act xs) (λ others. gives (values ++ others)) (all act one xs) (λ others. given (values ++ others)))

inside : (E : Type 0) (Inside : Type 0) (path : List ℕ) → GivesOne {E = E} (InsideIf Inside path)
inside E Inside path before after earlier later a b p q = p.1 ∙ sym q.1

joins : (E : Type 0) {A : Type 0} (value : A) (step : Step) → GivesOne {E = E} (Joins value step)
joins E value step before after earlier later a b p q = p.0 ∙ sym q.0

only_chain : (gs : List Generator) (set : List Pair) (from to : List ℕ) (a b : List (List ℕ)) → IsOnlyShortest gs set from to a → IsOnlyShortest gs set from to b → a ≡ b
only_chain gs set from to a b p q = p.named ∙ ap (ids_of gs) (q.only p.places p.shortest) ∙ sym q.named

chain : (E : Type 0) (gs : List Generator) (set : List Pair) (from to : List ℕ) → GivesOne {E = E} (chains gs set from to)
chain E gs set from to before after earlier later a b p q = only_chain gs set from to a b p.0 q.0

-- ---- what main targets make

module _ {E : Type 0} (c : Context E) (s : Site) where
  placed : (output : _) (o : Option (List ℕ)) → GivesOne (placed_at c s output o)
  placed output None = inside E _ _
  placed output (Some location) = inside E _ _

  place : (output : _) → GivesOne (places c s output)
  place output = followed _ _ (placed output (cond output.moves (location_of s.set) None)) (λ path. given _)

  text : (j : Job) (answer : Result StepAnswer E) → GivesOne (texted c s j answer)
  text j (Ok answer) = given _
  text j (Err why) = refused (eval why)

  ask : {A : Type 0} (j : Job) (value : A) → GivesOne (asks c s j value)
  ask j value = followed _ _ (text j (c.step_text j)) (λ step. joins E value step)

  run : (name : List ℕ) (ins : List Entry) (outputs : _) → GivesOne (runs c s name ins outputs)
  run name ins outputs = followed _ _ (each (places c s) place outputs) (λ made. ask (job s name (paths_of made) (paths_of ins)) made)

  go_along : (named : _) (spare : List ℕ) (ids : List (List ℕ)) (ins : List Entry) → GivesOne (along c s named spare ids ins)
  go_along named spare [] ins = given ins
  go_along named spare (id ∷ []) ins = run id ins _
  go_along named spare (id ∷ next ∷ more) ins = followed _ _ (run id ins _) (λ made. go_along named spare (next ∷ more) made)

  objects : (e : Entry) → GivesOne (to_objects c s e)
  objects e = followed _ _ (chain E c.generators s.set _ _) (λ ids. followed _ _ (go_along None e.tail ids (e ∷ [])) (λ made. given _))

  link : (named : _) (ins : List Entry) → GivesOne (linked c s named ins)
  link named ins = followed _ _ (chain E c.generators s.set _ _) (λ ids. followed _ _ (go_along (Some named) named.tail ids ins) (λ made. given _))

  link_all : (named : _) (with_libraries : Bool) → GivesOne (links c s named with_libraries)
  link_all named with_libraries = followed _ _ (all (to_objects c s) objects (to_convert s)) (λ made. link named _)

  copy : (o : Option (List ℕ)) (e : Entry) → GivesOne (copies_at c s o e)
  copy None e = followed _ _ (inside E _ _) (λ path. joins E _ _)
  copy (Some location) e = followed _ _ (inside E _ _) (λ path. joins E _ _)

  pub made_once : (kind : Kind) → GivesOne (makes_kind c kind s)
  made_once Obj = followed _ _ (all (to_objects c s) objects (filter (λ e. not (is_header e)) (entries_of s.sources))) (λ made. given _)
  made_once Exe = followed _ _ (link_all (program s) true) (λ entries. given _)
  made_once Lib = followed _ _ (link_all (library_file c.file_types s) (is_shared s)) (λ entries. given _)
  made_once Alias = given (record { entries = entries_of s.parts; carried = carried_of s.parts })
  made_once Make = followed _ _ (run s.rule (entries_of s.parts) (named_file c.file_types s ∷ [])) (λ entries. given _)
  made_once Install = followed _ _ (each (copies_at c s (location_of s.set)) (copy (location_of s.set)) (entries_of s.parts)) (λ entries. given _)
