-- Each act of making, and so the making of a main target of each kind, keeps the outputs of steps apart.
use Rattle.std.proofs.Common.{◌≡◌, ◌≢◌, ℕ, suc, Bool, true, not, cond, List, [], ◌∷◌, ◌++◌, length, Option, Some, None, Result, Ok, Err, refl, sym, ap, subst, arith}
use Rattle.std.specs.List.{AllByRecursion, filter}
use Rattle.std.proofs.lemmas.Bool.{false≢true}
use Rattle.b2_plan.specs.declared.step.Step.{Step}
use Rattle.b2_plan.specs.Plans.{Apart}
use Rattle.b2_plan.specs.Sources.{IsInRoots}
use Rattle.b2_generators.specs.Table.{HaveDistinctIds}
use Rattle.b2_declaring_calls.specs.declared.declaration.Kind.{Kind}
use Rattle.b2_declaring_calls.specs.declared.declaration.Kind.TheVariants.{Exe, Lib, Obj, Alias, Make, Install}
use Rattle.jam_meaning.specs.Rolled.{Job, StepAnswer}
use Rattle.b2_virtual.specs.declared.entry.Entry.{Entry}
use Rattle.b2_virtual.specs.Supplies.{is_header, entries_of, carried_of}
use Rattle.b2_making.specs.Acts.{Act, gives, and_then, for_each, for_all, InsideIf, Joins}
use Rattle.b2_making.specs.Answers.{AreHoused}
use Rattle.b2_making.specs.Contexts.{Context, Site}
use Rattle.b2_making.specs.MakingParts.{GivesSome}
use Rattle.b2_making.specs.Steps.{location_of, paths_of, job, step_of, placed_at, places, texted, asks, runs}
use Rattle.b2_making.specs.Conversions.{chains, first_tail, along, to_objects, linked, links, program, library_file, is_shared, named_file, to_convert, copies_at, makes_kind}
use Rattle.b2_making.proofs.ChainGeneratorsGiveOutputs.{chain_gives, naming_some}
use Rattle.b2_making.proofs.EarlierStepsAreKept.{value_in, steps_in, is_ok_in}
use Rattle.b2_generation_laws.proofs.JoinedStepsStayApart.{joined_apart}

-- an act keeps outputs apart, and this holds of what it gives
abbrev pub Keeps : {E A : Type 0} → List (List ℕ) → (A → Type 0) → Act E A → Type 0
Keeps {E} {A} roots Holds act = (before after : List Step) (value : A) → act before (Ok (value, after)) → Apart before roots → Holds value × Apart after roots

-- whatever it gives
abbrev pub Any : {A : Type 0} → A → Type 0
Any value = Unit {0}

-- of each of some things one is given, and this holds of all
abbrev Each : {X A : Type 0} → (A → Type 0) → List X → List A → Type 0
Each Holds xs values = AllByRecursion Holds values × (length values ≡ length xs)

-- ---- outputs

module _ (roots : List (List ℕ)) where
  all_under : (made : List Entry) → AllByRecursion (λ e. IsInRoots roots e.path) made → AllByRecursion (IsInRoots roots) (paths_of made)
  all_under [] all = tt
  all_under (e ∷ made) all = (all.0, all_under made all.1)

  some_path : {X : Type 0} (outputs : List X) (made : List Entry) → outputs ≢ [] → length made ≡ length outputs → paths_of made ≢ []
  some_path [] made some same none = some refl
  some_path (o ∷ outputs) [] some same none = absurd (omega (arith, same))
  some_path (o ∷ outputs) (e ∷ made) some same none = let size : length (paths_of (e ∷ made)) ≡ 0 = ap length none in absurd (omega (arith, size))

  housed : {X : Type 0} (outputs : List X) (made : List Entry) → outputs ≢ [] → Each (λ e. IsInRoots roots e.path) outputs made → AreHoused roots (paths_of made)
  housed outputs made some each = record { some_out = some_path outputs made some each.1; under_root = all_under made each.0 }

  one_housed : (path : List ℕ) → IsInRoots roots path → AreHoused roots (path ∷ [])
  one_housed path under = record { some_out = λ none. let size : length (path ∷ []) ≡ 0 = ap length none in absurd (omega (arith, size)); under_root = (under, tt) }

one_output : {X : Type 0} (output : X) → output ∷ [] ≢ []
one_output output none = let size : length (output ∷ []) ≡ 0 = ap length none in absurd (omega (arith, size))

module _ {E : Type 0} (c : Context E) where
  -- ---- combinators

  given : {A : Type 0} (Holds : A → Type 0) (value : A) → Holds value → Keeps {E = E} c.roots Holds (gives value)
  given Holds value holds before after v is apart =
      (subst Holds (sym (ap (value_in v) is)) holds, subst (λ (steps : List Step). Apart steps c.roots) (sym (ap (steps_in after) is)) apart)

  followed : {A B : Type 0} (First : A → Type 0) (Last : B → Type 0) (act : Act E A) (next : A → Act E B)
      → Keeps c.roots First act → ((value : A) → First value → Keeps c.roots Last (next value)) → Keeps c.roots Last (and_then act next)
  followed First Last act next one more before after v (Ok (value, mid), p, f) apart = let first = one before mid value p apart in more value first.0 mid after v f first.1
  followed First Last act next one more before after v (Err fault, p, f) apart = absurd (false≢true (sym (ap is_ok_in f)))

  each : {X A : Type 0} (Holds : A → Type 0) (act : X → Act E A) → ((x : X) → Keeps c.roots Holds (act x)) → (xs : List X) → Keeps c.roots (Each Holds xs) (for_each act xs)
  each {X} Holds act one [] = given (Each {X = X} Holds []) [] (tt, refl)
  each Holds act one (x ∷ xs) =
      followed Holds (Each Holds (x ∷ xs)) (act x) (λ value. and_then (for_each act xs) (λ values. gives (value ∷ values))) (one x)
      (λ value holds.
      followed (Each Holds xs) (Each Holds (x ∷ xs)) (for_each act xs) (λ values. gives (value ∷ values)) (each Holds act one xs)
      (λ values others. given (Each Holds (x ∷ xs)) (value ∷ values) ((holds, others.0), ap suc others.1)))

  all : {X A : Type 0} (act : X → Act E (List A)) → ((x : X) → Keeps c.roots Any (act x)) → (xs : List X) → Keeps c.roots Any (for_all act xs)
  all act one [] = given Any [] tt
  all act one (x ∷ xs) =
      followed Any Any (act x) (λ values. and_then (for_all act xs) (λ others. gives (values ++ others))) (one x)
      (λ values any. followed Any Any (for_all act xs) (λ others. gives (values ++ others)) (all act one xs) (λ others any. given Any (values ++ others) tt))

  inside : (Holds : List ℕ → Type 0) (Inside : Type 0) (path : List ℕ) → (Inside → Holds path) → Keeps {E = E} c.roots Holds (InsideIf Inside path)
  inside Holds Inside path so before after v is apart = (subst Holds (sym is.1) (so is.0), subst (λ (steps : List Step). Apart steps c.roots) (sym is.2) apart)

  joins : {A : Type 0} (value : A) (step : Step) → AreHoused c.roots step.outs → Keeps {E = E} c.roots Any (Joins value step)
  joins value step house before after v is apart = (tt, subst (λ (steps : List Step). Apart steps c.roots) (sym is.1) (joined_apart c.roots before step apart house is.2))

  -- ---- what main targets make

  module _ (s : Site) (distinct : HaveDistinctIds c.generators) where
    abbrev IsUnderRoot : List ℕ → Type 0
    IsUnderRoot path = IsInRoots c.roots path

    abbrev LiesUnderRoot : Entry → Type 0
    LiesUnderRoot e = IsInRoots c.roots e.path

    abbrev AllGive : List (List ℕ) → Type 0
    AllGive ids = AllByRecursion (GivesSome c.generators) ids

    placed : (output : _) (o : Option (List ℕ)) → Keeps c.roots IsUnderRoot (placed_at c s output o)
    placed output None = inside IsUnderRoot _ _ (λ under. under)
    placed output (Some location) = inside IsUnderRoot _ _ (λ is. is.1)

    place : (output : _) → Keeps c.roots LiesUnderRoot (places c s output)
    place output =
        followed IsUnderRoot LiesUnderRoot _ _ (placed output (cond output.moves (location_of s.set) None)) (λ path under. given LiesUnderRoot _ under)

    text : (j : Job) (answer : Result StepAnswer E) → Keeps c.roots (λ step. step.outs ≡ j.outs) (texted c s j answer)
    text j (Ok answer) = given (λ step. step.outs ≡ j.outs) (step_of s j answer) refl
    text j (Err why) = λ before after v is apart. absurd (false≢true (sym (ap is_ok_in is)))

    ask : {A : Type 0} (j : Job) (value : A) → AreHoused c.roots j.outs → Keeps c.roots Any (asks c s j value)
    ask j value house =
        followed (λ step. step.outs ≡ j.outs) Any _ _ (text j (c.step_text j)) (λ step same. joins value step (subst (AreHoused c.roots) (sym same) house))

    run : (name : List ℕ) (ins : List Entry) (outputs : _) → outputs ≢ [] → Keeps c.roots Any (runs c s name ins outputs)
    run name ins outputs some =
        followed (Each LiesUnderRoot outputs) Any _ _ (each LiesUnderRoot (places c s) place outputs)
        (λ made under. ask (job s name (paths_of made) (paths_of ins)) made (housed c.roots outputs made some under))

    chain : (from to : List ℕ) → Keeps {E = E} c.roots AllGive (chains c.generators s.set from to)
    chain from to before after ids is apart = (chain_gives c.generators s.set distinct from to ids is.0, subst (λ (steps : List Step). Apart steps c.roots) (sym is.1) apart)

    go_along : (named : _) (spare : List ℕ) (ids : List (List ℕ)) (ins : List Entry) → AllGive ids → Keeps c.roots Any (along c s named spare ids ins)
    go_along named spare [] ins give = given Any ins tt
    go_along named spare (id ∷ []) ins give = run id ins _ (naming_some c.file_types c.generators id (first_tail spare ins) named give.0)
    go_along named spare (id ∷ next ∷ more) ins give =
        followed Any Any _ _ (run id ins _ (naming_some c.file_types c.generators id (first_tail spare ins) None give.0)) (λ made any. go_along named spare (next ∷ more) made give.1)

    objects : (e : Entry) → Keeps c.roots Any (to_objects c s e)
    objects e = followed AllGive Any _ _ (chain _ _) (λ ids give. followed Any Any _ _ (go_along None e.tail ids (e ∷ []) give) (λ made any. given Any _ tt))

    link : (named : _) (ins : List Entry) → Keeps c.roots Any (linked c s named ins)
    link named ins = followed AllGive Any _ _ (chain _ _) (λ ids give. followed Any Any _ _ (go_along (Some named) named.tail ids ins give) (λ made any. given Any _ tt))

    link_all : (named : _) (with_libraries : Bool) → Keeps c.roots Any (links c s named with_libraries)
    link_all named with_libraries = followed Any Any _ _ (all (to_objects c s) objects (to_convert s)) (λ made any. link named _)

    copy : (o : Option (List ℕ)) (e : Entry) → Keeps c.roots Any (copies_at c s o e)
    copy None e = followed IsUnderRoot Any _ _ (inside IsUnderRoot _ _ (λ is. is.1)) (λ path under. joins _ _ (one_housed c.roots path under))
    copy (Some location) e = followed IsUnderRoot Any _ _ (inside IsUnderRoot _ _ (λ is. is.1)) (λ path under. joins _ _ (one_housed c.roots path under))

    pub made_apart : (kind : Kind) → Keeps c.roots Any (makes_kind c kind s)
    made_apart Obj = followed Any Any _ _ (all (to_objects c s) objects (filter (λ e. not (is_header e)) (entries_of s.sources))) (λ made any. given Any _ tt)
    made_apart Exe = followed Any Any _ _ (link_all (program s) true) (λ entries any. given Any _ tt)
    made_apart Lib = followed Any Any _ _ (link_all (library_file c.file_types s) (is_shared s)) (λ entries any. given Any _ tt)
    made_apart Alias = given Any (record { entries = entries_of s.parts; carried = carried_of s.parts }) tt
    made_apart Make = followed Any Any _ _ (run s.rule (entries_of s.parts) (named_file c.file_types s ∷ []) (one_output _)) (λ entries any. given Any _ tt)
    made_apart Install =
        followed (Each Any (entries_of s.parts)) Any _ _ (each Any (copies_at c s (location_of s.set)) (copy (location_of s.set)) (entries_of s.parts)) (λ entries any. given Any _ tt)
