-- Each call that registers generators is refused where an id is there already, so that all ids stay distinct.
use Rattle.std.proofs.Common.{◌≡◌, ℕ, Bool, true, false, cond, ◌||◌, List, [], ◌∷◌, ◌++◌, Option, Some, None, Ok, Err, refl, sym, subst, append_assoc, append-nil, arith}
use Rattle.std.specs.Prelude.{Result, slice_set}
use Rattle.std.proofs.lemmas.Bool.{or_parts}
use Rattle.b2_base.specs.Results.{and_then}
use Rattle.b2_features.specs.declared.fault.FeatureFault.{FeatureFault}
use Rattle.b2_features.specs.Table.{declared as feature_declared, composed}
use Rattle.b2_features.specs.Faults.{feature_fault, compose_fault}
use Rattle.b2_generators.specs.declared.generator.Generator.{Generator as GeneratorRow}
use Rattle.b2_generators.specs.Table.{Registered, is_type_taken, is_generator_refused, HaveDistinctIds}
use Rattle.b2_generators.proofs.RegisteredIdsStayDistinct.{distinct_push}
use Rattle.b2_gcc.specs.Tables.{file_types, generators}
use Rattle.b2_gcc.specs.TableDeclarations.{toolset_fault, with_types, with_generators, are_types_refused, are_generators_refused}
use Rattle.b2_property_texts.specs.Clashes.{has_two_values}
use Rattle.b2_property_texts.specs.Readings.{property_reading}
use Rattle.b2_declaring_calls.specs.declared.declaration.Declaration.{Declaration}
use Rattle.b2_declaring_calls.specs.declared.declaration.Declaration.TheVariants.{Project, Main, Explicit, BuildProject, UseProject, Using, Feature, Compose, FileType, Generator, Import, Test}
use Rattle.b2_declaring_calls.specs.Declarations.{is_refused}
use Rattle.b2_declared.specs.declared.fault.DeclaringFault.{DeclaringFault}
use Rattle.b2_declared.specs.declared.visit.Visit.{Visit}
use Rattle.b2_declared.specs.declared.visit.Call.{Call}
use Rattle.b2_declared.specs.declared.whole.Declared.{Declared}
use Rattle.b2_declared.specs.Outcomes.{all_steps}
use Rattle.b2_declared.specs.DeclaringCalls.{visit_of, unless, unless_fault, after_reading}
use Rattle.b2_declared.specs.Carrying.{Tables, with_features, with_registered, has_begun, gcc_tables, is_gcc_refused, with_project, with_gcc, with_feature, with_parts, with_compose, with_type, with_row, with_generator, with_declaration, with_accepted, carried_out, carrying, no_tables, tables_of, properties_in}
use Rattle.b2_declared.specs.Gathering.{Gathered, gathered_by}
use Rattle.b2_declared.specs.Declaring.{whole, declared}
use Rattle.b2_generation_laws.specs.Laws.{IdsAreDistinct}

-- ---- steps that may be refused

-- what came of a step that could be refused
unrefused : {X P : Type 0} (v : Visit) (c : Call) (refused : Bool) (next : Result X DeclaringFault) (x : X) → unless v c refused next ≡ Ok x → (refused ≡ false → next ≡ Ok x → P) → P
unrefused v c true next x e then = cc
unrefused v c false next x e then = then refl e

no_fault : {X P : Type 0} (v : Visit) (c : Call) (cause : Option FeatureFault) (next : Result X DeclaringFault) (x : X) → unless_fault v c cause next ≡ Ok x → (next ≡ Ok x → P) → P
no_fault v c None next x e then = then e
no_fault v c (Some fault) next x e then = cc

was_read : {X Y P : Type 0} (v : Visit) (c : Call) (reading : Result X FeatureFault) (next : X → Result Y DeclaringFault) (y : Y) → after_reading v c reading next ≡ Ok y → ((x : X) → next x ≡ Ok y → P) → P
was_read v c (Ok x) next y e then = then x e
was_read v c (Err fault) next y e then = cc

-- ---- generators one after another

several_distinct : (r : Registered) (gs : List GeneratorRow) → are_generators_refused r gs ≡ false → HaveDistinctIds r.generators → HaveDistinctIds (r.generators ++ gs)
several_distinct r [] free own = subst HaveDistinctIds (sym (append-nil r.generators)) own
several_distinct r (g ∷ more) free own =
    let both = or_parts (is_generator_refused r g) (are_generators_refused (with_generators r (g ∷ [])) more) free in
    subst HaveDistinctIds (append_assoc r.generators (g ∷ []) more) (several_distinct (with_generators r (g ∷ [])) more both.1 (distinct_push r g both.0 own))

-- ---- a declaration

abbrev AreDistinct : Tables → Type 0
AreDistinct t = HaveDistinctIds t.registered.generators

module _ (v : Visit) (c : Call) (s t : Tables) (own : AreDistinct s) where
  same_after : (made : Tables) → AreDistinct made → ◌≡◌ {A = Result Tables DeclaringFault} (Ok made) (Ok t) → AreDistinct t
  same_after made are e = let same : made ≡ t = cc in subst AreDistinct same are

  after_project : with_project v c s ≡ Ok t → AreDistinct t
  unfolding with_project
  after_project e = let made : Tables = record s { begun = slice_set s.begun c.project true } in
      unrefused v c (has_begun s c.project) (Ok made) t e (λ free is. same_after made own is)

  after_gcc : with_gcc v c s ≡ Ok t → AreDistinct t
  unfolding with_gcc
  after_gcc e = go s.has_gcc e
    where
      go : (b : Bool) → cond b (Ok s) (unless_fault v c (toolset_fault s.features) (unless v c (is_gcc_refused s.registered) (Ok (gcc_tables s)))) ≡ Ok t → AreDistinct t
      go true e = same_after s own e
      go false e =
          no_fault v c (toolset_fault s.features) (unless v c (is_gcc_refused s.registered) (Ok (gcc_tables s))) t e (λ e.
          unrefused v c (is_gcc_refused s.registered) (Ok (gcc_tables s)) t e (λ free is.
          let fine = or_parts (are_types_refused s.registered.types file_types) (are_generators_refused (with_types s.registered file_types) generators) free in
          same_after (gcc_tables s) (several_distinct (with_types s.registered file_types) generators fine.1 own) is))

  after_feature : (name : List ℕ) (values attributes : List (List ℕ)) → with_feature v c name values attributes s ≡ Ok t → AreDistinct t
  unfolding with_feature
  after_feature name values attributes e =
      let made : Tables = with_features s (s.features ++ feature_declared name values attributes ∷ []) in
      no_fault v c (feature_fault s.features name values attributes) (Ok made) t e (λ is. same_after made own is)

  after_compose : (property : List ℕ) (parts : List (List ℕ)) → with_compose v c property parts s ≡ Ok t → AreDistinct t
  unfolding with_compose with_parts
  after_compose property parts e =
      was_read v c (property_reading s.features v.dir property) (λ p. after_reading v c (properties_in s.features v parts) (λ ps. with_parts v c p ps s)) t e (λ p e.
      was_read v c (properties_in s.features v parts) (λ ps. with_parts v c p ps s) t e (λ ps e.
      let made : Tables = with_features s (composed s.features p.0 p.1 ps) in
      no_fault v c (compose_fault s.features p.0 p.1 ps) (Ok made) t e (λ is. same_after made own is)))

  after_type : (name : List ℕ) (suffixes : List (List ℕ)) → with_type v c name suffixes s ≡ Ok t → AreDistinct t
  unfolding with_type
  after_type name suffixes e = let made : Tables = with_registered s (with_types s.registered (record { name = name; suffixes = suffixes } ∷ [])) in
      unrefused v c (is_type_taken s.registered.types name suffixes) (Ok made) t e (λ free is. same_after made own is)

  after_generator : (id : List ℕ) (sources targets requirements : List (List ℕ)) → with_generator v c id sources targets requirements s ≡ Ok t → AreDistinct t
  unfolding with_generator with_row
  after_generator id sources targets requirements e =
      was_read v c (properties_in s.features v requirements) (λ ps. unless v c (has_two_values s.features ps) (with_row v c (record { id = id; sources = sources; targets = targets; required = ps }) s)) t e (λ ps e.
      let row : GeneratorRow = record { id = id; sources = sources; targets = targets; required = ps } in
      let made : Tables = with_registered s (with_generators s.registered (row ∷ [])) in
      unrefused v c (has_two_values s.features ps) (with_row v c row s) t e (λ fine e.
      unrefused v c (is_generator_refused s.registered row) (Ok made) t e (λ free is. same_after made (distinct_push s.registered row free own) is)))

  after_declaration : (d : Declaration) → with_declaration v c d s ≡ Ok t → AreDistinct t
  after_declaration (Project a) e = after_project e
  after_declaration (Main m) e = same_after s own e
  after_declaration (Explicit names) e = same_after s own e
  after_declaration (BuildProject dir) e = same_after s own e
  after_declaration (UseProject id dir) e = same_after s own e
  after_declaration (Using command) e = after_gcc e
  after_declaration (Feature name values attributes) e = after_feature name values attributes e
  after_declaration (Compose property parts) e = after_compose property parts e
  after_declaration (FileType name suffixes) e = after_type name suffixes e
  after_declaration (Generator id sources targets requirements) e = after_generator id sources targets requirements e
  after_declaration Import e = same_after s own e
  after_declaration (Test test) e = same_after s own e

  after_call : (o : Option Declaration) → carried_out v c o s ≡ Ok t → AreDistinct t
  unfolding with_accepted
  after_call None e = cc
  after_call (Some d) e = unrefused v c (c.refused || is_refused d) (with_declaration v c d s) t e (λ free is. after_declaration d is)

-- ---- all calls

after_calls : (visits : List Visit) (s : Tables) (calls : List Call) (t : Tables) → AreDistinct s → all_steps (carrying visits) s calls ≡ Ok t → AreDistinct t
after_calls visits s [] t own e = let same : s ≡ t = cc in subst AreDistinct same own
after_calls visits s (c ∷ calls) t own e = go (carrying visits s c) refl e (λ u. after_calls visits u calls t)
  where
    go : (r : Result Tables DeclaringFault) → carrying visits s c ≡ r → and_then (λ u. all_steps (carrying visits) u calls) r ≡ Ok t
        → ((u : Tables) → AreDistinct u → all_steps (carrying visits) u calls ≡ Ok t → AreDistinct t) → AreDistinct t
    go (Ok u) is e later = later u (after_call (visit_of visits c) c s u own c.declaration is) e
    go (Err fault) is e later = cc

none_distinct : HaveDistinctIds []
none_distinct i j d earlier within = absurd (omega (arith, within))

pub ids_are_distinct : IdsAreDistinct
ids_are_distinct visits calls found e = with_tables (tables_of visits calls) refl e
  where
    with_gathered : (t : Tables) (r : Result Gathered DeclaringFault) → AreDistinct t → and_then (λ g. Ok (whole t g)) r ≡ Ok found → HaveDistinctIds found.types.generators
    with_gathered t (Ok g) own e = let same : whole t g ≡ found = cc in subst (λ (d : Declared). HaveDistinctIds d.types.generators) same own
    with_gathered t (Err fault) own e = cc

    with_tables : (r : Result Tables DeclaringFault) → tables_of visits calls ≡ r → and_then (λ t. and_then (λ g. Ok (whole t g)) (gathered_by t.features visits calls)) r ≡ Ok found → HaveDistinctIds found.types.generators
    with_tables (Ok t) is e = with_gathered t (gathered_by t.features visits calls) (after_calls visits (no_tables visits) calls t none_distinct is) e
    with_tables (Err fault) is e = cc
