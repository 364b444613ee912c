-- Once all calls are carried out, the features that are declared have just the names that the calls add, in order.
use Rattle.std.proofs.Common.{◌≡◌, ℕ, Bool, true, false, cond, ◌||◌, List, [], ◌∷◌, ◌++◌, Option, Some, None, Ok, Err, fold, refl, sym, ◌∙◌, ap, ap₂, subst, append_assoc}
use Rattle.std.specs.Prelude.{Result, slice_set}
use Rattle.std.proofs.lemmas.List.{append-nil, map-append}
use Rattle.b2_base.specs.Results.{and_then}
use Rattle.b2_features.specs.declared.fault.FeatureFault.{FeatureFault}
use Rattle.b2_features.specs.Table.{DeclaredFeature, declared, composed, is_named, with_parts as with_more_parts}
use Rattle.b2_features.specs.Faults.{feature_fault, compose_fault}
use Rattle.b2_props.specs.Sets.{Pair}
use Rattle.b2_generators.specs.declared.generator.Generator.{Generator as GeneratorRow}
use Rattle.b2_generators.specs.Table.{is_type_taken, is_generator_refused}
use Rattle.b2_gcc.specs.Tables.{Composite, features, composites}
use Rattle.b2_gcc.specs.TableDeclarations.{with_composite, toolset_fault, with_types, with_generators}
use Rattle.b2_property_texts.specs.Clashes.{has_two_values}
use Rattle.b2_property_texts.specs.Readings.{property_reading}
use Rattle.b2_declaring_calls.specs.declared.declaration.Declaration.{Declaration}
use Rattle.b2_declaring_calls.specs.declared.declaration.Declaration.TheVariants.{Project, Main, Explicit, BuildProject, UseProject, Using, Feature, Compose, FileType, Generator, Import, Test}
use Rattle.b2_declaring_calls.specs.Declarations.{is_refused}
use Rattle.b2_declared.specs.declared.fault.DeclaringFault.{DeclaringFault}
use Rattle.b2_declared.specs.declared.visit.Visit.{Visit}
use Rattle.b2_declared.specs.declared.visit.Call.{Call}
use Rattle.b2_declared.specs.Outcomes.{all_steps}
use Rattle.b2_declared.specs.DeclaringCalls.{visit_of, unless, unless_fault, after_reading}
use Rattle.b2_declared.specs.Carrying.{Tables, with_features, with_registered, has_begun, gcc_tables, is_gcc_refused, with_project, with_gcc, with_feature, with_parts, with_compose, with_type, with_row, with_generator, with_declaration, with_accepted, carried_out, carrying, no_tables, tables_of, properties_in}
use Rattle.b2_declared.specs.Laws.{names, features_in, has_gcc_after, feature_names}

-- ---- composing leaves the names

names_composed : (table : List DeclaredFeature) (name value : List ℕ) (parts : List Pair) → names (composed table name value parts) ≡ names table
names_composed [] name value parts = refl
names_composed (f ∷ more) name value parts = go (is_named name f) (names_composed more name value parts)
  where
    go : (b : Bool) → names (composed more name value parts) ≡ names more → names (cond b (with_more_parts f value parts ∷ more) (f ∷ composed more name value parts)) ≡ names (f ∷ more)
    go true same = refl
    go false same = ap (λ ns. f.name ∷ ns) same

names_composites : (table : List DeclaredFeature) (cs : List Composite) → names (fold with_composite table cs) ≡ names table
names_composites table [] = refl
names_composites table (c ∷ cs) = names_composites (with_composite table c) cs ∙ names_composed table c.feature c.value c.parts

-- ---- steps that may be refused

-- what came of a step that could be refused
unrefused : {X P : Type 0} (v : Visit) (c : Call) (refused : Bool) (next : Result X DeclaringFault) (x : X) → unless v c refused next ≡ Ok x → (next ≡ Ok x → P) → P
unrefused v c true next x e then = cc
unrefused v c false next x e then = then e

no_fault : {X P : Type 0} (v : Visit) (c : Call) (cause : Option FeatureFault) (next : Result X DeclaringFault) (x : X) → unless_fault v c cause next ≡ Ok x → (next ≡ Ok x → P) → P
no_fault v c None next x e then = then e
no_fault v c (Some fault) next x e then = cc

was_read : {X Y P : Type 0} (v : Visit) (c : Call) (reading : Result X FeatureFault) (next : X → Result Y DeclaringFault) (y : Y) → after_reading v c reading next ≡ Ok y → ((x : X) → next x ≡ Ok y → P) → P
was_read v c (Ok x) next y e then = then x e
was_read v c (Err fault) next y e then = cc

-- ---- the names after a declaration

pub record Names (o : Option Declaration) (s t : Tables) : Type 0 where
  pub features : names t.features ≡ names s.features ++ features_in s.has_gcc o
  pub has_gcc : t.has_gcc ≡ has_gcc_after s.has_gcc o

module _ (v : Visit) (c : Call) (s t : Tables) where
  -- a declaration that leaves the names
  leaves : (o : Option Declaration) → features_in s.has_gcc o ≡ [] → has_gcc_after s.has_gcc o ≡ s.has_gcc → names t.features ≡ names s.features → t.has_gcc ≡ s.has_gcc → Names o s t
  leaves o none same names_same gcc_same = record {
    features = names_same ∙ sym (ap (λ ns. names s.features ++ ns) none ∙ append-nil (names s.features));
    has_gcc = gcc_same ∙ sym same;
  }

  names_project : with_project v c s ≡ Ok t → (t.features ≡ s.features) × (t.has_gcc ≡ s.has_gcc)
  unfolding with_project
  names_project e = let made : Tables = record s { begun = slice_set s.begun c.project true } in
      unrefused v c (has_begun s c.project) (Ok made) t e (λ is. let same : made ≡ t = cc in (ap (λ (u : Tables). u.features) (sym same), ap (λ (u : Tables). u.has_gcc) (sym same)))

  names_gcc : (o : Option (List ℕ)) → with_gcc v c s ≡ Ok t → Names (Some (Using o)) s t
  unfolding with_gcc
  names_gcc o e = go s.has_gcc refl e
    where
      go : (b : Bool) → s.has_gcc ≡ b → cond b (Ok s) (unless_fault v c (toolset_fault s.features) (unless v c (is_gcc_refused s.registered) (Ok (gcc_tables s)))) ≡ Ok t → Names (Some (Using o)) s t
      go true is e =
          let same : s ≡ t = cc in
          subst (Names (Some (Using o)) s) same (record { features = sym (ap (λ b. names s.features ++ cond b [] (names features)) is ∙ append-nil (names s.features)); has_gcc = is })
      go false is e =
          no_fault v c (toolset_fault s.features) (unless v c (is_gcc_refused s.registered) (Ok (gcc_tables s))) t e (λ e.
          unrefused v c (is_gcc_refused s.registered) (Ok (gcc_tables s)) t e (λ e.
          let same : gcc_tables s ≡ t = cc in
          subst (Names (Some (Using o)) s) same (record {
            features = names_composites (s.features ++ features) composites ∙ map-append (λ (f : DeclaredFeature). f.name) s.features features ∙ sym (ap (λ b. names s.features ++ cond b [] (names features)) is);
            has_gcc = refl;
          })))

  names_feature : (name : List ℕ) (values attributes : List (List ℕ)) → with_feature v c name values attributes s ≡ Ok t → Names (Some (Feature name values attributes)) s t
  unfolding with_feature
  names_feature name values attributes e =
      no_fault v c (feature_fault s.features name values attributes) (Ok (with_features s (s.features ++ declared name values attributes ∷ []))) t e (λ e.
      let same : with_features s (s.features ++ declared name values attributes ∷ []) ≡ t = cc in
      subst (Names (Some (Feature name values attributes)) s) same (record {
        features = map-append (λ (f : DeclaredFeature). f.name) s.features (declared name values attributes ∷ []);
        has_gcc = refl;
      }))

  names_compose : (property : List ℕ) (parts : List (List ℕ)) → with_compose v c property parts s ≡ Ok t → (names t.features ≡ names s.features) × (t.has_gcc ≡ s.has_gcc)
  unfolding with_compose with_parts
  names_compose property parts e =
      was_read v c (property_reading s.features v.dir property) (λ p. after_reading v c (properties_in s.features v parts) (λ ps. with_parts v c p ps s)) t e (λ p e.
      was_read v c (properties_in s.features v parts) (λ ps. with_parts v c p ps s) t e (λ ps e.
      no_fault v c (compose_fault s.features p.0 p.1 ps) (Ok (with_features s (composed s.features p.0 p.1 ps))) t e (λ e.
      let same : with_features s (composed s.features p.0 p.1 ps) ≡ t = cc in
      subst (λ (u : Tables). (names u.features ≡ names s.features) × (u.has_gcc ≡ s.has_gcc)) same (names_composed s.features p.0 p.1 ps, refl))))

  names_type : (name : List ℕ) (suffixes : List (List ℕ)) → with_type v c name suffixes s ≡ Ok t → (t.features ≡ s.features) × (t.has_gcc ≡ s.has_gcc)
  unfolding with_type
  names_type name suffixes e = let made : Tables = with_registered s (with_types s.registered (record { name = name; suffixes = suffixes } ∷ [])) in
      unrefused v c (is_type_taken s.registered.types name suffixes) (Ok made) t e (λ is. let same : made ≡ t = cc in (ap (λ (u : Tables). u.features) (sym same), ap (λ (u : Tables). u.has_gcc) (sym same)))

  names_generator : (id : List ℕ) (sources targets requirements : List (List ℕ)) → with_generator v c id sources targets requirements s ≡ Ok t → (t.features ≡ s.features) × (t.has_gcc ≡ s.has_gcc)
  unfolding with_generator with_row
  names_generator id sources targets requirements e =
      was_read v c (properties_in s.features v requirements) (λ ps. unless v c (has_two_values s.features ps) (with_row v c (record { id = id; sources = sources; targets = targets; required = ps }) s)) t e (λ ps e.
      let row : GeneratorRow = record { id = id; sources = sources; targets = targets; required = ps } in
      let made : Tables = with_registered s (with_generators s.registered (row ∷ [])) in
      unrefused v c (has_two_values s.features ps) (with_row v c row s) t e (λ e.
      unrefused v c (is_generator_refused s.registered row) (Ok made) t e (λ is. let same : made ≡ t = cc in (ap (λ (u : Tables). u.features) (sym same), ap (λ (u : Tables). u.has_gcc) (sym same)))))

  names_declared : (d : Declaration) → with_declaration v c d s ≡ Ok t → Names (Some d) s t
  names_declared (Project a) e = let p = names_project e in leaves (Some (Project a)) refl refl (ap names p.0) p.1
  names_declared (Main m) e = let same : s ≡ t = cc in leaves (Some (Main m)) refl refl (ap (λ (u : Tables). names u.features) (sym same)) (ap (λ (u : Tables). u.has_gcc) (sym same))
  names_declared (Explicit names') e = let same : s ≡ t = cc in leaves (Some (Explicit names')) refl refl (ap (λ (u : Tables). names u.features) (sym same)) (ap (λ (u : Tables). u.has_gcc) (sym same))
  names_declared (BuildProject dir) e = let same : s ≡ t = cc in leaves (Some (BuildProject dir)) refl refl (ap (λ (u : Tables). names u.features) (sym same)) (ap (λ (u : Tables). u.has_gcc) (sym same))
  names_declared (UseProject id dir) e = let same : s ≡ t = cc in leaves (Some (UseProject id dir)) refl refl (ap (λ (u : Tables). names u.features) (sym same)) (ap (λ (u : Tables). u.has_gcc) (sym same))
  names_declared (Using command) e = names_gcc command e
  names_declared (Feature name values attributes) e = names_feature name values attributes e
  names_declared (Compose property parts) e = let p = names_compose property parts e in leaves (Some (Compose property parts)) refl refl p.0 p.1
  names_declared (FileType name suffixes) e = let p = names_type name suffixes e in leaves (Some (FileType name suffixes)) refl refl (ap names p.0) p.1
  names_declared (Generator id sources targets requirements) e =
      let p = names_generator id sources targets requirements e in leaves (Some (Generator id sources targets requirements)) refl refl (ap names p.0) p.1
  names_declared Import e = let same : s ≡ t = cc in leaves (Some Import) refl refl (ap (λ (u : Tables). names u.features) (sym same)) (ap (λ (u : Tables). u.has_gcc) (sym same))
  names_declared (Test test) e = let same : s ≡ t = cc in leaves (Some (Test test)) refl refl (ap (λ (u : Tables). names u.features) (sym same)) (ap (λ (u : Tables). u.has_gcc) (sym same))

  names_step : (o : Option Declaration) → carried_out v c o s ≡ Ok t → Names o s t
  unfolding with_accepted
  names_step None e = cc
  names_step (Some d) e = unrefused v c (c.refused || is_refused d) (with_declaration v c d s) t e (names_declared d)

-- ---- all calls

all_names : (visits : List Visit) (s : Tables) (calls : List Call) (t : Tables) → all_steps (carrying visits) s calls ≡ Ok t → names t.features ≡ names s.features ++ feature_names s.has_gcc calls
all_names visits s [] t e = let same : s ≡ t = cc in ap (λ (u : Tables). names u.features) (sym same) ∙ sym (append-nil (names s.features))
all_names visits s (c ∷ calls) t e = go (carrying visits s c) refl e (λ u. all_names visits u calls t)
  where
    go : (r : Result Tables DeclaringFault) → carrying visits s c ≡ r → and_then (λ u. all_steps (carrying visits) u calls) r ≡ Ok t → ((u : Tables) → all_steps (carrying visits) u calls ≡ Ok t → names t.features ≡ names u.features ++ feature_names u.has_gcc calls) → names t.features ≡ names s.features ++ (features_in s.has_gcc c.declaration ++ feature_names (has_gcc_after s.has_gcc c.declaration) calls)
    go (Ok u) is e more =
        let step : Names c.declaration s u = names_step (visit_of visits c) c s u c.declaration is in
        more u e ∙ ap₂ (λ ns b. ns ++ feature_names b calls) step.features step.has_gcc ∙ append_assoc (names s.features) (features_in s.has_gcc c.declaration) (feature_names (has_gcc_after s.has_gcc c.declaration) calls)
    go (Err fault) is e more = cc

-- the names of the features are those that the calls add
pub names_of_calls : (visits : List Visit) (calls : List Call) (t : Tables) → tables_of visits calls ≡ Ok t → names t.features ≡ feature_names false calls
names_of_calls visits calls t e = all_names visits (no_tables visits) calls t e
