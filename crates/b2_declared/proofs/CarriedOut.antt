use Rattle.std.proofs.Common.{◌≡◌, ℕ, true, false, cond, List, None, Ok, refl, sym, ◌∙◌, ap, subst}
use Rattle.std.specs.Prelude.{Result}
use Rattle.b2_features.specs.declared.fault.FeatureFault.{FeatureFault}
use Rattle.b2_features.specs.Faults.{IsBy}
use Rattle.b2_props.specs.Sets.{Pair}
use Rattle.b2_generators.specs.declared.generator.Generator.{Generator as GeneratorRow}
use Rattle.b2_gcc.specs.TableDeclarations.{toolset_fault}
use Rattle.b2_property_texts.specs.Clashes.{has_two_values}
use Rattle.b2_property_texts.specs.Readings.{property_reading}
use Rattle.b2_declared.specs.declared.fault.DeclaringFault.{DeclaringFault}
use Rattle.b2_declared.specs.declared.visit.Visit.{Visit}
use Rattle.b2_declared.specs.declared.visit.Call.{Call}
use Rattle.b2_declared.specs.Outcomes.{IsFaultOf}
use Rattle.b2_declared.specs.DeclaringCalls.{refusal, unless, unless_fault, after_reading, at_call, IsRefusal, IsFeatureRefusal}
use Rattle.b2_declared.specs.Carrying.{Tables, gcc_tables, is_gcc_refused, properties_in, with_gcc, with_parts, with_compose, with_row, with_generator}
use Rattle.b2_declared.proofs.RefusalIsTheStepsFault.{read_fault_then, read_then, read_then_fault, unless_refused, unrefused, faultless, faultless_fault, cause_is_fault}

-- ---- `using gcc`

module _ (v : Visit) (c : Call) (t : Tables) where
  pub gcc_there : t.has_gcc ≡ true → with_gcc v c t ≡ Ok t
  unfolding with_gcc
  gcc_there there = ap (λ b. cond b (Ok t) (unless_fault v c (toolset_fault t.features) (unless v c (is_gcc_refused t.registered) (Ok (gcc_tables t))))) there

  module _ (absent : t.has_gcc ≡ false) where
    after : Result Tables DeclaringFault
    after = unless v c (is_gcc_refused t.registered) (Ok (gcc_tables t))

    is_so : with_gcc v c t ≡ unless_fault v c (toolset_fault t.features) after
    unfolding with_gcc after
    is_so = ap (λ b. cond b (Ok t) (unless_fault v c (toolset_fault t.features) (unless v c (is_gcc_refused t.registered) (Ok (gcc_tables t))))) absent

    pub gcc_features_fault : (fault : FeatureFault) (answer : DeclaringFault) → IsBy (toolset_fault t.features) fault → IsFeatureRefusal v c fault answer → IsFaultOf (with_gcc v c t) answer
    gcc_features_fault fault answer by answers = subst (λ r. IsFaultOf r answer) (sym is_so) (cause_is_fault v c (toolset_fault t.features) after fault answer by answers)

    module _ (sound : toolset_fault t.features ≡ None) where
      pub gcc_types_fault : (answer : DeclaringFault) → is_gcc_refused t.registered ≡ true → IsRefusal (refusal v c) answer → IsFaultOf (with_gcc v c t) answer
      unfolding after
      gcc_types_fault answer refused answers =
          subst (λ r. IsFaultOf r answer) (sym is_so)
          (faultless_fault v c (toolset_fault t.features) after answer sound (unless_refused v c (is_gcc_refused t.registered) (Ok (gcc_tables t)) answer refused answers))

      pub gcc_declared : is_gcc_refused t.registered ≡ false → with_gcc v c t ≡ Ok (gcc_tables t)
      unfolding after
      gcc_declared free = is_so ∙ faultless v c (toolset_fault t.features) after sound ∙ unrefused v c (is_gcc_refused t.registered) (Ok (gcc_tables t)) free

-- ---- `feature.compose`

module _ (v : Visit) (c : Call) (property : List ℕ) (parts : List (List ℕ)) (t : Tables) where
  compose_with : Pair → List Pair → Result Tables DeclaringFault
  compose_with p ps = with_parts v c p ps t

  compose_after : Pair → Result Tables DeclaringFault
  compose_after p = after_reading v c (properties_in t.features v parts) (compose_with p)

  compose_is_so : with_compose v c property parts t ≡ after_reading v c (property_reading t.features v.dir property) compose_after
  unfolding with_compose compose_after compose_with
  compose_is_so = refl

  pub property_fault : (f : DeclaringFault) → IsFaultOf (at_call v c (property_reading t.features v.dir property)) f → IsFaultOf (with_compose v c property parts t) f
  property_fault f fault = subst (λ r. IsFaultOf r f) (sym compose_is_so) (read_fault_then v c (property_reading t.features v.dir property) compose_after f fault)

  module _ (p : Pair) (read : property_reading t.features v.dir property ≡ Ok p) where
    pub parts_fault : (f : DeclaringFault) → IsFaultOf (at_call v c (properties_in t.features v parts)) f → IsFaultOf (with_compose v c property parts t) f
    unfolding compose_after
    parts_fault f fault =
        subst (λ r. IsFaultOf r f) (sym compose_is_so)
        (read_then_fault v c (property_reading t.features v.dir property) compose_after p f read (read_fault_then v c (properties_in t.features v parts) (compose_with p) f fault))

    pub compose_read : (ps : List Pair) → properties_in t.features v parts ≡ Ok ps → with_compose v c property parts t ≡ with_parts v c p ps t
    unfolding compose_after compose_with
    compose_read ps given =
        compose_is_so
        ∙ read_then v c (property_reading t.features v.dir property) compose_after p (with_parts v c p ps t) read
        (read_then v c (properties_in t.features v parts) (compose_with p) ps (with_parts v c p ps t) given refl)

-- ---- `generators.register-standard`

module _ (v : Visit) (c : Call) (id : List ℕ) (sources targets requirements : List (List ℕ)) (t : Tables) where
  row : List Pair → GeneratorRow
  row ps = record { id = id; sources = sources; targets = targets; required = ps }

  generator_after : List Pair → Result Tables DeclaringFault
  generator_after ps = unless v c (has_two_values t.features ps) (with_row v c (row ps) t)

  generator_is_so : with_generator v c id sources targets requirements t ≡ after_reading v c (properties_in t.features v requirements) generator_after
  unfolding with_generator generator_after row
  generator_is_so = refl

  pub required_fault : (f : DeclaringFault) → IsFaultOf (at_call v c (properties_in t.features v requirements)) f → IsFaultOf (with_generator v c id sources targets requirements t) f
  required_fault f fault = subst (λ r. IsFaultOf r f) (sym generator_is_so) (read_fault_then v c (properties_in t.features v requirements) generator_after f fault)

  module _ (ps : List Pair) (read : properties_in t.features v requirements ≡ Ok ps) where
    pub two_required_fault : (f : DeclaringFault) → has_two_values t.features ps ≡ true → IsRefusal (refusal v c) f → IsFaultOf (with_generator v c id sources targets requirements t) f
    unfolding generator_after
    two_required_fault f two answers =
        subst (λ r. IsFaultOf r f) (sym generator_is_so)
        (read_then_fault v c (properties_in t.features v requirements) generator_after ps f read (unless_refused v c (has_two_values t.features ps) (with_row v c (row ps) t) f two answers))

    pub generator_read : has_two_values t.features ps ≡ false → with_generator v c id sources targets requirements t ≡ with_row v c (record { id = id; sources = sources; targets = targets; required = ps }) t
    unfolding generator_after row
    generator_read one =
        generator_is_so
        ∙ read_then v c (properties_in t.features v requirements) generator_after ps (with_row v c (row ps) t) read (unrefused v c (has_two_values t.features ps) (with_row v c (row ps) t) one)
