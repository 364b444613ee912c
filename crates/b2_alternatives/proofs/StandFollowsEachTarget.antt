-- After one more main target, with usage requirements or without, the dependencies are where the alternative stands.
use Rattle.std.proofs.Common.{◌≡◌, Bool, false, List, [], ◌∷◌, ◌++◌, Option, Some, None, is_some, length, refl, sym, ◌∙◌, ap, subst, arith}
use Rattle.std.proofs.lemmas.List.{append-nil}
use Rattle.b2_features.specs.Table.{DeclaredFeature}
use Rattle.b2_props.specs.Sets.{Pair, IsSet, value_of, firsts, free_of, written}
use Rattle.b2_props.specs.Refinement.{refined}
use Rattle.b2_declared.specs.declared.place.Target.{Target}
use Rattle.b2_declared.specs.declared.whole.Declared.{Declared}
use Rattle.b2_references.specs.Names.{Name, features}
use Rattle.b2_alternatives.specs.declared.dependencies.Dependencies.{Dependencies}
use Rattle.b2_alternatives.specs.Needs.{Under, after, property_needs}
use Rattle.b2_alternatives.specs.DependencyWork.{AreKnown, AreValues, AreMet, StandAt, Takes}
use Rattle.b2_alternatives.proofs.FirstUnmetNeedComesNext.{met_stays, met_first}

-- a set that nothing refines stays as it is
refined_nothing : (table : List DeclaredFeature) (set : List Pair) → IsSet table set → refined table set [] ≡ set
refined_nothing table set is = ap (λ (ps : List Pair). written table (value_of set) (firsts (free_of table ps))) (append-nil set) ∙ is

module _ (d : Declared) (t : Target) (u : Under) (n : Name) (usage : List Pair) (old mid : Dependencies) (stand : StandAt d t u old)
    (set : mid.set ≡ old.set) (had : mid.usage ≡ old.usage) (sources : mid.sources ≡ old.sources) (properties : mid.properties ≡ old.properties)
    (values : AreValues (u.usage ++ usage) mid.values) (done : AreKnown (u.done ++ n ∷ []) mid.done) where
  -- after a main target without usage requirements
  pub stand_still : usage ≡ [] → StandAt d t (after d u n usage) mid
  stand_still none = record {
    set = set ∙ stand.set ∙ sym same;
    is_set = subst (IsSet (features d)) (sym same) stand.is_set;
    usage = had ∙ stand.usage ∙ sym (append-nil u.usage) ∙ ap (λ (ps : List Pair). u.usage ++ ps) (sym none);
    values = values;
    done = done;
    sources = ap (λ s. s.needs) sources ∙ stand.sources;
    properties = ap (λ s. s.needs) properties ∙ stand.properties ∙ ap (property_needs d) (sym same);
    sources_met = subst (λ s. AreMet (u.done ++ n ∷ []) s.needs s.place) (sym sources) (met_stays u.done n old.sources.needs old.sources.place stand.sources_met);
    properties_met = subst (λ s. AreMet (u.done ++ n ∷ []) s.needs s.place) (sym properties) (met_stays u.done n old.properties.needs old.properties.place stand.properties_met);
  }
    where
      same : refined (features d) u.set usage ≡ u.set
      same = ap (refined (features d) u.set) none ∙ refined_nothing (features d) u.set stand.is_set

  -- after one with usage requirements
  pub stand_after : (new : Dependencies) → Takes d usage mid new → StandAt d t (after d u n usage) new
  stand_after new takes = record {
    set = whole;
    is_set = subst (IsSet (features d)) whole takes.is_set;
    usage = takes.usage ∙ ap (λ (ps : List Pair). ps ++ usage) (had ∙ stand.usage);
    values = subst (AreValues (u.usage ++ usage)) (sym takes.values) values;
    done = subst (AreKnown (u.done ++ n ∷ [])) (sym takes.done) done;
    sources = ap (λ s. s.needs) (takes.sources ∙ sources) ∙ stand.sources;
    properties = takes.properties ∙ ap (property_needs d) whole;
    sources_met = subst (λ s. AreMet (u.done ++ n ∷ []) s.needs s.place) (sym (takes.sources ∙ sources)) (met_stays u.done n old.sources.needs old.sources.place stand.sources_met);
    properties_met = met_first (u.done ++ n ∷ []) new.properties.needs new.properties.place takes.first;
  }
    where
      whole : new.set ≡ refined (features d) u.set usage
      whole = takes.set ∙ ap (λ (ps : List Pair). refined (features d) ps usage) (set ∙ stand.set)

pub none_of : {X : Type 0} (o : Option X) (b : Bool) → b ≡ is_some o → b ≡ false → o ≡ None
none_of None b is e = refl
none_of (Some x) b is e = cc

pub nothing_left : {X : Type 0} (xs : List X) → length xs ≡ 0 → xs ≡ []
nothing_left [] e = refl
nothing_left (x ∷ xs) e = absurd (omega arith)
