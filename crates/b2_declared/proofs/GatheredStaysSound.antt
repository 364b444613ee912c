-- Each call keeps what was gathered sound, leaves the projects as visited and adds its target; so all calls do.
use Rattle.std.proofs.Common.{◌≡◌, ℕ, ◌<◌, ◌≤◌, List, [], ◌∷◌, ◌++◌, Option, Some, None, Ok, Err, All, map, length, refl, sym, ◌∙◌, ap, subst, arith, length-append}
use Rattle.std.specs.Prelude.{Result}
use Rattle.std.specs.List.{cons_option}
use Rattle.std.proofs.lemmas.List.{append-nil, map-append, length-map}
use Rattle.std.proofs.lemmas.List.Elements.{All-nil, All-append, All-push, All-weaker, All-map}
use Rattle.b2_base.specs.Segments.{path_from}
use Rattle.b2_base.specs.Results.{and_then}
use Rattle.b2_features.specs.Table.{DeclaredFeature}
use Rattle.b2_declaring_calls.specs.declared.declaration.Declaration.{Declaration}
use Rattle.b2_declaring_calls.specs.declared.declaration.Declaration.TheVariants.{Project, Main, Explicit, BuildProject, UseProject, Using, Feature, Compose, FileType, Generator, Import, Test}
use Rattle.b2_declaring_calls.specs.declared.declaration.Attributes.{Attributes}
use Rattle.b2_declaring_calls.specs.declared.declaration.MainTarget.{MainTarget}
use Rattle.b2_declaring_calls.specs.declared.declaration.Test.{Test as TestDeclared}
use Rattle.b2_declared.specs.declared.fault.DeclaringFault.{DeclaringFault}
use Rattle.b2_declared.specs.declared.lists.Lists.{Lists}
use Rattle.b2_declared.specs.declared.visit.Visit.{Visit}
use Rattle.b2_declared.specs.declared.visit.Call.{Call}
use Rattle.b2_declared.specs.declared.place.Place.{Place}
use Rattle.b2_declared.specs.declared.place.Target.{Target}
use Rattle.b2_declared.specs.declared.place.TestCall.{TestCall}
use Rattle.b2_declared.specs.declared.place.IndirectRule.{IndirectRule}
use Rattle.b2_declared.specs.DeclaringCalls.{visit_of}
use Rattle.b2_declared.specs.Gathering.{Gathered, lists_in, numbered, rules_in, plain, with_place, attributed, with_own_id, bare, target_with, one_target_more, test_with, one_test_more, with_attributes, with_target, with_test, with_explicit, with_build, with_use, gathered_of, gathering, nothing_gathered, gathered_by}
use Rattle.b2_declared.specs.Laws.{visited, main_in, mains, named, AreNumbered, IsSound}
use Rattle.b2_props.specs.Requirements.{AsksBelow}
use Rattle.b2_declared.proofs.NumbersStayBelowRuleCount.{numbered_below, usage_plain, rules_of_project, numbers_stay, below_more, length_changed, all_changed, map_changed}
use Rattle.b2_declared.proofs.StepsComposeUntilAFault.{all_steps_keep, all_steps_add}

-- what was gathered is sound
abbrev pub IsSoundSoFar : ℕ → Gathered → Type 0
IsSoundSoFar projects g = IsSound projects g.places g.targets g.tests g.indirect

-- how a declaration changes what was gathered
pub record Advances (projects : ℕ) (c : Call) (o : Option Declaration) (g t : Gathered) : Type 0 where
  pub sound : c.project < projects → IsSoundSoFar projects g → IsSoundSoFar projects t
  pub places : map visited t.places ≡ map visited g.places
  pub targets : named t.targets ≡ named g.targets ++ cons_option (main_in c.project o) []

module _ (projects : ℕ) (c : Call) (g : Gathered) (l : Lists) where
  rules : List IndirectRule
  rules = g.indirect ++ rules_in c l.requirements

  -- the rules become no fewer
  fewer : length g.indirect ≤ length rules
  unfolding rules
  fewer = omega (arith, length-append g.indirect (rules_in c l.requirements))

  -- the lists of a call have numbers
  lists_numbered : AreNumbered (length rules) (numbered (length g.indirect) l.requirements) (map plain l.usage)
  unfolding rules
  lists_numbered = record {
    below = subst (λ n. All (AsksBelow n) (numbered (length g.indirect) l.requirements)) (sym (length-append g.indirect (rules_in c l.requirements))) (numbered_below c (length g.indirect) l.requirements);
    plain = usage_plain l.usage;
  }

  attributes_sound : c.project < projects → IsSoundSoFar projects g → IsSound projects (with_place g.places c.project (attributed (length g.indirect) l)) g.targets g.tests rules
  unfolding rules
  attributes_sound within sound = record {
    all_places = length_changed g.places c.project (attributed (length g.indirect) l) ∙ sound.all_places;
    of_targets = sound.of_targets;
    of_tests = sound.of_tests;
    of_rules = All-append (λ (r : IndirectRule). r.project < projects) g.indirect (rules_in c l.requirements) sound.of_rules (rules_of_project c projects l.requirements within);
    in_places =
        all_changed g.places c.project (attributed (length g.indirect) l) (λ p. AreNumbered (length rules) p.requirements p.usage) (λ p are. lists_numbered)
        (All-weaker (λ (p : Place). AreNumbered (length g.indirect) p.requirements p.usage) (λ p. AreNumbered (length rules) p.requirements p.usage)
        (λ p are. numbers_stay (length g.indirect) (length rules) p.requirements p.usage fewer are) g.places sound.in_places);
    in_targets =
        All-weaker (λ (t : Target). AreNumbered (length g.indirect) t.requirements t.usage) (λ t. AreNumbered (length rules) t.requirements t.usage)
        (λ t are. numbers_stay (length g.indirect) (length rules) t.requirements t.usage fewer are) g.targets sound.in_targets;
    in_tests =
        All-weaker (λ (t : TestCall). All (AsksBelow (length g.indirect)) t.requirements) (λ t. All (AsksBelow (length rules)) t.requirements)
        (λ t are. below_more (length g.indirect) (length rules) t.requirements fewer are) g.tests sound.in_tests;
  }

  target_sound : (m : MainTarget) → c.project < projects → IsSoundSoFar projects g → IsSoundSoFar projects (one_target_more c m l g)
  unfolding rules one_target_more
  target_sound m within sound =
      let made : Target = target_with c m (numbered (length g.indirect) l.requirements) (map plain l.usage) l.defaults in
      record {
        all_places = sound.all_places;
        of_targets = All-push (λ (t : Target). t.project < projects) g.targets made sound.of_targets within;
        of_tests = sound.of_tests;
        of_rules = All-append (λ (r : IndirectRule). r.project < projects) g.indirect (rules_in c l.requirements) sound.of_rules (rules_of_project c projects l.requirements within);
        in_places =
            All-weaker (λ (p : Place). AreNumbered (length g.indirect) p.requirements p.usage) (λ p. AreNumbered (length rules) p.requirements p.usage)
            (λ p are. numbers_stay (length g.indirect) (length rules) p.requirements p.usage fewer are) g.places sound.in_places;
        in_targets =
            All-push (λ (t : Target). AreNumbered (length rules) t.requirements t.usage) g.targets made
            (All-weaker (λ (t : Target). AreNumbered (length g.indirect) t.requirements t.usage) (λ t. AreNumbered (length rules) t.requirements t.usage)
            (λ t are. numbers_stay (length g.indirect) (length rules) t.requirements t.usage fewer are) g.targets sound.in_targets)
            lists_numbered;
        in_tests =
            All-weaker (λ (t : TestCall). All (AsksBelow (length g.indirect)) t.requirements) (λ t. All (AsksBelow (length rules)) t.requirements)
            (λ t are. below_more (length g.indirect) (length rules) t.requirements fewer are) g.tests sound.in_tests;
      }

  test_sound : (t : TestDeclared) → c.project < projects → IsSoundSoFar projects g → IsSoundSoFar projects (one_test_more c t l g)
  unfolding rules one_test_more
  test_sound t within sound =
      let made : TestCall = test_with c t (numbered (length g.indirect) l.requirements) in
      record {
        all_places = sound.all_places;
        of_targets = sound.of_targets;
        of_tests = All-push (λ (t : TestCall). t.project < projects) g.tests made sound.of_tests within;
        of_rules = All-append (λ (r : IndirectRule). r.project < projects) g.indirect (rules_in c l.requirements) sound.of_rules (rules_of_project c projects l.requirements within);
        in_places =
            All-weaker (λ (p : Place). AreNumbered (length g.indirect) p.requirements p.usage) (λ p. AreNumbered (length rules) p.requirements p.usage)
            (λ p are. numbers_stay (length g.indirect) (length rules) p.requirements p.usage fewer are) g.places sound.in_places;
        in_targets =
            All-weaker (λ (t : Target). AreNumbered (length g.indirect) t.requirements t.usage) (λ t. AreNumbered (length rules) t.requirements t.usage)
            (λ t are. numbers_stay (length g.indirect) (length rules) t.requirements t.usage fewer are) g.targets sound.in_targets;
        in_tests =
            All-push (λ (t : TestCall). All (AsksBelow (length rules)) t.requirements) g.tests made
            (All-weaker (λ (t : TestCall). All (AsksBelow (length g.indirect)) t.requirements) (λ t. All (AsksBelow (length rules)) t.requirements)
            (λ t are. below_more (length g.indirect) (length rules) t.requirements fewer are) g.tests sound.in_tests)
            lists_numbered.below;
      }

-- a change of a project that its requirements and its usage do not see
changed_sound : (projects project : ℕ) (g : Gathered) (change : Place → Place) → ((p : Place) (n : ℕ) → AreNumbered n p.requirements p.usage → AreNumbered n (change p).requirements (change p).usage) → IsSoundSoFar projects g → IsSound projects (with_place g.places project change) g.targets g.tests g.indirect
changed_sound projects project g change keeps sound = record {
  all_places = length_changed g.places project change ∙ sound.all_places;
  of_targets = sound.of_targets;
  of_tests = sound.of_tests;
  of_rules = sound.of_rules;
  in_places = all_changed g.places project change (λ p. AreNumbered (length g.indirect) p.requirements p.usage) (λ p are. keeps p (length g.indirect) are) sound.in_places;
  in_targets = sound.in_targets;
  in_tests = sound.in_tests;
}

module _ (features : List DeclaredFeature) (v : Visit) (projects : ℕ) (c : Call) (g t : Gathered) where
  nothing_more : (o : Option Declaration) → main_in c.project o ≡ None → g ≡ t → Advances projects c o g t
  nothing_more o none same = subst (Advances projects c o g) same (record {
    sound = λ within sound. sound;
    places = refl;
    targets = sym (ap (λ n. named g.targets ++ cons_option n []) none ∙ append-nil (named g.targets));
  })

  attributes_advance : (a : Attributes) → with_attributes features v c a g ≡ Ok t → Advances projects c (Some (Project a)) g t
  unfolding with_attributes rules
  attributes_advance a e = go (lists_in features v c a.lists) e
    where
      go : (r : Result Lists DeclaringFault) → and_then (λ l. Ok (record g { places = with_place g.places c.project (attributed (length g.indirect) l); ids = with_own_id g.ids a.id v.dir; indirect = g.indirect ++ rules_in c l.requirements })) r ≡ Ok t → Advances projects c (Some (Project a)) g t
      go (Ok l) e =
          let made : Gathered = record g { places = with_place g.places c.project (attributed (length g.indirect) l); ids = with_own_id g.ids a.id v.dir; indirect = g.indirect ++ rules_in c l.requirements } in
          let same : made ≡ t = cc in
          subst (Advances projects c (Some (Project a)) g) same (record {
            sound = attributes_sound projects c g l;
            places = map_changed g.places c.project (attributed (length g.indirect) l) visited (λ p. refl);
            targets = sym (append-nil (named g.targets));
          })
      go (Err f) e = cc

  target_advances : (m : MainTarget) → with_target features v c m g ≡ Ok t → Advances projects c (Some (Main m)) g t
  unfolding with_target one_target_more
  target_advances m e = go (lists_in features v c m.lists) e
    where
      go : (r : Result Lists DeclaringFault) → and_then (λ l. Ok (one_target_more c m l g)) r ≡ Ok t → Advances projects c (Some (Main m)) g t
      go (Ok l) e =
          let made : Gathered = one_target_more c m l g in
          let same : made ≡ t = cc in
          subst (Advances projects c (Some (Main m)) g) same (record {
            sound = target_sound projects c g l m;
            places = refl;
            targets = map-append (λ (t : Target). (t.project, t.name)) g.targets (target_with c m (numbered (length g.indirect) l.requirements) (map plain l.usage) l.defaults ∷ []);
          })
      go (Err f) e = cc

  test_advances : (m : TestDeclared) → with_test features v c m g ≡ Ok t → Advances projects c (Some (Test m)) g t
  unfolding with_test one_test_more
  test_advances m e = go (lists_in features v c m.lists) e
    where
      go : (r : Result Lists DeclaringFault) → and_then (λ l. Ok (one_test_more c m l g)) r ≡ Ok t → Advances projects c (Some (Test m)) g t
      go (Ok l) e =
          let made : Gathered = one_test_more c m l g in
          let same : made ≡ t = cc in
          subst (Advances projects c (Some (Test m)) g) same (record {
            sound = test_sound projects c g l m;
            places = refl;
            targets = sym (append-nil (named g.targets));
          })
      go (Err f) e = cc

  explicit_advances : (names : List (List ℕ)) → with_explicit c names g ≡ t → Advances projects c (Some (Explicit names)) g t
  explicit_advances names same = subst (Advances projects c (Some (Explicit names)) g) same (record {
    sound = λ within sound. changed_sound projects c.project g (λ p. record p { explicit = p.explicit ++ names }) (λ p n are. are) sound;
    places = map_changed g.places c.project (λ p. record p { explicit = p.explicit ++ names }) visited (λ p. refl);
    targets = sym (append-nil (named g.targets));
  })

  build_advances : (dir : List ℕ) → with_build v c dir g ≡ t → Advances projects c (Some (BuildProject dir)) g t
  build_advances dir same = subst (Advances projects c (Some (BuildProject dir)) g) same (record {
    sound = λ within sound. changed_sound projects c.project g (λ p. record p { builds = p.builds ++ path_from v.dir dir ∷ [] }) (λ p n are. are) sound;
    places = map_changed g.places c.project (λ p. record p { builds = p.builds ++ path_from v.dir dir ∷ [] }) visited (λ p. refl);
    targets = sym (append-nil (named g.targets));
  })

  use_advances : (id dir : List ℕ) → with_use v id dir g ≡ t → Advances projects c (Some (UseProject id dir)) g t
  use_advances id dir same = subst (Advances projects c (Some (UseProject id dir)) g) same (record {
    sound = λ within sound. sound;
    places = refl;
    targets = sym (append-nil (named g.targets));
  })

  -- each declaration
  pub declaration_advances : (o : Option Declaration) → gathered_of features v c o g ≡ Ok t → Advances projects c o g t
  declaration_advances None e = nothing_more None refl cc
  declaration_advances (Some (Project a)) e = attributes_advance a e
  declaration_advances (Some (Main m)) e = target_advances m e
  declaration_advances (Some (Explicit names)) e = explicit_advances names cc
  declaration_advances (Some (BuildProject dir)) e = build_advances dir cc
  declaration_advances (Some (UseProject id dir)) e = use_advances id dir cc
  declaration_advances (Some (Using command)) e = nothing_more (Some (Using command)) refl cc
  declaration_advances (Some (Feature name values attributes)) e = nothing_more (Some (Feature name values attributes)) refl cc
  declaration_advances (Some (Compose property parts)) e = nothing_more (Some (Compose property parts)) refl cc
  declaration_advances (Some (FileType name suffixes)) e = nothing_more (Some (FileType name suffixes)) refl cc
  declaration_advances (Some (Generator id sources targets requirements)) e = nothing_more (Some (Generator id sources targets requirements)) refl cc
  declaration_advances (Some Import) e = nothing_more (Some Import) refl cc
  declaration_advances (Some (Test m)) e = test_advances m e

-- ---- all calls

module _ (features : List DeclaredFeature) (visits : List Visit) (calls : List Call) (g : Gathered) (e : gathered_by features visits calls ≡ Ok g) where
  pub all_sound : All (λ c. c.project < length visits) calls → IsSoundSoFar (length visits) g
  all_sound fit =
      all_steps_keep (gathering features visits) (IsSoundSoFar (length visits)) (λ c. c.project < length visits)
      (λ s c t within sound here. (declaration_advances features (visit_of visits c) (length visits) c s t c.declaration here).sound within sound)
      (nothing_gathered visits) calls g fit begins e
    where
      begins : IsSoundSoFar (length visits) (nothing_gathered visits)
      begins = record {
        all_places = length-map visits bare;
        of_targets = All-nil (λ (t : Target). t.project < length visits);
        of_tests = All-nil (λ (t : TestCall). t.project < length visits);
        of_rules = All-nil (λ (r : IndirectRule). r.project < length visits);
        in_places = All-map (λ (p : Place). AreNumbered 0 p.requirements p.usage) bare visits (λ k d within. record { below = All-nil (AsksBelow 0); plain = All-nil (AsksBelow 0) });
        in_targets = All-nil (λ (t : Target). AreNumbered 0 t.requirements t.usage);
        in_tests = All-nil (λ (t : TestCall). All (AsksBelow 0) t.requirements);
      }

  pub all_visited : All (λ c. c.project < length visits) calls → map visited g.places ≡ visits
  all_visited fit =
      all_steps_keep (gathering features visits) (λ s. map visited s.places ≡ visits) (λ c. c.project < length visits)
      (λ s c t within so_far here. (declaration_advances features (visit_of visits c) (length visits) c s t c.declaration here).places ∙ so_far)
      (nothing_gathered visits) calls g fit (begins visits) e
    where
      begins : (vs : List Visit) → map visited (map bare vs) ≡ vs
      begins [] = refl
      begins (v ∷ vs) = ap (λ ws. v ∷ ws) (begins vs)

  pub all_targets : named g.targets ≡ mains calls
  all_targets =
      all_steps_add (gathering features visits) (λ s. named s.targets) (λ c. main_in c.project c.declaration)
      (λ s c t here. (declaration_advances features (visit_of visits c) (length visits) c s t c.declaration here).targets)
      (nothing_gathered visits) calls g e
