-- All main targets that needs name are among the declared ones, whose number bounds the turns of generation.
use Rattle.std.proofs.Common.{◌≡◌, ℕ, Bool, true, false, ◌||◌, List, [], ◌∷◌, ◌++◌, Option, Some, None, filter, find, map, refl, sym, ap, ◌∙◌, if◌then◌else◌}
use Rattle.std.specs.Prelude.{not}
use Rattle.std.specs.List.{AllByRecursion, flat_map}
use Rattle.std.specs.Option.{option_map_or}
use Rattle.b2_declared.specs.declared.whole.Declared.{Declared}
use Rattle.b2_declared.specs.declared.place.Target.{Target}
use Rattle.b2_props.specs.Sets.{Pair}
use Rattle.b2_references.specs.Names.{Name, name_of, is_same, is_among, is_target, first_names}
use Rattle.b2_references.specs.References.{source_meaning, value_meaning, plain_value_meaning, target_or_file, id_meaning, reference_meaning, target_meaning, project_meaning, listed_targets, projects_under, project_before, place_with}
use Rattle.b2_references.specs.declared.meaning.Meaning.{Meaning}
use Rattle.b2_references.specs.declared.meaning.Meaning.TheVariants.{File, Targets, Nothing}
use Rattle.b2_alternatives.specs.Needs as needs
use Rattle.b2_alternatives.specs.Needs.{first_due, next_by, next_among}
use Rattle.b2_alternatives.specs.Choosing.{Chosen}
use Rattle.b2_alternatives.specs.declared.need.Need.{Need}
use Rattle.b2_alternatives.specs.declared.need.Next.{Next}
use Rattle.b2_alternatives.specs.declared.need.Next.TheVariants.{Due}
use Rattle.b2_generate.specs.OpenTargets.{Standing, next}
use Rattle.b2_generate.proofs.OpenTargetsAreKeptRightly.{target_named}
use Rattle.b2_generate.proofs.SameNamesAreEqual.{reflexive}

-- all of some names are among others
abbrev AreAmong : List Name → List Name → Type 0
AreAmong all names = AllByRecursion (λ name. is_among all name ≡ true) names

either : (a b : Bool) → b ≡ true → (a || b) ≡ true
either true b e = refl
either false b e = e

more_among : (first : Name) (all names : List Name) → AreAmong all names → AreAmong (first ∷ all) names
more_among first all [] h = record {}
more_among first all (name ∷ more) (one, others) = (either (is_same name first) (is_among all name) one, more_among first all more others)

own_among : (names : List Name) → AreAmong names names
own_among [] = record {}
own_among (name ∷ more) = (ap (λ (b : Bool). b || is_among more name) (reflexive name), more_among name more more (own_among more))

kept_among : (all : List Name) (test : Name → Bool) (names : List Name) → AreAmong all names → AreAmong all (filter test names)
kept_among all test [] h = record {}
kept_among all test (name ∷ more) (one, others) = cases (test name) (kept_among all test more others)
  where
    cases : (b : Bool) → AreAmong all (filter test more) → AreAmong all (if b then name ∷ filter test more else filter test more)
    cases true rest = (one, rest)
    cases false rest = rest

first_among : (all names : List Name) → AreAmong all names → AreAmong all (first_names names)
first_among all [] h = record {}
first_among all (name ∷ more) (one, others) = (one, kept_among all (λ other. not (is_same name other)) (first_names more) (first_among all more others))

both_among : (all xs ys : List Name) → AreAmong all xs → AreAmong all ys → AreAmong all (xs ++ ys)
both_among all [] ys one two = two
both_among all (x ∷ xs) ys (first, one) two = (first, both_among all xs ys one two)

some_among : (all : List Name) (test : Target → Bool) (ts : List Target) → AreAmong all (map name_of ts) → AreAmong all (map name_of (filter test ts))
some_among all test [] h = record {}
some_among all test (t ∷ ts) (one, others) = cases (test t) (some_among all test ts others)
  where
    cases : (b : Bool) → AreAmong all (map name_of (filter test ts)) → AreAmong all (map name_of (if b then t ∷ filter test ts else filter test ts))
    cases true rest = (one, rest)
    cases false rest = rest

-- the one that is found is among them
found_among : (all : List Name) (test : Name → Bool) (names : List Name) (name : Name) → AreAmong all names → find test names ≡ Some name → is_among all name ≡ true
found_among all test [] name h e = cc
found_among all test (first ∷ more) name (one, others) e = cases (test first) (found_among all test more name others) e
  where
    unsome : (a b : Name) → Some a ≡ Some b → a ≡ b
    unsome a b e = cc

    cases : (b : Bool) → (find test more ≡ Some name → is_among all name ≡ true) → (if b then Some first else find test more) ≡ Some name → is_among all name ≡ true
    cases true rest h = ap (is_among all) (sym (unsome first name h)) ∙ one
    cases false rest h = rest h

module _ (d : Declared) where
  abbrev all_names : List Name
  all_names = map name_of d.targets

  -- what a text names is declared
  abbrev IsDeclared : Meaning → Type 0
  IsDeclared (File path) = Unit {0}
  IsDeclared (Targets names) = AreAmong all_names names
  IsDeclared Nothing = Unit {0}

  listed_named : (project : ℕ) → AreAmong all_names (listed_targets d project)
  unfolding listed_targets
  listed_named project = first_among all_names _ (some_among all_names _ d.targets (own_among all_names))

  all_listed : (projects : List ℕ) → AreAmong all_names (flat_map (listed_targets d) projects)
  all_listed [] = record {}
  all_listed (project ∷ more) = both_among all_names (listed_targets d project) (flat_map (listed_targets d) more) (listed_named project) (all_listed more)

  project_named : (project : ℕ) → IsDeclared (project_meaning d project)
  unfolding project_meaning
  project_named project = all_listed (projects_under d project)

  id_by : (o : Option ℕ) → IsDeclared (option_map_or (project_meaning d) o Nothing)
  id_by None = record {}
  id_by (Some project) = project_named project

  id_named : (id : List ℕ) → IsDeclared (id_meaning d id)
  unfolding id_meaning
  id_named id = id_by (place_with d id)

  if_target : (name : Name) (other : Meaning) → IsDeclared other → (b : Bool) → is_target d name ≡ b → IsDeclared (if b then Targets (name ∷ []) else other)
  if_target name other h true e = (target_named d name e, record {})
  if_target name other h false e = h

  target_by : (name : List ℕ) (o : Option ℕ) → IsDeclared (option_map_or (λ project. target_meaning d (project, name)) o Nothing)
  target_by name None = record {}
  target_by name (Some project) = if_target (project, name) Nothing (record {}) (is_target d (project, name)) refl

  reference_named : (dir : List ℕ) (parts : List ℕ × List ℕ) → IsDeclared (reference_meaning d dir parts)
  unfolding reference_meaning
  reference_named dir parts = target_by parts.1 (project_before d dir parts.0)

  file_named : (project : ℕ) (text : List ℕ) → IsDeclared (target_or_file d project text)
  unfolding target_or_file
  file_named project text = if_target (project, text) _ (record {}) (is_target d (project, text)) refl

  cut_named : (dir : List ℕ) (o : Option (List ℕ × List ℕ)) (plain : Meaning) → IsDeclared plain → IsDeclared (option_map_or (reference_meaning d dir) o plain)
  cut_named dir None plain h = h
  cut_named dir (Some parts) plain h = reference_named dir parts

  source_named : (project : ℕ) (text : List ℕ) → IsDeclared (source_meaning d project text)
  unfolding source_meaning
  source_named project text = cut_named _ _ (target_or_file d project text) (file_named project text)

  plain_by : (b : Bool) (text : List ℕ) → IsDeclared (if b then id_meaning d text else target_or_file d 0 text)
  plain_by true text = id_named text
  plain_by false text = file_named 0 text

  plain_named : (text : List ℕ) → IsDeclared (plain_value_meaning d text)
  unfolding plain_value_meaning
  plain_named text = plain_by _ text

  value_named : (text : List ℕ) → IsDeclared (value_meaning d text)
  unfolding value_meaning
  value_named text = cut_named _ _ (plain_value_meaning d text) (plain_named text)

  -- ---- what comes next

  abbrev AreDeclared : List Need → Type 0
  AreDeclared list = AllByRecursion (λ need. IsDeclared need.meaning) list

  due_by : (done names : List Name) (o : Option Name) (after : Next) (name : Name) → first_due done names ≡ o → AreAmong all_names names → (after ≡ Due name → is_among all_names name ≡ true)
      → option_map_or Due o after ≡ Due name → is_among all_names name ≡ true
  due_by done names None after name e h rest is = rest is
  due_by done names (Some found) after name e h rest is =
      ap (is_among all_names) (sym (same_due found name is)) ∙ found_among all_names _ names found h e
    where
      same_due : (a b : Name) → Due a ≡ Due b → a ≡ b
      same_due a b e = cc

  due_meaning : (done : List Name) (text : List ℕ) (meaning : Meaning) (after : Next) (name : Name) → IsDeclared meaning → (after ≡ Due name → is_among all_names name ≡ true)
      → next_by done text meaning after ≡ Due name → is_among all_names name ≡ true
  due_meaning done text (File path) after name h rest e = rest e
  due_meaning done text (Targets names) after name h rest e = due_by done names (first_due done names) after name refl h rest e
  due_meaning done text Nothing after name h rest e = cc

  due_among : (done : List Name) (list : List Need) (name : Name) → AreDeclared list → next_among done list ≡ Due name → is_among all_names name ≡ true
  due_among done [] name h e = cc
  due_among done (need ∷ more) name (one, others) e = due_meaning done need.text need.meaning (next_among done more) name one (due_among done more name others) e

  sources_named : (project : ℕ) (texts : List (List ℕ)) → AreDeclared (map (needs.source_need d project) texts)
  sources_named project [] = record {}
  sources_named project (text ∷ more) = (source_named project text, sources_named project more)

  values_named : (pairs : List Pair) → AreDeclared (map (needs.property_need d) pairs)
  values_named [] = record {}
  values_named (p ∷ more) = (value_named p.1, values_named more)

  all_declared : (xs ys : List Need) → AreDeclared xs → AreDeclared ys → AreDeclared (xs ++ ys)
  all_declared [] ys one two = two
  all_declared (x ∷ xs) ys (first, one) two = (first, all_declared xs ys one two)

  pub due_named : (c : Chosen) (s : Standing) (name : Name) → next d c s ≡ Due name → is_among (map name_of d.targets) name ≡ true
  due_named c s name e =
      due_among (map (λ e. e.0) s.done) (needs.needs d c.target s.set) name
      (all_declared (needs.source_needs d c.target) (needs.property_needs d s.set) (sources_named c.target.project c.target.sources) (values_named _)) e
