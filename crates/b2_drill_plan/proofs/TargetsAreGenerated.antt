-- What is generated for the main targets of a drill.
use Rattle.std.proofs.Common.{◌≡◌, ◌≢◌, ℕ, zero, suc, ◌<◌, ◌≤◌, ◌/◌, ◌⊎◌, inl, inr, true, false, not, cond, ◌||◌, List, [], ◌∷◌, ◌++◌, length, filter, map, codes, Option, Some, None, Ok, slice_get, refl, sym, ap, ap₂, subst, ◌∙◌, append-nil, arith}
use Rattle.std.specs.Prelude.{unwrap_or, if◌then◌else◌}
use Rattle.std.specs.List.{flat_map}
use Rattle.std.specs.Option.{option_and_then, option_map_or}
use Rattle.std.specs.Str.{bytes_eq}
use Rattle.std.proofs.lemmas.Bool.{true≢false}
use Rattle.std.proofs.lemmas.List.Folds.{list_any-append}
use Rattle.b2_alternatives.specs.Choosing.{Returned, Chosen, condition, with_defaults, full_set, conditions, requirements, answer, Chooses, settled}
use Rattle.b2_alternatives.specs.Needs as needing
use Rattle.b2_alternatives.specs.declared.need.Need.{Need}
use Rattle.b2_alternatives.specs.declared.need.Next.TheVariants.{Complete, Due}
use Rattle.b2_alternatives.specs.declared.need.NeedKind.TheVariants.{Source}
use Rattle.b2_base.specs.Segments.{here, file_name}
use Rattle.b2_making.specs.Acts.{for_each}
use Rattle.b2_making.specs.Contexts.{Site}
use Rattle.b2_making.specs.Conversions.{named_file, makes_file, makes}
use Rattle.b2_making.specs.Steps.{paths_of, job, placed_at, places, texted, asks, runs}
use Rattle.b2_declaring_calls.specs.declared.declaration.Kind.TheVariants.{Make}
use Rattle.b2_drill.specs.Drills.{source_name, target_name}
use Rattle.b2_drill_clean.specs.Steps.{output, inputs, drill_step, steps}
use Rattle.b2_drill_clean.proofs.StepsByNumber.{below, half_less, half_below, steps_count}
use Rattle.b2_drill_load.specs.Evaluated.{owner}
use Rattle.b2_drill_load.specs.Texts.{drill_job, drill_answer}
use Rattle.b2_drill_plan.proofs.NamesAreFound.{line_of, own_name, other_name, alternatives_are, no_defaults, tail_is, path_is, file_meaning, target_meaning}
use Rattle.b2_drill_plan.proofs.StepsJoinInTurn.{output_parts, stands, steps_join}
use Rattle.b2_drill_project.specs.Project.{drill_target, drill_project}
use Rattle.b2_evaluator.specs.Answers.{Answers}
use Rattle.b2_generate.specs.Answers.{Row, Generated}
use Rattle.b2_generate.specs.Generation.{site, rows, Finishes, Generates, finished, complete_now, goes_on}
use Rattle.b2_generate.specs.LoadedProjects.{LoadedProject, returned, context}
use Rattle.b2_generate.specs.OpenTargets.{Standing, next}
use Rattle.b2_generate.specs.Supplies.{is_source, is_part, is_order, parts_of, supplied, supply_list}
use Rattle.b2_generators.specs.Table.{type_with, last_suffix, type_of}
use Rattle.b2_declared.specs.declared.place.Target.{Target}
use Rattle.b2_plan.specs.Sources.{IsInRoots}
use Rattle.b2_plan.specs.declared.step.Step.{Step}
use Rattle.b2_props.specs.Refinement.{expanded, refined}
use Rattle.b2_props.specs.Sets.{Pair}
use Rattle.b2_references.specs.Names.{Name, is_same, is_among, lineage, dir_of}
use Rattle.b2_references.specs.declared.meaning.Meaning.{Meaning}
use Rattle.b2_references.specs.declared.meaning.Meaning.TheVariants.{File, Targets}
use Rattle.b2_refine.specs.Choices.{counted, is_viable, is_better, IsChoiceOf}
use Rattle.b2_refine.specs.Conditions.{IsSettled}
use Rattle.b2_refine.specs.declared.choice.Choice.TheVariants as choices
use Rattle.b2_virtual.specs.Clashes.{Fits}
use Rattle.b2_virtual.specs.Joining.{stands_in, joined}
use Rattle.b2_virtual.specs.Paths.{named_tail, output_path}
use Rattle.b2_virtual.specs.Supplies.{entries_of, file_entry, directory_of, header_directories}
use Rattle.b2_virtual.specs.declared.entry.Entry.{Entry}
use Rattle.b2_virtual.specs.declared.entry.Supply.{Supply}
use Rattle.jam_scope.specs.Texts.{first_roots}

-- ---- what a target supplies

abbrev pub drill_entry : ℕ → Entry
drill_entry i = record { path = output i; file_type = type_of [] (named_tail here (target_name i)); tail = named_tail here (target_name i); is_made = true }

abbrev pub drill_supply : ℕ → Supply
drill_supply i = record { entries = drill_entry i ∷ []; carried = [] }

abbrev source_supply : ℕ → Supply
source_supply i = record { entries = file_entry [] (source_name i) ∷ []; carried = [] }

-- what its sources supply to it
abbrev drill_parts : ℕ → List Supply
drill_parts zero = source_supply 0 ∷ []
drill_parts (suc i) = source_supply (suc i) ∷ drill_supply (suc i / 2) ∷ []

parts_read : (i : ℕ) → paths_of (entries_of (drill_parts i)) ≡ inputs i
parts_read zero = refl
parts_read (suc i) = refl

abbrev need_file : ℕ → Need
need_file i = record { way = Source; text = source_name i; meaning = File (source_name i) }

abbrev need_target : ℕ → Need
need_target i = record { way = Source; text = target_name i; meaning = Targets ((0, target_name i) ∷ []) }

abbrev drill_needs : ℕ → List Need
drill_needs zero = need_file 0 ∷ []
drill_needs (suc i) = need_file (suc i) ∷ need_target (suc i / 2) ∷ []

needs_are : (i line : ℕ) (lines : List ℕ) → i < length lines → length lines ≤ 2000 → needing.needs (drill_project lines) (drill_target i line) [] ≡ drill_needs i
needs_are zero line lines less few = ap (λ (m : Meaning). record { way = Source; text = source_name 0; meaning = m } ∷ []) (file_meaning 0 lines (omega arith))
needs_are (suc i) line lines less few =
    let half : suc i / 2 < suc i = half_less i in
    ap₂ (λ (m n : Meaning). record { way = Source; text = source_name (suc i); meaning = m } ∷ record { way = Source; text = target_name (suc i / 2); meaning = n } ∷ [])
    (file_meaning (suc i) lines (omega (arith, less, few))) (target_meaning (suc i / 2) lines (omega (arith, less, half)) few)

-- ---- the choice

others_not : (full : List Pair) (other : ℕ) → is_viable full ([] ∷ []) other ≡ true → other ≢ 0 → is_better ([] ∷ []) 0 other ≡ true
others_not full zero h ne = absurd (ne refl)
others_not full (suc k) h ne = absurd (true≢false (sym h))

sole : (full : List Pair) (list : List (List Pair)) (only : List Pair) → list ≡ only ∷ [] → IsChoiceOf full (counted list) (choices.One 1)
sole full list only is = subst (λ cs. IsChoiceOf full (counted cs) (choices.One 1)) (sym is) (0, refl, record { viable = refl; best = others_not full })

-- the choice for a target
abbrev drill_chosen : List ℕ → ℕ → Chosen
drill_chosen lines i = record { name = (0, target_name i); number = 1; target = drill_target i (line_of lines i); set = [] }

full_is : (i : ℕ) (lines : List ℕ) → i < length lines → length lines ≤ 2000 → full_set (drill_project lines) (0, target_name i) [] ≡ []
full_is i lines less few = ap (λ defaults. expanded [] (with_defaults (drill_project lines) [] defaults)) (no_defaults i lines less few)

settles : {E : Type 0} (returned : Returned E) (i : ℕ) (lines : List ℕ) → i < length lines → length lines ≤ 2000
    → IsSettled (answer (drill_project lines) returned (0, target_name i)) [] (full_set (drill_project lines) (0, target_name i) []) (requirements (drill_project lines) (drill_target i (line_of lines i))) []
unfolding lineage
settles returned i lines less few =
    subst (λ full. IsSettled (answer (drill_project lines) returned (0, target_name i)) [] full [] []) (sym (full_is i lines less few)) (0, omega arith, refl, refl)

chooses : {E : Type 0} (returned : Returned E) (i : ℕ) (lines : List ℕ) → i < length lines → length lines ≤ 2000 → Chooses (drill_project lines) returned (0, target_name i) [] (Ok (drill_chosen lines i))
chooses returned i lines less few =
    settled 0 (drill_target i (line_of lines i)) [] (record {
      choice =
          sole (full_set (drill_project lines) (0, target_name i) []) (conditions (drill_project lines) (0, target_name i)) (condition [] (drill_target i (line_of lines i)))
          (ap (map (condition [])) (alternatives_are i lines less few));
      at = ap (λ (list : List Target). slice_get list 0) (alternatives_are i lines less few);
    }) (settles returned i lines less few)

-- ---- what is made

plain_type : (found : Option (List ℕ)) → unwrap_or (option_and_then (type_with []) found) (codes "FILE") ≡ codes "FILE"
plain_type None = refl
plain_type (Some suffix) = refl

-- the target as its step is made
abbrev drill_site : List ℕ → ℕ → List Supply → Site
drill_site lines i sources = record {
  kind = Make;
  name = target_name i;
  rule = codes "join";
  line = line_of lines i;
  dir = here;
  owner = owner;
  file = codes "Jamroot";
  set = [];
  sources = sources;
  parts = drill_parts i;
  order = [];
}

-- no header is among what its sources supply
no_headers : (i k : ℕ) → header_directories (entries_of (source_supply i ∷ drill_supply k ∷ [])) ≡ []
no_headers i k =
    ap (λ b. map (λ (e : Entry). (codes "include", directory_of e.path)) (cond b (drill_entry k ∷ []) [])) (ap (bytes_eq (codes "H")) (plain_type (last_suffix (file_name (named_tail here (target_name k))))))

module _ {E : Type 0} (lines : List ℕ) (few : length lines ≤ 2000) (told : Answers E) (tells : (i line : ℕ) → i < length lines → told.step_text (drill_job i line) ≡ Ok (drill_answer i)) where
  abbrev pub drill : LoadedProject E
  drill = record { declared = drill_project lines; roots = first_roots; answers = told }

  module _ (i : ℕ) (less : i < length lines) (sources : List Supply) (before : List Step) where
    small : i < 2000
    small = omega (arith, less, few)

    abbrev s : Site
    s = drill_site lines i sources

    path_so : output_path [] (named_tail here (target_name i)) ≡ output i
    path_so = ap (output_path []) (tail_is i small) ∙ path_is i small

    inside : IsInRoots first_roots (output_path [] (named_tail here (target_name i)))
    inside =
        subst (IsInRoots first_roots) (sym path_so)
        (codes "bin", (zero, omega arith, refl), record { next = target_name i; more = []; rooted = refl; goes_on = output_parts i small; not_above = λ e. absurd (not_here e) })
      where
        not_here : codes "bin" ≡ codes "." → ⊥
        not_here e = cc

    placed : placed_at (context drill) s (named_file [] s) None before (Ok (output i, before))
    placed = (inside, sym path_so, refl)

    place_ok : places (context drill) s (named_file [] s) before (Ok (drill_entry i, before))
    place_ok = (Ok (output i, before), placed, refl)

    each_ok : for_each (places (context drill) s) (named_file [] s ∷ []) before (Ok (drill_entry i ∷ [], before))
    each_ok = (Ok (drill_entry i, before), place_ok, (Ok ([], before), refl, refl))

    module _ (joins : (stands_in before (drill_step i) ≡ true) ⊎ (Fits before (drill_step i) × (length before < 65536))) where
      texted_ok : texted (context drill) s (drill_job i s.line) (told.step_text (drill_job i s.line)) before (Ok (drill_step i, before))
      texted_ok =
          subst (λ found. texted (context drill) s (drill_job i s.line) found before (Ok (drill_step i, before))) (sym (tells i s.line less))
          (ap (λ ins. Ok (record (drill_step i) { ins = ins }, before)) (sym (added (inputs i))))
        where
          added : (xs : List (List ℕ)) → (xs ++ []) ++ [] ≡ xs
          added xs = append-nil (xs ++ []) ∙ append-nil xs

      asks_ok : asks (context drill) s (drill_job i s.line) (drill_entry i ∷ []) before (Ok (drill_entry i ∷ [], joined before (drill_step i)))
      asks_ok = (Ok (drill_step i, before), texted_ok, (refl, refl, joins))

      runs_ok : runs (context drill) s (codes "join") (entries_of (drill_parts i)) (named_file [] s ∷ []) before (Ok (drill_entry i ∷ [], joined before (drill_step i)))
      runs_ok = (
        Ok (drill_entry i ∷ [], before),
        each_ok,
        subst (λ ins. asks (context drill) s (job s (codes "join") (output i ∷ []) ins) (drill_entry i ∷ []) before (Ok (drill_entry i ∷ [], joined before (drill_step i)))) (sym (parts_read i)) asks_ok,
      )

      makes_ok : makes_file (context drill) s before (Ok (drill_supply i, joined before (drill_step i)))
      makes_ok = (
        Ok (drill_entry i ∷ [], joined before (drill_step i)),
        runs_ok,
        refl,
      )

  -- ---- one target

  -- where all that a target depends on is generated
  abbrev stands_first : Standing
  stands_first = record { set = []; usage = []; done = [] }

  abbrev stands_later : ℕ → List Row → Standing
  stands_later k found = record { set = []; usage = []; done = ((0, target_name k), record { supply = drill_supply k; usage = []; rows = found }) ∷ [] }

  -- its site, by what it needs
  abbrev site_by : ℕ → Standing → List Need → Site
  site_by i st needs = record {
    kind = Make;
    name = target_name i;
    rule = codes "join";
    line = line_of lines i;
    dir = here;
    owner = owner;
    file = codes "Jamroot";
    set = refined [] st.set (header_directories (entries_of (supplied [] st.done [] (flat_map (λ (n : Need). parts_of n.meaning) (filter (λ (n : Need). is_part n.way) needs)))));
    sources = supplied [] st.done [] (flat_map (λ (n : Need). parts_of n.meaning) (filter (λ (n : Need). is_source n.way) needs));
    parts = supplied [] st.done [] (flat_map (λ (n : Need). parts_of n.meaning) (filter (λ (n : Need). is_part n.way) needs));
    order = map (λ (e : Entry). e.path) (entries_of (supplied [] st.done [] (flat_map (λ (n : Need). parts_of n.meaning) (filter (λ (n : Need). is_order n.way) needs))));
  }

  site_first : 0 < length lines → site drill (drill_chosen lines 0) stands_first ≡ drill_site lines 0 (drill_parts 0)
  unfolding dir_of
  site_first less = ap (site_by 0 stands_first) (needs_are 0 (line_of lines 0) lines less few)

  -- by what is found under the name of the earlier target
  abbrev site_with : ℕ → List Supply → Site
  site_with i earlier = record {
    kind = Make;
    name = target_name (suc i);
    rule = codes "join";
    line = line_of lines (suc i);
    dir = here;
    owner = owner;
    file = codes "Jamroot";
    set = refined [] [] (header_directories (entries_of (source_supply (suc i) ∷ (earlier ++ []))));
    sources = source_supply (suc i) ∷ (earlier ++ []);
    parts = source_supply (suc i) ∷ (earlier ++ []);
    order = [];
  }

  site_later : (i : ℕ) (found : List Row) → suc i < length lines → site drill (drill_chosen lines (suc i)) (stands_later (suc i / 2) found) ≡ drill_site lines (suc i) (drill_parts (suc i))
  unfolding dir_of
  site_later i found less =
      ap (site_by (suc i) (stands_later (suc i / 2) found)) (needs_are (suc i) (line_of lines (suc i)) lines less few)
      ∙ ap (λ b. site_with i (supply_list (if b then Some (drill_supply (suc i / 2)) else None))) (own_name (suc i / 2))
      ∙ ap (λ dirs. record (site_with i (drill_supply (suc i / 2) ∷ [])) { set = refined [] [] dirs }) (no_headers (suc i) (suc i / 2))

  -- what is given, with these rows
  abbrev pub drill_given : ℕ → List Row → Generated
  drill_given i found = record { supply = drill_supply i; usage = []; rows = found }

  finishes_by : (i : ℕ) (st : Standing) (before : List Step) → i < length lines → st.usage ≡ [] → site drill (drill_chosen lines i) st ≡ drill_site lines i (drill_parts i)
      → (stands_in before (drill_step i) ≡ true) ⊎ (Fits before (drill_step i) × (length before < 65536))
      → Finishes drill (drill_chosen lines i) st before (Ok (drill_given i (rows drill (drill_chosen lines i) st), joined before (drill_step i)))
  unfolding lineage
  finishes_by i st before less none is joins = record {
    made = Ok (drill_supply i, joined before (drill_step i));
    makes = subst (λ (found : Site). makes (context drill) found before (Ok (drill_supply i, joined before (drill_step i)))) (sym is) (makes_ok i less (drill_parts i) before joins);
    is = refl;
  }

  -- no target up to this one is open
  abbrev pub AreClosed : ℕ → List Name → Type 0
  AreClosed i above = (k : ℕ) → k ≤ i → is_among above (0, target_name k) ≡ false

  closed_under : (i k : ℕ) (above : List Name) → k < i → i < 2000 → AreClosed i above → AreClosed k (above ++ (0, target_name i) ∷ [])
  closed_under i k above lower small closed j at_most =
      list_any-append (is_same (0, target_name j)) above ((0, target_name i) ∷ [])
      ∙ ap (λ b. b || (is_same (0, target_name j) (0, target_name i) || false)) (closed j (omega (arith, lower, at_most)))
      ∙ ap (λ b. b || false) (other_name j i (omega (arith, lower, at_most, small)) small (λ e. omega (arith, e, lower, at_most)))

  may_join : (i m : ℕ) → i ≤ m → m ≤ 2000 → i < 2000 → (stands_in (steps m) (drill_step i) ≡ true) ⊎ (Fits (steps m) (drill_step i) × (length (steps m) < 65536))
  may_join i m at_most top small = go (below i m (omega (arith, at_most)))
    where
      go : (i < m) ⊎ (i ≡ m) → (stands_in (steps m) (drill_step i) ≡ true) ⊎ (Fits (steps m) (drill_step i) × (length (steps m) < 65536))
      go (inl lower) = inl (stands i m lower top)
      go (inr same) = inr (subst (λ k. Fits (steps k) (drill_step i)) same (steps_join.fits i small), omega (arith, steps_count m, top))

  gives_first : (m : ℕ) (above : List Name) → 0 < length lines → m ≤ 2000 → AreClosed 0 above → (found : List Row) × Generates drill above (0, target_name 0) [] (steps m) (Ok (drill_given 0 found, joined (steps m) (drill_step 0)))
  gives_first m above less top closed = (
    rows drill (drill_chosen lines 0) stands_first,
    finished above (0, target_name 0) [] (steps m) (steps m) (drill_chosen lines 0) stands_first (Ok (drill_given 0 (rows drill (drill_chosen lines 0) stands_first), joined (steps m) (drill_step 0)))
        (closed 0 (omega arith)) (chooses (returned drill) 0 lines less few)
        (complete_now (above ++ (0, target_name 0) ∷ []) (drill_chosen lines 0) stands_first (steps m) (ap (needing.next_among []) (needs_are 0 (line_of lines 0) lines less few)))
        (finishes_by 0 stands_first (steps m) less refl (site_first less) (may_join 0 m (omega arith) top (omega arith))),
  )

  module _ (i m : ℕ) (above : List Name) (less : suc i < length lines) (at_most : suc i ≤ m) (top : m ≤ 2000) (closed : AreClosed (suc i) above) where
    abbrev k : ℕ
    k = suc i / 2

    abbrev inner : List Name
    inner = above ++ (0, target_name (suc i)) ∷ []

    is_due : next (drill_project lines) (drill_chosen lines (suc i)) stands_first ≡ Due (0, target_name k)
    is_due = ap (needing.next_among []) (needs_are (suc i) (line_of lines (suc i)) lines less few)

    is_complete : (found : List Row) → next (drill_project lines) (drill_chosen lines (suc i)) (stands_later k found) ≡ Complete
    is_complete found =
        ap (needing.next_among ((0, target_name k) ∷ [])) (needs_are (suc i) (line_of lines (suc i)) lines less few)
        ∙ ap (λ b. option_map_or Due (cond (not (b || false)) (Some (0, target_name k)) None) Complete) (own_name k)

    gives_later : (found : List Row) → Generates drill inner (0, target_name k) [] (steps m) (Ok (drill_given k found, joined (steps m) (drill_step k)))
        → Generates drill above (0, target_name (suc i)) [] (steps m) (Ok (drill_given (suc i) (rows drill (drill_chosen lines (suc i)) (stands_later k found)), joined (steps m) (drill_step (suc i))))
    gives_later found lower =
        let half : k < suc i = half_less i in
        let same : joined (steps m) (drill_step k) ≡ steps m = steps_join.again k m (omega (arith, half, at_most)) top in
        let below_it : Generates drill inner (0, target_name k) [] (steps m) (Ok (drill_given k found, steps m)) = subst (λ after. Generates drill inner (0, target_name k) [] (steps m) (Ok (drill_given k found, after))) same lower in
        finished above (0, target_name (suc i)) [] (steps m) (steps m) (drill_chosen lines (suc i)) (stands_later k found)
        (Ok (drill_given (suc i) (rows drill (drill_chosen lines (suc i)) (stands_later k found)), joined (steps m) (drill_step (suc i))))
        (closed (suc i) (omega arith)) (chooses (returned drill) (suc i) lines less few)
        (goes_on inner (drill_chosen lines (suc i)) stands_first (steps m) (steps m) (0, target_name k) (drill_given k found) (Ok (stands_later k found, steps m)) is_due below_it refl
        (complete_now inner (drill_chosen lines (suc i)) (stands_later k found) (steps m) (is_complete found)))
        (finishes_by (suc i) (stands_later k found) (steps m) less refl (site_later i found less) (may_join (suc i) m at_most top (omega (arith, less, few))))

  pub gives : (fuel i m : ℕ) (above : List Name) → i < fuel → i < length lines → i ≤ m → m ≤ 2000 → AreClosed i above
      → (found : List Row) × Generates drill above (0, target_name i) [] (steps m) (Ok (drill_given i found, joined (steps m) (drill_step i)))
  gives zero i m above deep less at_most top closed = absurd (omega (arith, deep))
  gives (suc fuel) zero m above deep less at_most top closed = gives_first m above less top closed
  gives (suc fuel) (suc i) m above deep less at_most top closed =
      let half : suc i / 2 < suc i = half_less i in
      let lower : (found : List Row) × Generates drill (above ++ (0, target_name (suc i)) ∷ []) (0, target_name (suc i / 2)) [] (steps m) (Ok (drill_given (suc i / 2) found, joined (steps m) (drill_step (suc i / 2)))) =
      gives fuel (suc i / 2) m (above ++ (0, target_name (suc i)) ∷ []) (half_below i fuel deep) (omega (arith, less, half)) (omega (arith, at_most, half)) top
      (closed_under (suc i) (suc i / 2) above half (omega (arith, less, few)) closed) in
      (rows drill (drill_chosen lines (suc i)) (stands_later (suc i / 2) lower.0), gives_later i m above less at_most top closed lower.0 lower.1)
