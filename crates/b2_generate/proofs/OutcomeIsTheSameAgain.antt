-- What was generated once is given again: steps stay, what was open is not opened, and an answer is the same while others are open.
use Rattle.std.proofs.Common.{◌≡◌, Bool, true, false, ◌||◌, List, [], ◌∷◌, ◌++◌, Ok, refl, sym, ap, subst, true≢false, ◌∙◌}
use Rattle.std.specs.List.{Contains}
use Rattle.std.proofs.lemmas.Bool.{or_from}
use Rattle.std.proofs.lemmas.List.{append_assoc, append-nil}
use Rattle.std.proofs.lemmas.List.Folds.{list_any-append}
use Rattle.std.proofs.lemmas.List.Elements.{Contains-append_left}
use Rattle.b2_alternatives.specs.Choosing.{Chooses, Chosen}
use Rattle.b2_generate.specs.Answers.{Generated, Row}
use Rattle.b2_generate.specs.LoadedProjects.{LoadedProject, returned}
use Rattle.b2_references.specs.Names.{Name, is_among}
use Rattle.b2_props.specs.Sets.{Pair}
use Rattle.b2_generate.specs.OpenTargets.{Standing, with_target, at_first, hands_on}
use Rattle.b2_plan.specs.declared.step.Step.{Step}
use Rattle.b2_generate.specs.Generation.{Generates, Depends, finished, complete_now, goes_on}
use Rattle.b2_generate.specs.Laws.{AreClosed, rows_of, IsLawful}
use Rattle.b2_making.specs.Laws.{StandIn}

-- ---- lists of rows

closed_front : (above : List Name) (xs ys : List Row) → AreClosed above (xs ++ ys) → AreClosed above xs
closed_front above [] ys closed = record {}
closed_front above (x ∷ xs) ys (first, closed) = (first, closed_front above xs ys closed)

closed_back : (above : List Name) (xs ys : List Row) → AreClosed above (xs ++ ys) → AreClosed above ys
closed_back above [] ys closed = closed
closed_back above (x ∷ xs) ys (first, closed) = closed_back above xs ys closed

pub closed_both : (above : List Name) (xs ys : List Row) → AreClosed above xs → AreClosed above ys → AreClosed above (xs ++ ys)
closed_both above [] ys one two = two
closed_both above (x ∷ xs) ys (first, one) two = (first, closed_both above xs ys one two)

neither : (a b : Bool) → (a || b) ≡ false → (a ≡ false) × (b ≡ false)
neither false b is = (refl, is)
neither true b is = absurd (true≢false is)

-- a name is not among some and one more
not_among : (above : List Name) (last name : Name) → is_among (above ++ last ∷ []) name ≡ false → (is_among above name ≡ false) × (is_among (last ∷ []) name ≡ false)
not_among above last name is = neither (is_among above name) (is_among (last ∷ []) name) (sym (list_any-append _ above (last ∷ [])) ∙ is)

nor_among : (others : List Name) (last name : Name) → is_among others name ≡ false → is_among (last ∷ []) name ≡ false → is_among (others ++ last ∷ []) name ≡ false
nor_among others last name one two = list_any-append _ others (last ∷ []) ∙ or_from (is_among others name) (is_among (last ∷ []) name) one two

closed_above : (above : List Name) (last : Name) (rows : List Row) → AreClosed (above ++ last ∷ []) rows → AreClosed above rows
closed_above above last [] closed = record {}
closed_above above last (row ∷ rows) (first, closed) = ((not_among above last row.name first).0, closed_above above last rows closed)

closed_under : (above others : List Name) (last : Name) (rows : List Row) → AreClosed (above ++ last ∷ []) rows → AreClosed others rows → AreClosed (others ++ last ∷ []) rows
closed_under above others last [] one two = record {}
closed_under above others last (row ∷ rows) (first, one) (second, two) =
    (nor_among others last row.name second (not_among above last row.name first).1, closed_under above others last rows one two)

rows_append : (done more : List (Name × Generated)) → rows_of (done ++ more) ≡ rows_of done ++ rows_of more
rows_append [] more = refl
rows_append (d ∷ done) more = ap (λ rows. d.1.rows ++ rows) (rows_append done more) ∙ sym (append_assoc d.1.rows (rows_of done) (rows_of more))

front_stands : (later steps more after : List Step) → after ≡ steps ++ more → StandIn later after → StandIn later steps
front_stands later steps more after is stands step has = stands step (subst (λ (all : List Step). Contains all step) (sym is) (Contains-append_left steps more step has))

module _ {E : Type 0} (l : LoadedProject E) (laws : IsLawful l) where
  -- ---- steps stay

  mutual
    pub generated_stays : (above : List Name) (name : Name) (set : List Pair) (before after : List Step) (given : Generated)
        → Generates l above name set before (Ok (given, after)) → (more : List Step) × (after ≡ before ++ more)
    generated_stays above name set before after given (finished _ _ _ _ between chosen stands _ closed chooses depends finishes) =
        let one = depended_stays (above ++ name ∷ []) chosen (at_first chosen) before between stands depends in
        let two = laws.stays chosen stands between after given finishes in
        (one.0 ++ two.0, two.1 ∙ ap (λ (steps : List Step). steps ++ two.0) one.1 ∙ append_assoc before one.0 two.0)

    pub depended_stays : (above : List Name) (c : Chosen) (s : Standing) (before after : List Step) (last : Standing)
        → Depends l above c s before (Ok (last, after)) → (more : List Step) × (after ≡ before ++ more)
    depended_stays above c s before after last (complete_now _ _ _ _ is) = ([], sym (append-nil before))
    depended_stays above c s before after last (goes_on _ _ _ _ between name given _ is made fits depends) =
        let one = generated_stays above name (hands_on l.declared s) before between given made in
        let two = depended_stays above c (with_target l.declared s name given) between after last depends in
        (one.0 ++ two.0, two.1 ∙ ap (λ (steps : List Step). steps ++ two.0) one.1 ∙ append_assoc before one.0 two.0)

  -- what was generated stays
  done_grows : (above : List Name) (c : Chosen) (s : Standing) (before after : List Step) (last : Standing)
      → Depends l above c s before (Ok (last, after)) → (more : List (Name × Generated)) × (last.done ≡ s.done ++ more)
  done_grows above c s before after last (complete_now _ _ _ _ is) = ([], sym (append-nil s.done))
  done_grows above c s before after last (goes_on _ _ _ _ between name given _ is made fits depends) =
      let two = done_grows above c (with_target l.declared s name given) between after last depends in
      ((name, given) ∷ two.0, two.1 ∙ ap (λ (done : List (Name × Generated)). done ++ two.0) (laws.done s name given) ∙ append_assoc s.done ((name, given) ∷ []) two.0)

  rows_after : (s : Standing) (name : Name) (given : Generated) → rows_of (with_target l.declared s name given).done ≡ rows_of s.done ++ given.rows
  rows_after s name given =
      ap rows_of (laws.done s name given) ∙ rows_append s.done ((name, given) ∷ []) ∙ ap (λ (rows : List Row). rows_of s.done ++ rows) (append-nil given.rows)

  own_closed : (above : List Name) (name : Name) (set : List Pair) (c : Chosen) (row : Row) → Chooses l.declared (returned l) name set (Ok c) → row.name ≡ c.name → is_among above name ≡ false → is_among above row.name ≡ false
  own_closed above name set c row chooses is closed = ap (is_among above) (is ∙ laws.named name set c chooses) ∙ closed

  -- ---- what was open is not opened

  mutual
    pub generated_closed : (above : List Name) (name : Name) (set : List Pair) (before after : List Step) (given : Generated)
        → Generates l above name set before (Ok (given, after)) → AreClosed above given.rows
    generated_closed above name set before after given (finished _ _ _ _ between chosen stands _ closed chooses depends finishes) =
        let own = laws.rows chosen stands between after given finishes in
        subst (AreClosed above) (sym own.2) (
          own_closed above name set chosen own.0 chooses own.1 closed,
          closed_above above name (rows_of stands.done) (depended_closed (above ++ name ∷ []) chosen (at_first chosen) before between stands depends (record {})),
        )

    pub depended_closed : (above : List Name) (c : Chosen) (s : Standing) (before after : List Step) (last : Standing)
        → Depends l above c s before (Ok (last, after)) → AreClosed above (rows_of s.done) → AreClosed above (rows_of last.done)
    depended_closed above c s before after last (complete_now _ _ _ _ is) closed = closed
    depended_closed above c s before after last (goes_on _ _ _ _ between name given _ is made fits depends) closed =
        depended_closed above c (with_target l.declared s name given) between after last depends
        (subst (AreClosed above) (sym (rows_after s name given))
        (closed_both above (rows_of s.done) given.rows closed (generated_closed above name (hands_on l.declared s) before between given made)))

  -- ---- the same again

  mutual
    pub generated_again : (above others : List Name) (name : Name) (set : List Pair) (before after later : List Step) (given : Generated)
        → Generates l above name set before (Ok (given, after)) → StandIn later after → AreClosed others given.rows
        → Generates l others name set later (Ok (given, later))
    generated_again above others name set before after later given (finished _ _ _ _ between chosen stands _ closed chooses depends finishes) stand free =
        let own = laws.rows chosen stands between after given finishes in
        let all = subst (AreClosed others) own.2 free in
        let stay = laws.stays chosen stands between after given finishes in
        finished others name set later later chosen stands (Ok (given, later))
        (ap (is_among others) (sym (own.1 ∙ laws.named name set chosen chooses)) ∙ all.0)
        chooses
        (depended_again (above ++ name ∷ []) (others ++ name ∷ []) chosen (at_first chosen) before between later stands depends
        (front_stands later between stay.0 after stay.1 stand)
        (closed_under above others name (rows_of stands.done)
        (depended_closed (above ++ name ∷ []) chosen (at_first chosen) before between stands depends (record {})) all.1))
        (laws.again chosen stands between after later given finishes stand)

    pub depended_again : (above others : List Name) (c : Chosen) (s : Standing) (before after later : List Step) (last : Standing)
        → Depends l above c s before (Ok (last, after)) → StandIn later after → AreClosed others (rows_of last.done)
        → Depends l others c s later (Ok (last, later))
    depended_again above others c s before after later last (complete_now _ _ _ _ is) stand free = complete_now others c s later is
    depended_again above others c s before after later last (goes_on _ _ _ _ between name given _ is made fits depends) stand free =
        let stay = depended_stays above c (with_target l.declared s name given) between after last depends in
        let more = done_grows above c (with_target l.declared s name given) between after last depends in
        let all = subst (AreClosed others) (ap rows_of more.1 ∙ rows_append (with_target l.declared s name given).done more.0 ∙ ap (λ (rows : List Row). rows ++ rows_of more.0) (rows_after s name given)) free in
        goes_on others c s later later name given (Ok (last, later)) is
        (generated_again above others name (hands_on l.declared s) before between later given made (front_stands later between stay.0 after stay.1 stand)
        (closed_back others (rows_of s.done) given.rows (closed_front others (rows_of s.done ++ given.rows) (rows_of more.0) all)))
        fits
        (depended_again above others c (with_target l.declared s name given) between after later last depends stand free)
