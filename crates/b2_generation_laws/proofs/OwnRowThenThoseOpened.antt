-- The rows of an answer: its own, then those of what was opened for it.
use Rattle.std.proofs.Common.{◌≡◌, List, [], ◌∷◌, ◌++◌, Ok, refl, sym, ap, subst, ◌∙◌, append_assoc}
use Rattle.std.proofs.lemmas.List.{append-nil}
use Rattle.std.specs.List.{AllByRecursion}
use Rattle.b2_plan.specs.declared.step.Step.{Step}
use Rattle.b2_props.specs.Sets.{Pair}
use Rattle.b2_references.specs.Names.{Name}
use Rattle.b2_alternatives.specs.Choosing.{Chosen}
use Rattle.b2_alternatives.proofs.TargetAndSetDecideChoice.{names_itself}
use Rattle.b2_generate.specs.Answers.{Row, Generated}
use Rattle.b2_generate.specs.Generation.{Generates, Depends, finished, complete_now, goes_on}
use Rattle.b2_generate.specs.Laws.{OwnRowIsFirst, RowsAreOpenings, IsOpened, rows_of}
use Rattle.b2_generate.specs.LoadedProjects.{LoadedProject, returned}
use Rattle.b2_generate.specs.OpenTargets.{Standing, with_target, at_first, hands_on}
use Rattle.b2_generate.specs.Supplies.{final_set}
use Rattle.b2_generation_laws.proofs.TargetsComeFromTheirNeeds.{IsMadeOf, made_of, finished_of}

all_append : {X : Type 0} (P : X → Type 0) (xs ys : List X) → AllByRecursion P xs → AllByRecursion P ys → AllByRecursion P (xs ++ ys)
all_append P [] ys one two = two
all_append P (x ∷ xs) ys one two = (one.0, all_append P xs ys one.1 two)

rows_append : (done more : List (Name × Generated)) → rows_of (done ++ more) ≡ rows_of done ++ rows_of more
rows_append [] more = refl
rows_append (d ∷ done) more = ap (λ rows. d.1.rows ++ rows) (rows_append done more) ∙ sym (append_assoc d.1.rows (rows_of done) (rows_of more))

module _ {E : Type 0} (l : LoadedProject E) where
  abbrev own_row : Chosen → Standing → Row
  own_row c s = record { name = c.name; alternative = c.number; set = final_set l.declared c s }

  own_first : (c : Chosen) (s : Standing) (before after : List Step) (given : Generated) → IsMadeOf l c s before given after → given.rows ≡ own_row c s ∷ rows_of s.done
  own_first c s before after given made = ap (λ (g : Generated). g.rows) made.given_is

  -- with those of one more that was generated
  rows_more : (s : Standing) (name : Name) (given : Generated) → rows_of (with_target l.declared s name given).done ≡ rows_of s.done ++ given.rows
  rows_more s name given = rows_append s.done ((name, given) ∷ []) ∙ ap (λ (rows : List Row). rows_of s.done ++ rows) (append-nil given.rows)

  -- a row by the name that was asked for
  opened : (above : List Name) (name : Name) (set : List Pair) (before after : List Step) (given : Generated) (row : Row) (more : List Row)
      → Generates l above name set before (Ok (given, after)) → row.name ≡ name → given.rows ≡ row ∷ more → IsOpened l row
  opened above name set before after given row more generates named own = record {
    above = above;
    asked = set;
    before = before;
    after = after;
    given = given;
    more = more;
    generates = subst (λ (n : Name). Generates l above n set before (Ok (given, after))) (sym named) generates;
    own = own;
  }

  mutual
    generated_opens : (above : List Name) (name : Name) (set : List Pair) (before after : List Step) (given : Generated)
        → Generates l above name set before (Ok (given, after)) → AllByRecursion (IsOpened l) given.rows
    generated_opens above name set before after given (finished _ _ _ _ between c s _ closed chooses depends finishes) =
        let own = own_first c s between after given (made_of l c s between after given finishes) in
        subst (AllByRecursion (IsOpened l)) (sym own) (
          opened above name set before after given (own_row c s) (rows_of s.done) (finished above name set before between c s (Ok (given, after)) closed chooses depends finishes)
              (names_itself l.declared (returned l) name set c chooses) own,
          depended_opens (above ++ name ∷ []) c (at_first c) before between s depends tt,
        )

    depended_opens : (above : List Name) (c : Chosen) (s : Standing) (before after : List Step) (last : Standing)
        → Depends l above c s before (Ok (last, after)) → AllByRecursion (IsOpened l) (rows_of s.done) → AllByRecursion (IsOpened l) (rows_of last.done)
    depended_opens above c s before after last (complete_now _ _ _ _ is) all = all
    depended_opens above c s before after last (goes_on _ _ _ _ between name given _ is made fits depends) all =
        depended_opens above c (with_target l.declared s name given) between after last depends
        (subst (AllByRecursion (IsOpened l)) (sym (rows_more s name given))
        (all_append (IsOpened l) (rows_of s.done) given.rows all (generated_opens above name (hands_on l.declared s) before between given made)))

pub own_row_is_first : {E : Type 0} → OwnRowIsFirst E
own_row_is_first l above name set before after given generates =
    let f = finished_of l above name set before after given generates in
    (own_row l f.chosen f.stands, rows_of f.stands.done, own_first l f.chosen f.stands f.between after given f.made, names_itself l.declared (returned l) name set f.chosen f.chooses)

pub rows_are_openings : {E : Type 0} → RowsAreOpenings E
rows_are_openings l above name set before after given generates = generated_opens l above name set before after given generates
