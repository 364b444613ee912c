-- A test that is asked for stands in the table.
use Rattle.std.proofs.Common.{◌≡◌, ◌⊎◌, inl, inr, ℕ, Bool, true, false, ◌&&◌, List, [], ◌∷◌, Option, Some, None, refl, sym, ◌∙◌, ap}
use Rattle.std.specs.List.{Contains, list_any}
use Rattle.std.specs.Str.{bytes_eq}
use Rattle.std.proofs.lemmas.Bool.{false≢true}
use Rattle.std.proofs.lemmas.List.Elements.{Contains-append_cases}
use Rattle.b2_plan.specs.declared.step.Step.{Step}
use Rattle.b2_plan.specs.Plans.{maker_of}
use Rattle.b2_declared.specs.declared.whole.Declared.{Declared}
use Rattle.b2_references.specs.Names.{target_text}
use Rattle.b2_generate.specs.Answers.{Row}
use Rattle.b2_runs.proofs.FirstElementOrLater.{Contains_here, Contains_there}
use Rattle.b2_sched.proofs.DependentsWakeOneByOne.{only_one, none_in_empty}
use Rattle.b2_testing.specs.Requested.{marker_path, is_marker, test_at, test_of_row, requested, IsAskedBy}
use Rattle.b2_testing.specs.Laws.{AskedByRows}

both_true : (a b : Bool) → (a && b) ≡ true → (a ≡ true) × (b ≡ true)
both_true true b e = (refl, e)
both_true false b e = absurd (false≢true e)

asked_by : (d : Declared) (steps : List Step) (wanted : List (List ℕ)) (test : List ℕ × ℕ) (row : Row) → Contains (test_of_row d steps wanted row) test → IsAskedBy d steps wanted test row
asked_by d steps wanted test row c = go (is_marker d row && list_any (bytes_eq (marker_path d row)) wanted) refl (maker_of steps (marker_path d row)) refl c
  where
    go : (b : Bool) → (is_marker d row && list_any (bytes_eq (marker_path d row)) wanted) ≡ b → (m : Option ℕ) → maker_of steps (marker_path d row) ≡ m → Contains (test_at d row b m) test → IsAskedBy d steps wanted test row
    go true e (Some number) f c =
        let is : test ≡ (target_text d row.name, number) = only_one (target_text d row.name, number) test c in
        let both = both_true (is_marker d row) (list_any (bytes_eq (marker_path d row)) wanted) e in
        record { name_is = ap (λ (t : List ℕ × ℕ). t.0) is; marks = both.0; wants = both.1; made = f ∙ sym (ap (λ (t : List ℕ × ℕ). Some t.1) is) }
    go true e None f c = absurd (none_in_empty test c)
    go false e m f c = absurd (none_in_empty test c)

pub asked_by_rows : AskedByRows
asked_by_rows d [] steps wanted test c = absurd (none_in_empty test c)
asked_by_rows d (row ∷ rows) steps wanted test c = go (Contains-append_cases (test_of_row d steps wanted row) (requested d rows steps wanted) test c) (λ e. asked_by_rows d rows steps wanted test e)
  where
    go : Contains (test_of_row d steps wanted row) test ⊎ Contains (requested d rows steps wanted) test → (Contains (requested d rows steps wanted) test → (other : Row) × Contains rows other × IsAskedBy d steps wanted test other)
        → (other : Row) × Contains (row ∷ rows) other × IsAskedBy d steps wanted test other
    go (inl here) later = (row, Contains_here row rows, asked_by d steps wanted test row here)
    go (inr there) later = let found = later there in (found.0, Contains_there row found.0 rows found.1, found.2)
