-- The calls of a drill declare its main targets.
use Rattle.std.proofs.Common.{◌≡◌, ℕ, ◌<◌, ◌≤◌, List, [], ◌∷◌, ◌++◌, length, codes, Some, Result, Ok, Err, refl, ap, ◌∙◌, arith}
use Rattle.std.specs.List.{AllByRecursion}
use Rattle.b2_base.specs.Results.{and_then}
use Rattle.b2_declaring_calls.specs.Declarations.{shape_of}
use Rattle.b2_declaring_calls.specs.Rules.{rule_of}
use Rattle.b2_declaring_calls.specs.declared.declaration.Declaration.TheVariants.{Main}
use Rattle.b2_drill_load.specs.Evaluated.{make_lists}
use Rattle.b2_drill_project.specs.Project.{main_target, drill_call, drill_calls, drill_visit, drill_place, drill_target, drill_targets, drill_project}
use Rattle.b2_drill_project.proofs.NamesAreGood.{target_is_good}
use Rattle.b2_declared.specs.DeclaringCalls.{unless}
use Rattle.b2_declared.specs.Carrying.{Tables, with_accepted, no_tables, carrying, tables_of}
use Rattle.b2_declared.specs.Declaring.{whole, declared}
use Rattle.b2_declared.specs.Gathering.{Gathered, with_texts, with_list, lists_in, numbered, rules_in, one_target_more, with_target, gathering, gathered_by}
use Rattle.b2_declared.specs.Outcomes.{all_steps}
use Rattle.b2_declared.specs.declared.fault.DeclaringFault.{DeclaringFault}
use Rattle.b2_declared.specs.declared.place.Target.{Target}
use Rattle.b2_declared.specs.declared.visit.Call.{Call}

-- ---- steps one after another

ok_same : {S : Type 0} (a b : S) → ◌≡◌ {A = Result S DeclaringFault} (Ok a) (Ok b) → a ≡ b
ok_same a b e = cc

err_not : {S : Type 0} (fault : DeclaringFault) (b : S) → ◌≡◌ {A = Result S DeclaringFault} (Err fault) (Ok b) → ⊥
err_not fault b e = cc

-- after some steps that end well come the others
steps_append : {S X : Type 0} (step : S → X → Result S DeclaringFault) (state last : S) (xs ys : List X) → all_steps step state xs ≡ Ok last → all_steps step state (xs ++ ys) ≡ all_steps step last ys
steps_append step state last [] ys h = ap (λ s. all_steps step s ys) (ok_same state last h)
steps_append {S} {X} step state last (x ∷ xs) ys h = go (step state x) h (λ next. steps_append step next last xs ys)
  where
    go : (r : Result S DeclaringFault) → and_then (λ next. all_steps step next xs) r ≡ Ok last → ((next : S) → all_steps step next xs ≡ Ok last → all_steps step next (xs ++ ys) ≡ all_steps step last ys)
        → and_then (λ next. all_steps step next (xs ++ ys)) r ≡ all_steps step last ys
    go (Ok next) e more = more next e
    go (Err fault) e more = absurd (err_not fault last e)

-- ---- all calls of a drill

each_append : {X : Type 0} (P : X → Type 0) (xs ys : List X) → AllByRecursion P xs → AllByRecursion P ys → AllByRecursion P (xs ++ ys)
each_append P [] ys a b = b
each_append P (x ∷ xs) ys a b = (a.0, each_append P xs ys a.1 b)

pub each_call : (P : Call → Type 0) (lines : List ℕ) → length lines ≤ 2000 → ((i line : ℕ) → i < 2000 → P (drill_call i line)) → AllByRecursion P (drill_calls lines)
each_call P [] small h = tt
each_call P (line ∷ lines) small h =
    each_append P (drill_calls lines) (drill_call (length lines) line ∷ []) (each_call P lines (omega (arith, small)) h) (h (length lines) line (omega (arith, small)), tt)

-- the lists of the call are those of `make`
pub declares : (i : ℕ) → shape_of (codes "make") (make_lists i) ≡ Some (Main (main_target i))
unfolding rule_of
declares i = refl

-- ---- the tables

carried : (i line : ℕ) (t : Tables) → i < 2000 → carrying (drill_visit ∷ []) t (drill_call i line) ≡ Ok t
unfolding with_accepted
carried i line t small = ap (λ refused. unless drill_visit (drill_call i line) refused (Ok t)) (target_is_good i (omega (arith, small)))

all_carried : (t : Tables) (calls : List Call) → AllByRecursion (λ c. carrying (drill_visit ∷ []) t c ≡ Ok t) calls → all_steps (carrying (drill_visit ∷ [])) t calls ≡ Ok t
all_carried t [] h = refl
all_carried t (c ∷ calls) h = ap (and_then (λ next. all_steps (carrying (drill_visit ∷ [])) next calls)) h.0 ∙ all_carried t calls h.1

tables_are : (lines : List ℕ) → length lines ≤ 2000 → tables_of (drill_visit ∷ []) (drill_calls lines) ≡ Ok (no_tables (drill_visit ∷ []))
tables_are lines small =
    all_carried (no_tables (drill_visit ∷ [])) (drill_calls lines)
    (each_call (λ c. carrying (drill_visit ∷ []) (no_tables (drill_visit ∷ [])) c ≡ Ok (no_tables (drill_visit ∷ []))) lines small (λ i line. carried i line (no_tables (drill_visit ∷ []))))

-- ---- the main targets

abbrev with_these : List Target → Gathered
with_these targets = record { places = drill_place ∷ []; targets = targets; tests = []; ids = []; indirect = [] }

one_gathered : (i line : ℕ) (targets : List Target) → gathering [] (drill_visit ∷ []) (with_these targets) (drill_call i line) ≡ Ok (with_these (targets ++ drill_target i line ∷ []))
unfolding with_target one_target_more lists_in with_list with_texts numbered rules_in
one_gathered i line targets = refl

all_gathered : (lines : List ℕ) → all_steps (gathering [] (drill_visit ∷ [])) (with_these []) (drill_calls lines) ≡ Ok (with_these (drill_targets lines))
all_gathered [] = refl
all_gathered (line ∷ lines) =
    steps_append (gathering [] (drill_visit ∷ [])) (with_these []) (with_these (drill_targets lines)) (drill_calls lines) (drill_call (length lines) line ∷ []) (all_gathered lines)
    ∙ ap (and_then (λ next. all_steps (gathering [] (drill_visit ∷ [])) next [])) (one_gathered (length lines) line (drill_targets lines))

pub drill_declares : (lines : List ℕ) → length lines ≤ 2000 → declared (drill_visit ∷ []) (drill_calls lines) ≡ Ok (drill_project lines)
drill_declares lines small =
    ap (and_then (λ t. and_then (λ g. Ok (whole t g)) (gathered_by t.features (drill_visit ∷ []) (drill_calls lines)))) (tables_are lines small)
    ∙ ap (and_then (λ g. Ok (whole (no_tables (drill_visit ∷ [])) g))) (all_gathered lines)
