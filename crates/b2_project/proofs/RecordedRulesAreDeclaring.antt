-- The rules whose calls are recorded are those that declare something.
use Rattle.std.proofs.Common.{◌≡◌, Bool, true, false, ◌||◌, [], ◌∷◌, codes, Option, Some, is_some, refl, sym, ap, ◌∙◌}
use Rattle.std.specs.Prelude.{if◌then◌else◌, map as each}
use Rattle.std.specs.List.{list_any}
use Rattle.std.specs.Str.{bytes_eq}
use Rattle.b2_declaring_calls.specs.Rules.{rules, rule_in, rule_of}
use Rattle.jam_journal.specs.Tables.{Text}
use Rattle.jam_natives.specs.Rules.{is_declaring}

some_choice : {R : Type 0} (b : Bool) (rule : R) (more : Option R) → is_some (if b then Some rule else more) ≡ (b || is_some more)
some_choice true rule more = refl
some_choice false rule more = refl

-- a rule is found where its name is among those of the rows
found_among : (name : Text) (rows : _) → is_some (rule_in rows name) ≡ list_any (bytes_eq name) (each (λ row. row.0) rows)
found_among name [] = refl
found_among name (row ∷ rows) = some_choice (bytes_eq name row.0) row.1 (rule_in rows name) ∙ ap (λ b. bytes_eq name row.0 || b) (found_among name rows)

swapped : (a b rest : Bool) → (a || (b || rest)) ≡ (b || (a || rest))
swapped true true rest = refl
swapped true false rest = refl
swapped false true rest = refl
swapped false false rest = refl

-- the rows of both tables have the same names, but for the order of two
pub recorded_declare : (name : Text) → is_declaring name ≡ is_some (rule_of name)
unfolding is_declaring rule_of
recorded_declare name =
    let is = bytes_eq name in
    let rest =
    list_any is (
    codes "explicit" ∷ codes "build-project" ∷ codes "use-project" ∷ codes "using" ∷ codes "feature.feature" ∷ codes "feature.compose" ∷ codes "type.register"
    ∷ codes "generators.register-standard" ∷ codes "import" ∷ codes "compile" ∷ codes "compile-fail" ∷ codes "run" ∷ codes "run-fail" ∷ []
    ) in
    ap (λ tail. is (codes "project") || (is (codes "exe") || (is (codes "lib") || (is (codes "obj") || (is (codes "alias") || tail))))) (swapped (is (codes "install")) (is (codes "make")) rest)
    ∙ sym (found_among name rules)
