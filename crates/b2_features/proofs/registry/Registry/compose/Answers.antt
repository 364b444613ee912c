use Rattle.std.proofs.Common.{◌≡◌, ◌∙◌, ℕ, List, sym, ap₂, subst}
use Rattle.b2_features.specs.Table.{composed}
use Rattle.b2_features.specs.Finding.{FindsParts}
use Rattle.b2_features.proofs.TablesFindWhatWasAdded.{finds_parts}
use Rattle.b2_features.proofs.registry.Registry.compose.Goals as goal

pub returns-clause-found : goal.returns-clause-found
returns-clause-found c =
    let table = c.args.self.now in
    let new = c.put_parts.new.self in
    let own_name = c.in_ok-name.name in
    let own_value = c.in_ok-value.value in
    let parts = c.args.parts.now in
    let is : new ≡ composed table own_name own_value parts =
    c.in_ok-put_parts.ensures.ok ∙ ap₂ (λ (n : List ℕ) (ps : List (List ℕ × List ℕ)). composed table n own_value ps) c.as_str.ensures.value c.in_ok-parts.ensures in
    let found = subst (λ t. FindsParts table t own_name own_value parts) (sym is) (finds_parts table own_name own_value parts c.in_ok-check_compose.ensures.ok) in
    subst (λ name. FindsParts table new name c.args.value.now parts) c.in_ok-name.ensures (subst (λ value. FindsParts table new own_name value parts) c.in_ok-value.ensures found)
