use Rattle.std.proofs.Common.{◌≡◌, ◌∙◌, ◌++◌, List, ℕ, [], length, codes, IfOk, ap, sym, subst}
use Rattle.std.proofs.lemmas.Bool.{eqb-true}
use Rattle.std.proofs.lemmas.List.{nil_from_length}
use Rattle.b2_base.specs.Segments.{normal_of}
use Rattle.b2_virtual.specs.Paths.{output_path}
use Rattle.b2_virtual.proofs.PlainPathsStayAsTheyAre.{output_of_none}
use Rattle.b2_virtual.proofs.paths.output_path.Goals as goal

pub returns-then-is_empty : goal.returns-then-is_empty
returns-then-is_empty c =
    let elements : List ℕ = c.args.elements.now in
    let tail : List ℕ = c.args.tail.now in
    let none : elements ≡ [] = nil_from_length elements (eqb-true (length elements) 0 (sym c.is_empty.ensures ∙ c.if-is_empty.true)) in
    let whole : output_path elements tail ≡ normal_of (codes "bin/" ++ c.as_str.result.now) =
    ap (λ (e : List ℕ). output_path e tail) none ∙ output_of_none tail
    ∙ ap (λ (t : List ℕ). normal_of (codes "bin/" ++ t)) (sym c.as_str.ensures.value) in
    subst (λ (t : List ℕ). IfOk c.joined_path.result (λ made. made ≡ t)) (sym whole) c.joined_path.ensures
