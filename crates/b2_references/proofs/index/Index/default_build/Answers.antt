use Rattle.std.proofs.Common.{◌≡◌, ◌∙◌, List, map, reverse, ap, sym}
use Rattle.std.specs.Borrow.{Bor}
use Rattle.b2_declared.specs.declared.place.Place.{Place}
use Rattle.b2_declared.specs.declared.place.Target.{Target}
use Rattle.b2_references.specs.Names.{alternatives, lineage, default_build, first_list}
use Rattle.b2_references.proofs.LoopsTakeOneMore.{map-map, first_own, first_other}
use Rattle.b2_references.proofs.index.Index.default_build.Goals as goal

-- the defaults of what references point to
defaults_of : (ts : List (Bor Target)) (all : List Target) → map (λ t. t.now) ts ≡ all → first_list (map (λ t. t.now.defaults) ts) ≡ first_list (map (λ t. t.defaults) all)
defaults_of ts all e = ap first_list (sym (map-map (λ (t : Target). t.defaults) (λ (t : Bor Target). t.now) ts) ∙ ap (map (λ t. t.defaults)) e)

defaults_above : (ps : List (Bor Place)) (all : List Place) → map (λ p. p.now) ps ≡ all → first_list (map (λ p. p.now.defaults) ps) ≡ first_list (map (λ p. p.defaults) all)
defaults_above ps all e = ap first_list (sym (map-map (λ (p : Place). p.defaults) (λ (p : Bor Place). p.now) ps) ∙ ap (map (λ p. p.defaults)) e)

pub returns-then-not-is_empty : goal.returns-then-not-is_empty
unfolding default_build
returns-then-not-is_empty c =
    let d = c.args.self.now in
    let all = alternatives d (c.args.project, c.args.name.now) in
    let above = reverse (lineage d c.args.project) in
    let own : c.first_of_targets-own.result.now ≡ first_list (map (λ t. t.defaults) all) =
    c.first_of_targets-own.ensures ∙ ap (λ (ts : List (Bor Target)). first_list (map (λ t. t.now.defaults) ts)) c.as_slice.ensures.value ∙ defaults_of c.in_ok-alternatives.alternatives.items all c.in_ok-alternatives.ensures in
    first_own (map (λ t. t.defaults) all) (map (λ p. p.defaults) above) c.first_of_targets-own.result.now c.is_empty.result own c.is_empty.ensures c.if-not-is_empty.true

pub returns : goal.returns
unfolding default_build
returns c =
    let d = c.args.self.now in
    let all = alternatives d (c.args.project, c.args.name.now) in
    let above = reverse (lineage d c.args.project) in
    let own : c.first_of_targets-own.result.now ≡ first_list (map (λ t. t.defaults) all) =
    c.first_of_targets-own.ensures ∙ ap (λ (ts : List (Bor Target)). first_list (map (λ t. t.now.defaults) ts)) c.as_slice.ensures.value ∙ defaults_of c.in_ok-alternatives.alternatives.items all c.in_ok-alternatives.ensures in
    c.first_of_places.ensures ∙ ap (λ (ps : List (Bor Place)). first_list (map (λ p. p.now.defaults) ps)) c.as_slice-2.ensures.value ∙ defaults_above c.in_ok-ancestors.ancestors.items above c.in_ok-ancestors.ensures
    ∙ first_other (map (λ t. t.defaults) all) (map (λ p. p.defaults) above) c.first_of_targets-own.result.now c.is_empty.result own c.is_empty.ensures c.if-not-is_empty.false
