use Rattle.std.proofs.Common.{ℕ, List, [], ◌∷◌, ◌++◌, get_or, map, take, ap, ap₂, sym, ◌∙◌, arith}
use Rattle.std.proofs.lemmas.List.{take_more, map-append}
use Rattle.b2_base.specs.Normal.{IsNormal}
use Rattle.b2_virtual.specs.Spots.{spot}
use Rattle.b2_virtual.proofs.FirstClashHasNoneBefore.{all_of, next_place}
use Rattle.b2_virtual.proofs.spot.spots.Goals as goal

pub loop-path-preserved : goal.loop-path-preserved
loop-path-preserved c =
    let paths : List (List ℕ) = c.args.paths.now in
    let i : ℕ = c.loop-path.path-index in
    let x : List ℕ = c.path-item.result in
    record {
      texts = c.in_ok-push.ensures.ok ∙ ap₂ (λ (l : List (List ℕ)) (t : List ℕ). l ++ t ∷ []) c.loop-path.invariant.texts (c.in_ok-spot.ensures.text ∙ ap spot c.path-item.is)
          ∙ sym (ap (map spot) (take_more paths i x c.loop-path-test.true) ∙ map-append spot (take i paths) (get_or paths i x ∷ []));
      normal = next_place IsNormal paths i x c.loop-path-test.true c.path-item.is c.loop-path.invariant.normal c.spot.ensures.normal;
    }

pub returns-clause-normal : goal.returns-clause-normal
returns-clause-normal c = all_of IsNormal c.args.paths.now (λ j d l. c.loop-path.invariant.normal j d (omega (arith, l, c.loop-path-test.false)))
