use Rattle.std.proofs.Common.{◌≡◌, ℕ, ◌<◌, List, get_or, length, sym, ◌∙◌, subst, arith}
use Rattle.b2_plan.specs.declared.step.Step.{Step}
use Rattle.std.specs.Option.{IfSome}
use Rattle.b2_virtual.specs.Clashes.{Clashes}
use Rattle.b2_virtual.specs.Spots.{AreOwnSpots}
use Rattle.b2_virtual.specs.declared.own_spots.OwnSpots.{OwnSpots}
use Rattle.std.specs.List.{Contains, AllByRecursion}
use Rattle.std.proofs.lemmas.Bool.{true≢false}
use Rattle.b2_virtual.proofs.FirstClashHasNoneBefore.{first_at, all_of, next_place}
use Rattle.b2_virtual.proofs.builder.Builder.first_clash.Goals as goal

pub returns-then-clashes-clause-clash : goal.returns-then-clashes-clause-clash
returns-then-clashes-clause-clash c =
    let step : Step = c.args.step.now in
    let k = c.loop-place.place in
    let x : List ℕ = c.index-outs-place.result in
    let same : step.outs ≡ c.as_slice-outs.result.now = sym c.as_slice-outs.ensures in
    first_at c.args.self.now step k x (subst (λ (l : List (List ℕ)). k < length l) (sym same) c.loop-place-test.true)
    (subst (λ (l : List (List ℕ)). x ≡ get_or l k x) (sym same) c.index-outs-place.is)
    (subst (λ (l : List (List ℕ)). (j : ℕ) (d : List ℕ) → j < k → Clashes c.args.self.now step (get_or l j d) → ⊥) (sym same) c.loop-place.invariant)
    (c.clashes.ensures.0 c.if-clashes.true)

pub loop-place-preserved : goal.loop-place-preserved
loop-place-preserved c =
    next_place (λ (out : List ℕ). Clashes c.args.self.now c.args.step.now out → ⊥) c.as_slice-outs.result.now c.loop-place.place c.index-outs-place.result c.loop-place-test.true c.index-outs-place.is c.loop-place.invariant
    (λ clash. true≢false (sym (c.clashes.ensures.1 clash) ∙ c.if-clashes.false))

pub returns-clause-fits : goal.returns-clause-fits
returns-clause-fits c = λ _.
    let outs : List (List ℕ) = c.as_slice-outs.result.now in
    subst (λ (l : List (List ℕ)). AllByRecursion (λ (out : List ℕ). Clashes c.args.self.now c.args.step.now out → ⊥) l) c.as_slice-outs.ensures
    (all_of (λ (out : List ℕ). Clashes c.args.self.now c.args.step.now out → ⊥) outs (λ j d l. c.loop-place.invariant j d (omega (arith, l, c.loop-place-test.false))))

pub clashes-requires-clause-among : goal.clashes-requires-clause-among
clashes-requires-clause-among c =
    subst (λ (l : List (List ℕ)). Contains l c.index-outs-place.result) c.as_slice-outs.ensures (c.loop-place.place, c.loop-place-test.true, sym c.index-outs-place.is)

pub clashes-requires-clause-own : goal.clashes-requires-clause-own
clashes-requires-clause-own c = subst (λ (l : List (List ℕ)). IfSome c.args.own.now (λ (o : OwnSpots). AreOwnSpots l o.every o.outermost)) c.requires.spots c.requires.own
