use Rattle.std.proofs.Common.{◌≡◌, ◌∙◌, ℕ, ◌<◌, true, false, List, length, sym, refl, arith}
use Rattle.b2_explain.proofs.CausesAreTold.{given_there}
use Rattle.b2_explain.proofs.ChecksAreTold.{not_agree, agree_more}
use Rattle.b2_explain.proofs.checks.agree_up_to.Goals as goal

pub returns-then-not-is_at : goal.returns-then-not-is_at
returns-then-not-is_at c =
    let one : List ℕ × ℕ = c.index-logged-place.result in
    let low = c.loop-place-test.true in
    let most = c.requires.logged in
    let within : c.loop-place.place < length c.args.logged.now = omega (arith, low, most) in
    not_agree c.args.facts.now c.args.logged.now c.args.ns.now c.loop-place.place c.args.count one (given_there c.args.logged.now c.args.logged.now c.loop-place.place one refl within c.index-logged-place.is) low (λ is. let e : true ≡ false = sym (c.is_at.ensures.1 is) ∙ c.if-not-is_at.true in cc)

pub loop-place-preserved : goal.loop-place-preserved
loop-place-preserved c =
    let one : List ℕ × ℕ = c.index-logged-place.result in
    let low = c.loop-place-test.true in
    let most = c.requires.logged in
    let within : c.loop-place.place < length c.args.logged.now = omega (arith, low, most) in
    agree_more c.args.facts.now c.args.logged.now c.args.ns.now c.loop-place.place one (given_there c.args.logged.now c.args.logged.now c.loop-place.place one refl within c.index-logged-place.is) (c.is_at.ensures.0 c.if-not-is_at.false) c.loop-place.invariant
