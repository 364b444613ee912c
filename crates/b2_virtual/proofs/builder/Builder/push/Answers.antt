use Rattle.std.proofs.Common.{◌≡◌, ℕ, ◌+◌, suc, List, Some, cond, length, ap, sym, ◌∙◌, subst, arith}
use Rattle.std.specs.FinMap as finite
use Rattle.std.specs.List.{list_any}
use Rattle.std.specs.Str.{bytes_eq}
use Rattle.b2_plan.specs.declared.step.Step.{Step}
use Rattle.b2_virtual.specs.Spots.{Numbers}
use Rattle.b2_virtual.specs.Ready.{IsReady}
use Rattle.b2_virtual.proofs.OtherSpotsKeepTheirNumbers.{back, others_done}
use Rattle.b2_virtual.proofs.MapHoldsExactlyTheOutputs.{FitsReady, fits_ready, none_yet, ready_joined, ready_again}
use Rattle.b2_virtual.proofs.builder.Builder.push.Goals as goal

pub insert_all-requires : goal.insert_all-requires
insert_all-requires c = λ q h.
    let fits : FitsReady c.self.inside.steps c.self.inside.numbers c.args.step =
    fits_ready c.self.inside.steps c.args.self.now c.self.inside.numbers c.args.step c.self.view_is c.self.invariant c.requires.new c.requires.fits c.requires.few c.requires.normal in
    none_yet c.self.inside.steps c.self.inside.numbers c.args.step fits q (sym (ap (list_any (bytes_eq q)) c.requires.spots) ∙ h)

pub invariant_of-self-in-Ok : goal.invariant_of-self-in-Ok
invariant_of-self-in-Ok c =
    let steps : List Step = c.self.inside.steps in
    let numbers : Numbers = c.self.inside.numbers in
    let number : ℕ = length c.as_slice.result.now + 1 in
    let fits : FitsReady steps numbers c.args.step =
    fits_ready steps c.args.self.now numbers c.args.step c.self.view_is c.self.invariant c.requires.new c.requires.fits c.requires.few c.requires.normal in
    let next : number ≡ suc (length steps) = omega (arith, ap length c.as_slice.ensures) in
    subst (λ (l : List Step). IsReady l c.insert_all.new.self) (sym c.in-Ok.ensures.ok)
    (ready_joined steps numbers c.insert_all.new.self c.args.step number fits next
    (λ q. c.in_ok-insert_all.ensures.ok q ∙ ap (λ b. cond b (Some number) (finite.get numbers q)) (ap (list_any (bytes_eq q)) c.requires.spots)))

pub invariant_of-self-in-Err : goal.invariant_of-self-in-Err
invariant_of-self-in-Err c =
    let steps : List Step = c.self.inside.steps in
    let numbers : Numbers = c.self.inside.numbers in
    let number : ℕ = length c.as_slice.result.now + 1 in
    let fits : FitsReady steps numbers c.args.step =
    fits_ready steps c.args.self.now numbers c.args.step c.self.view_is c.self.invariant c.requires.new c.requires.fits c.requires.few c.requires.normal in
    subst (λ (l : List Step). IsReady l c.remove_all.new.self) (sym c.in-Err.ensures.err)
    (ready_again steps numbers c.remove_all.new.self c.self.invariant
    (back numbers c.insert_all.new.self c.remove_all.new.self c.args.spots.now
    (λ q h. none_yet steps numbers c.args.step fits q (sym (ap (list_any (bytes_eq q)) c.requires.spots) ∙ h))
    (others_done (Some number) numbers c.insert_all.new.self c.args.spots.now c.in_ok-insert_all.ensures.ok)
    c.remove_all.ensures))
