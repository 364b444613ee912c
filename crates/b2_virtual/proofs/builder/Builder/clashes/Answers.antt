use Rattle.std.proofs.Common.{◌⊎◌, inl, inr, List, ℕ, refl, sym, subst, ◌∙◌}
use Rattle.std.proofs.lemmas.Bool.{true≢false}
use Rattle.b2_plan.specs.declared.step.Step.{Step}
use Rattle.b2_virtual.specs.Clashes.{Clashes}
use Rattle.b2_virtual.specs.Spots.{GoesOn, ComesBefore, Numbers}
use Rattle.b2_virtual.proofs.MapHoldsExactlyTheOutputs.{flat, goes_on_clash, before_clash, clash_by, own_clash, log_clash}
use Rattle.b2_virtual.proofs.builder.Builder.clashes.Goals as goal

pub meets-requires : goal.meets-requires
meets-requires c = flat c.self.inside.steps c.self.inside.numbers c.self.invariant

pub returns-then-clashes_alone : goal.returns-then-clashes_alone
returns-then-clashes_alone c = (
  λ _. elim (c.clashes_alone.ensures.clash.0 c.if-clashes_alone.true) [
    | inl l ↦ log_clash c.args.self.now c.args.step.now c.args.out.now l
    | inr own ↦ own_clash c.args.self.now c.args.step.now c.args.out.now own
  ],
  λ _. refl,
)

pub returns : goal.returns
returns c =
    let steps : List Step = c.self.inside.steps in
    let numbers : Numbers = c.self.inside.numbers in
    let step : Step = c.args.step.now in
    let out : List ℕ = c.args.out.now in (
      λ t. subst (λ (l : List Step). Clashes l step out) c.self.view_is (elim (subst (λ k. GoesOn numbers k ⊎ ComesBefore numbers k) c.requires.place (c.meets.ensures.0 t)) [
        | inl g ↦ goes_on_clash steps numbers step out c.self.invariant c.clashes_alone.ensures.normal g
        | inr b ↦ before_clash steps numbers step out c.self.invariant c.clashes_alone.ensures.normal b
      ]),
      λ clash. elim (clash_by steps numbers step out c.self.invariant c.clashes_alone.ensures.normal (subst (λ (l : List Step). Clashes l step out) (sym c.self.view_is) clash)) [
        | inl m ↦ c.meets.ensures.1 (subst (λ k. GoesOn numbers k ⊎ ComesBefore numbers k) (sym c.requires.place) m)
        | inr alone ↦ absurd (true≢false (sym (c.clashes_alone.ensures.clash.1 (elim alone [ inl own ↦ inr own | inr l ↦ inl l ])) ∙ c.if-clashes_alone.false))
      ],
    )
