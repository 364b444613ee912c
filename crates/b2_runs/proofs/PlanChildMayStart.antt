use Rattle.std.proofs.Common.{◌≡◌, ◌⊎◌, ℕ, Bool, true, false, List, [], ◌∷◌, ◌++◌, inl, inr, refl, sym, subst, ◌∙◌, option_map}
use Rattle.std.specs.List.{Contains}
use Rattle.std.proofs.lemmas.List.Elements.{Contains-push_cases, Contains-push}
use Rattle.b2_host.specs.declared.children.ChildEvent.TheVariants.{Start, Done}
use Rattle.b2_host.specs.ChildProcesses.{Child, given_at}
use Rattle.b2_plan.specs.declared.step.Step.{Step}
use Rattle.b2_runs.specs.PlanChildren.{IsPlanChild, SettlesOne}
use Rattle.b2_runs.specs.ChildLaws.{PlanChildrenAtEntry, PlanChildMayStart, PlanChildrenAfterStart, PlanChildrenAfterEnd, PlanChildrenAsOneSettles}
use Rattle.b2_runs.proofs.FirstElementOrLater.{Contains_nil}
use Rattle.b2_runs.proofs.OthersAreLeft.{removed_among}
use Rattle.b2_runs.proofs.OpenStepsHaveChildren.{open_steps_after_end}

pub plan_children_at_entry : PlanChildrenAtEntry
plan_children_at_entry steps settled child c = absurd (Contains_nil child c)

-- no step is told settled and not
clash : (b : Bool) → b ≡ true → b ≡ false → ⊥
clash b e f = let g : true ≡ false = sym e ∙ f in cc

pub plan_child_may_start : PlanChildMayStart
plan_child_may_start steps roots events settled running i step ins apart open_steps children at not_started not_settled reads = record {
  outs_ins = λ child c path out read. clash (settled i) ((children child c).ins path i step read (record { at = at; among = out })) not_settled;
  outs_outs = λ child c path out written.
      let p = children child c in
      let same = apart.one_maker i child.step step p.step path (record { at = at; among = out }) (record { at = p.at; among = subst (λ l. Contains l path) p.outs written }) in
      not_started (subst (λ j. Contains events (Start j)) (sym same) (open_steps.each child c).0);
  ins_outs = λ child c path read written.
      let p = children child c in
      clash (settled child.step) (reads path child.step p.step read (record { at = p.at; among = subst (λ l. Contains l path) p.outs written })) p.not_settled;
}

pub plan_children_after_start : PlanChildrenAfterStart
plan_children_after_start steps settled family i step ins disk children at not_settled reads child c =
    elim (Contains-push_cases family.running (record { step = i; ins = ins; outs = step.outs; given = option_map (given_at i step.text ins step.outs) disk }) child c) [
      | inl old ↦ children child old
      | inr e ↦ subst (IsPlanChild steps settled) e (record { step = step; at = at; not_settled = not_settled; outs = λ k. step.outs; ins = reads })
    ]

-- no number is settled later that was not, and is not the one more
still_not : (settled later : ℕ → Bool) (i k : ℕ) → SettlesOne settled i later → settled k ≡ false → (k ≡ i → ⊥) → later k ≡ false
still_not settled later i k one none other = go (later k) (one.no_other k)
  where
    go : (b : Bool) → (b ≡ true → (settled k ≡ true) ⊎ (k ≡ i)) → b ≡ false
    go false from = refl
    go true from = absurd (elim (from refl) [ inl was ↦ clash (settled k) was none | inr same ↦ other same ])

-- the child stays such where its own step is not the one more
still_planned : (steps : List Step) (settled later : ℕ → Bool) (i : ℕ) (child : Child) → SettlesOne settled i later → IsPlanChild steps settled child → (child.step ≡ i → ⊥) → IsPlanChild steps later child
still_planned steps settled later i child one p other =
    record { step = p.step; at = p.at; not_settled = still_not settled later i child.step one p.not_settled other; outs = p.outs; ins = λ path k read c makes. one.stays k (p.ins path k read c makes) }

pub plan_children_after_end : PlanChildrenAfterEnd
plan_children_after_end steps events settled later made old new before after i well open_steps children ends one child c =
    still_planned steps settled later i child one (children child (removed_among old.running ends.place ends.child ends.ran child (subst (λ l. Contains l child) ends.running c)))
    (λ same. ((open_steps_after_end events made old new before after i well open_steps ends).each child c).1 well (subst (λ k. Contains (events ++ Done i well ∷ []) (Done k well)) (sym same) (Contains-push events (Done i well))))

pub plan_children_as_one_settles : PlanChildrenAsOneSettles
plan_children_as_one_settles steps events settled later running i open_steps children not_started one child c =
    still_planned steps settled later i child one (children child c) (λ same. not_started (subst (λ k. Contains events (Start k)) same (open_steps.each child c).0))
