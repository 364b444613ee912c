use Rattle.std.proofs.Common.{List, [], ◌∷◌, ◌++◌, inl, inr, refl, sym, subst, ◌∙◌, Some, filter_map, append-nil}
use Rattle.std.specs.List.{Contains, AllZip}
use Rattle.std.proofs.lemmas.List.Elements.{Contains-push_cases, Contains-push, filter_map-append}
use Rattle.b2_host.specs.declared.children.ChildEvent.{ChildEvent}
use Rattle.b2_host.specs.declared.children.ChildEvent.TheVariants.{Start, Done}
use Rattle.b2_host.specs.ChildProcesses.{Child}
use Rattle.b2_runs.specs.Staleness.{Update, paths_with_bytes}
use Rattle.b2_runs.specs.Events.{IsOpen, started}
use Rattle.b2_runs.specs.Runs.{IsGivenClosure}
use Rattle.b2_runs.specs.Soundness.{IsAtWork, AreAtWork}
use Rattle.b2_runs.specs.PlanChildren.{AreOfOpenSteps}
use Rattle.b2_runs.specs.ChildLaws.{start_gives, AtWorkAtEntry, AtWorkAfterStart, AtWorkAfterEnd, EndIsOpen, GivenAfterStart, GivenAfterEnd}
use Rattle.b2_runs.proofs.FirstElementOrLater.{Contains_nil}
use Rattle.b2_runs.proofs.RunIsInOrder.{run_is_in_order}
use Rattle.b2_runs.proofs.OthersAreLeft.{removed_among}
use Rattle.b2_runs.proofs.StartMayBegin.{start_gives_closure}
use Rattle.b2_runs.proofs.OpenStepsHaveChildren.{open_steps_at_entry, open_steps_after_start, open_steps_after_end, ends_open_step}

-- the children at work are those of the open steps
of_open : (u : Update) (events : List ChildEvent) (running : List Child) → AreAtWork u events running → AreOfOpenSteps events running
of_open u events running at_work = record { each = λ child c. (at_work.each child c).is_open; once = at_work.once; whole = at_work.whole }

pub at_work_at_entry : AtWorkAtEntry
at_work_at_entry u = record { each = λ child c. absurd (Contains_nil child c); once = open_steps_at_entry.once; whole = open_steps_at_entry.whole }

-- a child stays at work while its step is open
still_at_work : (u : Update) (events more : List ChildEvent) (child : Child) → IsAtWork u events child → IsOpen more child.step → IsAtWork u more child
still_at_work u events more child a opened = record { is_open = opened; given = a.given; told = a.told; given_closure = a.given_closure; ins = a.ins; outs = a.outs }

-- after a start one child more is at work
pub at_work_after_start : AtWorkAfterStart
at_work_after_start u events disk family i can apart run sound at_work = record {
  each = λ child c. elim (Contains-push_cases family.running new child c) [
    | inl old ↦ still_at_work u events (events ++ Start i ∷ []) child (at_work.each child old) (opened.each child c)
    | inr e ↦ subst (IsAtWork u (events ++ Start i ∷ [])) e
        (record {
          is_open = opened.each new (Contains-push family.running new);
          given = start_gives u events i can disk;
          told = refl;
          given_closure = start_gives_closure u events disk i can apart sound;
          ins = refl;
          outs = refl;
        })
  ];
  once = opened.once;
  whole = opened.whole;
}
  where
    new : Child
    new = record { step = i; ins = paths_with_bytes can.members; outs = can.step.outs; given = Some (start_gives u events i can disk) }

    opened : AreOfOpenSteps (events ++ Start i ∷ []) (family.running ++ new ∷ [])
    opened = open_steps_after_start u.build.steps u.jobs events family i can.step.text (paths_with_bytes can.members) can.step.outs (Some disk) (run_is_in_order u events run) can.not_started (of_open u events family.running at_work)

-- what ends is open
pub end_is_open : EndIsOpen
end_is_open u events old new before after i well at_work ends = ends_open_step events u.build.made old new (Some before) (Some after) i well (of_open u events old.running at_work) ends

-- after an end one child less is at work
pub at_work_after_end : AtWorkAfterEnd
at_work_after_end u events old new before after i well at_work ends =
    let opened = open_steps_after_end events u.build.made old new (Some before) (Some after) i well (of_open u events old.running at_work) ends in
    record {
      each = λ child c.
          still_at_work u events (events ++ Done i well ∷ []) child
          (at_work.each child (removed_among old.running ends.place ends.child ends.ran child (subst (λ l. Contains l child) ends.running c))) (opened.each child c);
      once = opened.once;
      whole = opened.whole;
    }

zip_push : {A B : Type 0} (R : A → B → Type 0) (xs : List A) (ys : List B) (x : A) (y : B) → AllZip R xs ys → R x y → AllZip R (xs ++ x ∷ []) (ys ++ y ∷ [])
zip_push R [] [] x y z r = (r, tt)
zip_push R [] (b ∷ ys) x y z r = absurd z
zip_push R (a ∷ xs) [] x y z r = absurd z
zip_push R (a ∷ xs) (b ∷ ys) x y (h, t) r = (h, zip_push R xs ys x y t r)

pub given_after_start : GivenAfterStart
given_after_start u events given i new given_closure is = subst (λ l. AllZip (IsGivenClosure u) l (given ++ new ∷ [])) (sym (filter_map-append started events (Start i ∷ []))) (zip_push (IsGivenClosure u) (filter_map started events) given i new given_closure is)

pub given_after_end : GivenAfterEnd
given_after_end u events given i well given_closure = subst (λ l. AllZip (IsGivenClosure u) l given) (sym (filter_map-append started events (Done i well ∷ []) ∙ append-nil (filter_map started events))) given_closure
