use Rattle.std.proofs.Common.{◌≡◌, ◌∙◌, ◌++◌, ◌∷◌, [], List, ℕ, Option, sym, ap, ap₂}
use Rattle.std.specs.Option.{option_to_list, option_copied}
use Rattle.std.proofs.lemmas.List.{append-nil}
use Rattle.b2_props.specs.Sets.{Pair}
use Rattle.b2_props.proofs.FirstFaultIsTheCause.{some_next}
use Rattle.b2_property_texts.specs.Clashes.{unconditional_pair}
use Rattle.b2_property_texts.proofs.clashes.unconditional_pairs.Goals as goal
use Rattle.b2_property_texts.proofs.clashes.unconditional_pairs.Goals.{in-Some+in_ok-copy+in_ok-copy-2+in_ok-push, in_default}

pub loop-requirement-preserved : goal.loop-requirement-preserved
loop-requirement-preserved c =
    let made = c.loop-requirement.made in
    let x = c.requirement-item.result in
    let added : c.match-unconditional_pair.made ≡ made ++ option_to_list (unconditional_pair x) =
    elim c.match-unconditional_pair.branch [
      | in-Some+in_ok-copy+in_ok-copy-2+in_ok-push w ↦
          w.made-is ∙ w.in_ok-push.ensures.ok ∙ ap₂ (λ (feature value : List ℕ). let p : Pair = (feature, value) in made ++ p ∷ []) w.in_ok-copy.ensures w.in_ok-copy-2.ensures
          ∙ ap (λ (o : Option Pair). made ++ option_to_list o) (ap option_copied (sym w.in-Some.is) ∙ c.unconditional_pair.ensures)
      | in_default w ↦ w.made-is ∙ sym (append-nil made) ∙ ap (λ (o : Option Pair). made ++ option_to_list o) (ap option_copied (sym w.in_default.is) ∙ c.unconditional_pair.ensures)
    ] in
    added ∙ ap (λ (ps : List Pair). ps ++ option_to_list (unconditional_pair x)) c.loop-requirement.invariant
    ∙ sym (some_next unconditional_pair c.args.requirements.now c.loop-requirement.requirement-index x c.loop-requirement-test.true c.requirement-item.is)
