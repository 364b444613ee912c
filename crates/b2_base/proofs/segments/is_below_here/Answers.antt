use Rattle.std.proofs.Common.{ap, not, codes, sym, ◌∙◌, refl}
use Rattle.std.proofs.lemmas.Bool.{true≢false}
use Rattle.b2_base.proofs.BeginningTellsWhatIsUnder.{under_here, here_above, differs, not_true}
use Rattle.b2_base.proofs.segments.is_below_here.Goals as goal
use Rattle.b2_base.proofs.segments.is_below_here.Goals.{then-ne, else-ne}

pub returns-then-not-is_rooted : goal.returns-then-not-is_rooted
returns-then-not-is_rooted c =
    elim c.if-ne.branch [
      | then-ne w ↦ (
        (λ t.
            under_here c.args.path.now c.requires (differs c.args.path.now (codes ".") c.ne.result c.ne.ensures w.if-ne.true)
            (sym w.is_rooted.ensures ∙ not_true c.if-ne.value w.is_rooted.result w.value-is c.if-not-is_rooted.true)
            (sym c.begins_above.ensures ∙ not_true (not c.begins_above.result) c.begins_above.result refl t)),
        (λ u. ap not (c.begins_above.ensures ∙ here_above c.args.path.now u)),
      )
      | else-ne w ↦ absurd (true≢false (sym c.if-not-is_rooted.true ∙ w.value-is ∙ w.if-ne.false))
    ]
