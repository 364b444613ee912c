use Rattle.std.proofs.Common.{◌+◌, sym, subst}
use Rattle.jam_engine.specs.declared.links.Links.{Links}
use Rattle.jam_engine.specs.Linking.{AreLabels}
use Rattle.jam_engine.proofs.LabelsHold.{label_within, label_at, reached, all_labelled}
use Rattle.jam_engine.proofs.LinksOpen.{labels_on}
use Rattle.jam_engine.proofs.links.labels_of.Goals as goal
use Rattle.jam_engine.proofs.links.labels_of.Goals.{then-is_none+in_ok-reach, else-is_none}

pub loop-first-preserved : goal.loop-first-preserved
loop-first-preserved c =
    let acts = c.args.acts.now in
    let first = c.loop-first.first in
    let links = c.loop-first.links in
    let h = c.loop-first.invariant in
    elim c.if-is_none.branch [
      | then-is_none+in_ok-reach w ↦ subst (λ (l : Links). AreLabels acts (first + 1) l) (sym w.links-is) (reached acts first links w.reach.new.self h w.in_ok-reach.ensures)
      | else-is_none w ↦
          let label = label_at links.labels.items first c.index.result.now c.is_none.result (label_within acts first links c.loop-first-test.true h) c.index.ensures c.is_none.ensures w.if-is_none.false in
          subst (λ (l : Links). AreLabels acts (first + 1) l) (sym w.links-is) (labels_on acts first label.0 links label.1 h)
    ]

pub returns : goal.returns
returns c = all_labelled c.args.acts.now c.loop-first.first c.loop-first.links c.loop-first-test.false c.loop-first.auto.first-end c.loop-first.invariant
