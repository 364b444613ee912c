use Rattle.std.proofs.Common.{◌∙◌, map, reverse, ap}
use Rattle.std.specs.Borrow.{Bor}
use Rattle.std.proofs.lemmas.List.{reverse-reverse}
use Rattle.b2_declared.specs.declared.place.Place.{Place}
use Rattle.b2_references.specs.Names.{lineage}
use Rattle.b2_references.proofs.LoopsTakeOneMore.{map-reverse}
use Rattle.b2_references.proofs.index.Index.lineage.Goals as goal

pub returns : goal.returns
returns c =
    ap (map (λ (p : Bor Place). p.now)) c.reverse.ensures.items ∙ map-reverse (λ (p : Bor Place). p.now) c.in_ok-made.made.items ∙ ap reverse c.in_ok-made.ensures ∙ reverse-reverse (lineage c.args.self.now c.args.project)
