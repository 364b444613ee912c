use Rattle.std.proofs.Common.{◌∙◌, is_some, ap, lit<}
use Rattle.std.specs.Prelude.{codes}
use Rattle.b2_property_texts.specs.Cuts.{cut_at}
use Rattle.b2_property_texts.proofs.CutIsAtFirstMark.{cut_of}
use Rattle.b2_alternatives.proofs.FirstBadTextStopsReading.{some_mapped}
use Rattle.b2_alternatives.proofs.reading.is_conditional.Goals as goal

pub returns : goal.returns
returns c =
    c.is_some.ensures ∙ some_mapped (λ parts. (parts.0.now, parts.1.now)) c.split_once.result
    ∙ ap is_some (cut_of (codes ":<") c.as_str.result.now c.split_once.result (lit< tt) c.split_once.ensures.cases) ∙ ap (λ t. is_some (cut_at (codes ":<") t)) c.as_str.ensures.value
