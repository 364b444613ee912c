use Rattle.std.proofs.Common.{rules, ◌≡◌, length, not, eqb, ◌∙◌}
use Rattle.std.proofs.lemmas.Iterator.Consumers.{map_from_collect, YieldsList-from_filter, YieldsList-at}
use Rattle.std.proofs.lemmas.Iterator.Splits.{YieldsList-from_slice_split}
use Rattle.std.proofs.lemmas.Result.{IfOk-at_ok}
use Rattle.b2_base.specs.Segments.{texts}
use Rattle.b2_memory.specs.Results.{words_of}
use Rattle.b2_base.specs.Bytes.{is_white}
use Rattle.b2_memory.proofs.made.words.Goals as goal

pub returns : goal.returns
returns c =
    IfOk-at_ok (λ found. texts found.items ≡ words_of c.args.text.now) c.in_ok-found.was
    (map_from_collect _ c.collect.ensures.ran
    (YieldsList-from_filter _ (λ word. not (eqb (length word) 0))
    (YieldsList-at c.filter.ensures.source (YieldsList-from_slice_split _ is_white c.args.text.now (c.split.ensures.rest ∙ c.as_bytes.ensures.value) c.split.ensures.done c.split.ensures.closure (λ x b q h. search rules)))
    c.filter.ensures.closure (λ x b q h. search rules)))
