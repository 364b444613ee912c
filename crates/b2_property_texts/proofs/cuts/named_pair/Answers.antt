use Rattle.std.proofs.Common.{◌∙◌, None, Some, sym, ap, lit<}
use Rattle.std.proofs.lemmas.Str.Pattern.{strip_prefix_char}
use Rattle.b2_property_texts.specs.Cuts.{named_pair}
use Rattle.b2_property_texts.proofs.NamesBeginWithTheirSign.{named_none, rest_clean}
use Rattle.b2_property_texts.proofs.cuts.named_pair.Goals as goal

pub returns-in-None-clause-named : goal.returns-in-None-clause-named
returns-in-None-clause-named c = sym (named_none c.args.text.now (strip_prefix_char 60 c.args.text.now None c.in-None.ensures.cases (lit< tt)))

pub pair_after-requires : goal.pair_after-requires
pair_after-requires c =
    rest_clean c.args.text.now c.in-Some.rest.now 60 (strip_prefix_char 60 c.args.text.now (Some c.in-Some.rest) c.in-Some.ensures.cases (lit< tt)) c.requires

pub returns-in-Some-clause-named : goal.returns-in-Some-clause-named
returns-in-Some-clause-named c =
    c.pair_after.ensures.named ∙ sym (ap named_pair (strip_prefix_char 60 c.args.text.now (Some c.in-Some.rest) c.in-Some.ensures.cases (lit< tt)))
