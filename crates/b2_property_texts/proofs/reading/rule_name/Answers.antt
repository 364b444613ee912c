use Rattle.std.proofs.Common.{None, Some, sym, lit<}
use Rattle.std.proofs.lemmas.Str.Pattern.{strip_prefix_char}
use Rattle.b2_property_texts.proofs.NamesBeginWithTheirSign.{rule_none, rest_clean}
use Rattle.b2_property_texts.proofs.reading.rule_name.Goals as goal

pub returns-in-None-clause-rule : goal.returns-in-None-clause-rule
returns-in-None-clause-rule c = sym (rule_none c.args.value.now (strip_prefix_char 64 c.args.value.now None c.in-None.ensures.cases (lit< tt)))

pub returns-else-is_empty-clause-clean : goal.returns-else-is_empty-clause-clean
returns-else-is_empty-clause-clean c =
    rest_clean c.args.value.now c.in-Some.rule.now 64 (strip_prefix_char 64 c.args.value.now (Some c.in-Some.rule) c.in-Some.ensures.cases (lit< tt)) c.requires
