use Rattle.std.proofs.Common.{None, Some, sym, ap, lit<}
use Rattle.std.proofs.lemmas.Str.Pattern.{strip_prefix_char}
use Rattle.b2_property_texts.proofs.NamesBeginWithTheirSign.{rest_clean}
use Rattle.b2_declaring_calls.specs.Targets.{rule_name}
use Rattle.b2_declaring_calls.proofs.SameRuleName.{same_name}
use Rattle.b2_declaring_calls.proofs.target.rule_name.Goals as goal

pub returns-in-None-clause-value : goal.returns-in-None-clause-value
returns-in-None-clause-value c = sym (same_name c.args.text.now (strip_prefix_char 64 c.args.text.now None c.in-None.ensures.cases (lit< tt)))

pub returns-in-Some-clause-value : goal.returns-in-Some-clause-value
returns-in-Some-clause-value c = sym (ap rule_name (strip_prefix_char 64 c.args.text.now (Some c.in-Some.rest) c.in-Some.ensures.cases (lit< tt)))

pub returns-in-Some-clause-clean : goal.returns-in-Some-clause-clean
returns-in-Some-clause-clean c =
    rest_clean c.args.text.now c.in-Some.rest.now 64 (strip_prefix_char 64 c.args.text.now (Some c.in-Some.rest) c.in-Some.ensures.cases (lit< tt)) c.requires
