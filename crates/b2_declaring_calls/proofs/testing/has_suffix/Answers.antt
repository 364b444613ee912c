use Rattle.std.proofs.lemmas.Str.Pattern.{ends_text}
use Rattle.b2_declaring_calls.specs.Tests.{has_suffix}
use Rattle.b2_declaring_calls.proofs.testing.has_suffix.Goals as goal

pub returns : goal.returns
unfolding has_suffix
returns c = ends_text c.ends_with.result c.args.suffix.now c.args.text.now c.ends_with.ensures.cases
