use Rattle.std.proofs.Common.{refl}
use Rattle.b2_generate.proofs.completing.node_of.Goals as goal

pub returns : goal.returns
returns c = record {
  named = c.in_ok-own.ensures.name;
  asked = c.in_ok-own.ensures.asked;
  numbered = refl;
  set = refl;
  supply = refl;
  usage = refl;
  children = c.in_ok-own.ensures.children;
  latest_is = refl;
}
