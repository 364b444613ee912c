use Rattle.b2_refine.proofs.LawProofs.{settles_on_one, settled_is_stable, settled_has_no_fault, unstable_has_no_fault, meets_one_fault}
use Rattle.b2_refine.proofs.laws.one_result.Goals as goal

pub returns : goal.returns
returns g c = record {
  settled = settles_on_one;
  stable = settled_is_stable;
  settled_alone = settled_has_no_fault;
  unstable_alone = unstable_has_no_fault;
  asked = meets_one_fault;
}
