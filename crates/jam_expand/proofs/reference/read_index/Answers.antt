use Rattle.std.proofs.Common.{subst, sym, ◌∷◌, []}
use Rattle.b2_base.specs.Bytes.{HasNoZero}
use Rattle.jam_expand.proofs.TextsAreCutAtSigns.{rest_no_zero, up_to_no_zero, from_on_no_zero}
use Rattle.jam_expand.proofs.NoZeroFollowsAnIndex.{closed_no_zero}
use Rattle.jam_expand.proofs.reference.read_index.Goals as goal

pub bad_index-requires : goal.bad_index-requires
bad_index-requires c = subst HasNoZero (sym c.split_before.ensures.before) (up_to_no_zero (93 ∷ []) c.in-Some.inside.now (rest_no_zero 91 c.in-Some.inside.now c.args.text.now c.in-Some.ensures.exact c.requires))

pub bad_index-requires-in-None : goal.bad_index-requires-in-None
bad_index-requires-in-None c = subst HasNoZero (sym c.split_before.ensures.before) (up_to_no_zero (93 ∷ []) c.in-Some.inside.now (rest_no_zero 91 c.in-Some.inside.now c.args.text.now c.in-Some.ensures.exact c.requires))

pub returns-in-Some-index_of-clause-no_zero : goal.returns-in-Some-index_of-clause-no_zero
returns-in-Some-index_of-clause-no_zero c =
    closed_no_zero c.split_before.result.1.now c.in-Some-after_close.after.now c.in-Some-after_close.ensures
    (subst HasNoZero (sym c.split_before.ensures.after) (from_on_no_zero (93 ∷ []) c.in-Some.inside.now (rest_no_zero 91 c.in-Some.inside.now c.args.text.now c.in-Some.ensures.exact c.requires)))
