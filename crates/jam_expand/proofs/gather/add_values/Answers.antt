use Rattle.std.proofs.Common.{subst, sym, ◌∷◌, []}
use Rattle.b2_base.specs.Bytes.{HasNoZero}
use Rattle.jam_expand.proofs.TextsAreCutAtSigns.{from_on_no_zero}
use Rattle.jam_expand.proofs.gather.add_values.Goals as goal

pub read_reference-requires : goal.read_reference-requires
read_reference-requires g c =
    subst HasNoZero (sym c.split_before.ensures.after)
    (from_on_no_zero (91 ∷ 58 ∷ []) c.as_str.result.now (subst HasNoZero (sym c.as_str.ensures.value) c.as_str.ensures.no_zero))
