use Rattle.std.proofs.Common.{subst, sym, ◌∙◌}
use Rattle.b2_base.specs.Bytes.{HasNoZero}
use Rattle.jam_expand.proofs.ChangeAddsNoZero.{no_zero_append}
use Rattle.jam_expand.proofs.product.joined.Goals as goal

pub from_string-requires : goal.from_string-requires
from_string-requires c =
    subst HasNoZero (sym c.in_ok-push_str.ensures.bytes)
    (no_zero_append _ _
    (subst HasNoZero (sym (c.in_ok-text.ensures.ok ∙ c.as_str.ensures.value)) c.as_str.ensures.no_zero)
    (subst HasNoZero (sym c.as_str-2.ensures.value) c.as_str-2.ensures.no_zero))
