use Rattle.std.proofs.Common.{sym, subst}
use Rattle.b2_base.specs.Bytes.{HasNoZero}
use Rattle.b2_making.proofs.MadeTextsHaveNoZero.{clean_copy}
use Rattle.b2_making.proofs.step.copy_text.Goals as goal

pub from_string-requires : goal.from_string-requires
from_string-requires c =
    subst HasNoZero (sym c.in_ok-format.ensures.ok) (clean_copy c.as_str-from.result.now c.as_str-to.result.now (subst HasNoZero (sym c.as_str-from.ensures.value) c.as_str-from.ensures.no_zero) (subst HasNoZero (sym c.as_str-to.ensures.value) c.as_str-to.ensures.no_zero))
