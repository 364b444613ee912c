use Rattle.std.proofs.Common.{Some, sym, subst}
use Rattle.std.specs.Option.{option_copied, IfSome}
use Rattle.b2_base.specs.Bytes.{HasNoZero}
use Rattle.b2_making.proofs.MadeTextsHaveNoZero.{clean_library}
use Rattle.b2_making.proofs.named.library_name.Goals as goal

pub from_string-requires-in-Some : goal.from_string-requires-in-Some
from_string-requires-in-Some c =
    subst HasNoZero (sym c.in_ok-file-in-Some.ensures.ok)
    (clean_library c.as_str-name.result.now (Some c.in-Some.suffix.now) (subst HasNoZero (sym c.as_str-name.ensures.value) c.as_str-name.ensures.no_zero) (subst (λ o. IfSome (option_copied o) HasNoZero) c.in-Some.is c.requires))
