use Rattle.std.proofs.Common.{subst, sym, string_bytes}
use Rattle.b2_base.specs.Bytes.{HasNoZero}
use Rattle.jam_expand.proofs.ChangeAddsNoZero.{cased_no_zero}
use Rattle.jam_expand.proofs.change.changed.Goals as goal

pub from_string-requires : goal.from_string-requires
from_string-requires c = subst HasNoZero (sym c.change_case.ensures) (cased_no_zero c.args.modifiers.now (string_bytes c.in_ok-text.text) c.in_ok-text.ensures.no_zero)
