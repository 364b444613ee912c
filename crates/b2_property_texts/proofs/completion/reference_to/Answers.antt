use Rattle.std.proofs.Common.{sym, subst}
use Rattle.std.specs.Prelude.{codes}
use Rattle.b2_base.specs.Bytes.{HasNoZero}
use Rattle.b2_property_texts.proofs.JoiningAddsNoZeroBytes.{clean_pieces, clean_slashes}
use Rattle.b2_property_texts.proofs.completion.reference_to.Goals as goal

pub from_string-requires : goal.from_string-requires
from_string-requires c = subst HasNoZero (sym c.in_ok-text.ensures.ok) (clean_pieces c.shown_dir-dir.result.now (codes "//") c.args.name.now c.shown_dir-dir.ensures.clean clean_slashes c.requires)
