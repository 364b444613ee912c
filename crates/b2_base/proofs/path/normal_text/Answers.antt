use Rattle.std.proofs.Common.{◌≡◌, IfOk, sym, subst}
use Rattle.b2_base.specs.Bytes.{HasNoZero}
use Rattle.b2_base.proofs.NormalMakesNormalForms.{no_zero_in_normal}
use Rattle.b2_base.proofs.NormalFormsStay.{normal_of_normal}
use Rattle.b2_base.proofs.path.normal_text.Goals as goal

pub returns-then-is_normal : goal.returns-then-is_normal
returns-then-is_normal c =
    let stays = normal_of_normal c.args.text.now (c.is_normal.ensures.0 c.if-is_normal.true) in
    subst (λ t. IfOk c.new.result (λ made. made ≡ t)) (sym stays) c.new.ensures

pub from_string-requires : goal.from_string-requires
from_string-requires c = subst HasNoZero (sym c.in_ok-text.ensures) (no_zero_in_normal c.args.text.now c.requires)
