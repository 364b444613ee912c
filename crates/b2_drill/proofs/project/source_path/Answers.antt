use Rattle.std.proofs.Common.{◌≡◌, ◌∷◌, IfOk, ap, sym, subst, ◌∙◌, arith}
use Rattle.std.specs.Fmt.{decimal}
use Rattle.b2_base.specs.Bytes.{HasNoZero}
use Rattle.b2_base.specs.Segments.{normal_of}
use Rattle.b2_drill.proofs.DigitsHaveNoSlash.{name_has_no_zero, name_stays}
use Rattle.b2_drill.proofs.project.source_path.Goals as goal

pub path_of-requires : goal.path_of-requires
path_of-requires c = subst HasNoZero (sym (c.as_str.ensures.value ∙ c.in_ok-name.ensures.ok)) (name_has_no_zero c.args.i (omega arith))

pub returns : goal.returns
returns c =
    let same : c.as_str.result.now ≡ 115 ∷ decimal c.args.i = c.as_str.ensures.value ∙ c.in_ok-name.ensures.ok in
    subst (λ t. IfOk c.path_of.result (λ path. path ≡ t)) (ap normal_of same ∙ name_stays c.args.i (omega arith)) c.path_of.ensures
