use Rattle.std.proofs.Common.{map, ap, ◌∙◌}
use Rattle.std.specs.List.{join_with_byte}
use Rattle.b2_base.specs.Segments.{texts}
use Rattle.b2_base.proofs.BothJoinsMakeOneText.{joined}
use Rattle.b2_virtual.specs.Paths.{up_shown}
use Rattle.b2_virtual.proofs.tails.with_ups_shown.Goals as goal

pub returns : goal.returns
returns c =
    c.in_ok-join.ensures.ok ∙ joined c.deref.result.now
    ∙ ap (join_with_byte 47) (ap texts c.deref.ensures.value ∙ c.in_ok-shown.ensures ∙ ap (map up_shown) (ap texts c.as_slice.ensures.value ∙ c.in_ok-cuts.ensures))
