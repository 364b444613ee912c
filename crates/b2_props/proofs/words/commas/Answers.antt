use Rattle.std.proofs.Common.{lit<, ◌≡◌, ◌∙◌, All, ap, subst, sym}
use Rattle.std.proofs.lemmas.Iterator.Consumers.{map_from_collect}
use Rattle.std.proofs.lemmas.Iterator.Splits.{YieldsList-from_str_split}
use Rattle.std.proofs.lemmas.Result.{IfOk-at_ok}
use Rattle.b2_base.specs.Bytes.{HasNoZero}
use Rattle.b2_base.specs.Segments.{texts}
use Rattle.b2_props.specs.Words.{cut}
use Rattle.b2_props.proofs.FirstFaultIsTheCause.{parts_no_zero}
use Rattle.b2_props.proofs.words.commas.Goals as goal

pub owned_texts-requires : goal.owned_texts-requires
owned_texts-requires c =
    let parts =
    ap texts c.as_slice.ensures.value
    ∙ IfOk-at_ok (λ cuts. texts cuts.items ≡ cut 44 c.args.text.now) c.in_ok-cuts.was
    (map_from_collect _ c.collect.ensures.ran (YieldsList-from_str_split 44 c.args.text.now (lit< tt) c.split.ensures.text c.split.ensures.has_more c.split.ensures.pattern)) in
    subst (All HasNoZero) (sym parts) (parts_no_zero 44 c.args.text.now c.requires)

pub returns : goal.returns
returns c =
    let parts =
    ap texts c.as_slice.ensures.value
    ∙ IfOk-at_ok (λ cuts. texts cuts.items ≡ cut 44 c.args.text.now) c.in_ok-cuts.was
    (map_from_collect _ c.collect.ensures.ran (YieldsList-from_str_split 44 c.args.text.now (lit< tt) c.split.ensures.text c.split.ensures.has_more c.split.ensures.pattern)) in
    c.into_vec.ensures ∙ c.in_ok-made.ensures ∙ parts
