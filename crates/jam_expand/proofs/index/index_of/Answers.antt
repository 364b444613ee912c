use Rattle.std.proofs.Common.{◌≡◌, ◌∷◌}
use Rattle.jam_expand.proofs.IndexSelectsOneSlice.{index_cut}
use Rattle.jam_expand.proofs.index.index_of.Goals as goal

pub returns : goal.returns
returns c =
    let whole : c.args.text.now ≡ c.in_ok-after.field-0-0.now ∷ c.in_ok-after.after.now = c.in_ok-after.ensures.cases.0 in
    rw (c.span_of.ensures, c.split_at.ensures.back, c.len_up_to-len.ensures.exact, whole) (index_cut c.in_ok-after.field-0-0.now c.in_ok-after.after.now)
