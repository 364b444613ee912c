use Rattle.std.proofs.Common.{length, ap, sym, ◌∙◌}
use Rattle.jam_expand.specs.Indexes.{place_in, selected}
use Rattle.jam_expand.proofs.IndexSelectsOneSlice.{selected_slice}
use Rattle.jam_expand.proofs.index.selected.Goals as goal

pub returns : goal.returns
returns c =
    let texts = c.args.texts.now in
    rw (c.min-from.ensures, c.saturating_sub.ensures, c.place_in-2.ensures, c.min-to.ensures, c.place_in.ensures)
    (selected_slice (place_in (length texts) c.in-Some.index.from) (place_in (length texts) c.in-Some.index.to) texts ∙ ap (λ index. selected index texts) (sym c.in-Some.is))
