use Rattle.std.proofs.Common.{◌≡◌, ◌<◌, Some, false, length, ap, ◌∙◌, arith}
use Rattle.std.specs.List.{slice_get}
use Rattle.std.proofs.lemmas.Option.{slice_get_within}
use Rattle.jam_scan.proofs.GatheringsGrow.{marks_stay}
use Rattle.jam_scan.proofs.closure.Closure.scanned.Goals as goal

pub index_mut-requires : goal.index_mut-requires
index_mut-requires c =
    let is_open : slice_get c.self.inside.scanned.items c.args.at ≡ Some false = ap (λ g. slice_get g.scanned c.args.at) (c.self.view_is ∙ c.in_ok-add_all.ensures.ok) ∙ marks_stay c.args.self.now c.args.found.now c.args.at false c.requires in
    let within : c.args.at < length c.self.inside.scanned.items = slice_get_within c.self.inside.scanned.items c.args.at false is_open in
    omega (arith, within, c.self.inside.scanned.ok.0)
