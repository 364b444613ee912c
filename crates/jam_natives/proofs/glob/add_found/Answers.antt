use Rattle.std.proofs.Common.{◌++◌, ◌∙◌, List, ℕ, sym, ap}
use Rattle.jam_natives.specs.Searches.{picks}
use Rattle.jam_natives.proofs.SearchesFindNameByName.{found_here}
use Rattle.jam_natives.proofs.glob.add_found.Goals as goal

pub returns-clause-found : goal.returns-clause-found
returns-clause-found g c =
    found_here (g.F.Files.outside c.args.files.now).disk c.args.search.now c.args.dir.now c.args.shown.now _ c.args.found.now c.pick_all.new.found (sym c.if-is_output_dir.ensures) c.in_ok-names.ensures.answer
    (λ matching is. c.in_ok-pick_all.ensures matching is ∙ ap (λ (l : List (List ℕ)). c.args.found.now ++ picks matching c.args.search.now c.args.shown.now l) c.as_slice.ensures)
