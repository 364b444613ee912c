use Rattle.std.proofs.Common.{map, reverse, refl, sym, subst}
use Rattle.std.proofs.lemmas.Result.{on_ok_weaker}
use Rattle.b2_generate.specs.Nodes.{entry_in}
use Rattle.b2_generate.specs.Supplies.{of_target, parts_of}
use Rattle.b2_generate.specs.Gathering.{Gathers}
use Rattle.b2_generate.proofs.SupplyGathersPartByPart.{gathers_none, gathers_file}
use Rattle.b2_generate.proofs.supplies.add_need.Goals as goal

pub returns-in-File : goal.returns-in-File
returns-in-File c =
    let held = c.args.gathered.now in
    on_ok_weaker c.add_file.result
    (λ made. subst (λ m. Gathers c.args.types.now.types (map (entry_in (reverse c.args.nodes.now)) c.args.frame.now.done) (parts_of m) held (record { made = c.add_file.new.made; seen = held.seen })) (sym c.in-File.is)
    (gathers_file c.args.types.now.types (map (entry_in (reverse c.args.nodes.now)) c.args.frame.now.done) c.in-File.path held (record { made = c.add_file.new.made; seen = held.seen }) refl made))
    c.add_file.ensures

pub returns-in-Targets : goal.returns-in-Targets
returns-in-Targets c =
    on_ok_weaker c.add_targets.result
    (λ added. subst (λ m. Gathers c.args.types.now.types (map (entry_in (reverse c.args.nodes.now)) c.args.frame.now.done) (parts_of m) c.args.gathered.now c.add_targets.new.gathered) (sym c.in-Targets.is)
    (subst (λ names. Gathers c.args.types.now.types (map (entry_in (reverse c.args.nodes.now)) c.args.frame.now.done) (map of_target names) c.args.gathered.now c.add_targets.new.gathered) c.as_slice.ensures added))
    c.add_targets.ensures

pub returns-in-Nothing : goal.returns-in-Nothing
returns-in-Nothing c =
    subst (λ m. Gathers c.args.types.now.types (map (entry_in (reverse c.args.nodes.now)) c.args.frame.now.done) (parts_of m) c.args.gathered.now c.args.gathered.now) (sym c.in-Nothing.is)
    (gathers_none c.args.types.now.types (map (entry_in (reverse c.args.nodes.now)) c.args.frame.now.done) c.args.gathered.now)
