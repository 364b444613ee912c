use Rattle.std.proofs.Common.{get_or, refl, ◌∙◌}
use Rattle.std.proofs.lemmas.List.Elements.{Contains-get_or}
use Rattle.b2_reach.proofs.MembersAreAdded.{take_whole}
use Rattle.b2_looks.proofs.FilesAreNumbered.{path_more}
use Rattle.b2_looks.proofs.step_files.with_paths.Goals as goal

pub path-requires : goal.path-requires
path-requires c = c.requires (get_or c.args.members.now c.loop-number.number-index 0) (Contains-get_or c.args.members.now c.loop-number.number-index 0 c.loop-number-test.true)

pub loop-number-preserved : goal.loop-number-preserved
loop-number-preserved c =
    let members = c.args.members.now in
    let i = c.loop-number.number-index in
    let more = path_more c.args.facts.now members i c.loop-number.named.items c.push.new.self.items (record { path = c.path.result; number = get_or members i 0 }) c.loop-number-test.true refl c.path.ensures c.in_ok-push.ensures.items c.loop-number.invariant.numbers c.loop-number.invariant.paths in
    record { numbers = more.0; paths = more.1 }

pub returns-clause-numbers : goal.returns-clause-numbers
returns-clause-numbers c = c.loop-number.invariant.numbers ∙ take_whole c.args.members.now c.loop-number.number-index c.loop-number-test.false
