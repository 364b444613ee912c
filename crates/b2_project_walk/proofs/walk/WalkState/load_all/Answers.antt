use Rattle.b2_project_walk.proofs.NothingIsLeftOpen.{new_passed, new_visited, new_told, new_projects, new_step, new_frames, new_marked}
use Rattle.b2_project_walk.proofs.walk.WalkState.load_all.Goals as goal

pub load_from_root-requires-clause-passed : goal.load_from_root-requires-clause-passed
load_from_root-requires-clause-passed g c = new_passed c.args.self.now c.requires

pub load_from_root-requires-clause-visited : goal.load_from_root-requires-clause-visited
load_from_root-requires-clause-visited g c = new_visited c.args.self.now c.requires

pub returns-clause-told : goal.returns-clause-told
returns-clause-told g c =
    new_told c.args.words.now c.args.self.now c.load_from_root.new.self c.args.turns.now c.load_from_root.new.turns (g.F.Files.outside c.args.files.now) (g.F.Files.outside c.load_from_root.new.files)
    c.load_from_root.result c.requires c.load_from_root.ensures.does

pub returns-clause-projects : goal.returns-clause-projects
returns-clause-projects g c =
    new_projects c.args.words.now c.load_from_root.new.self.visits c.load_from_root.new.self.calls.items c.load_from_root.result c.load_from_root.ensures.visited

pub returns-clause-step : goal.returns-clause-step
returns-clause-step g c = new_step c.args.self.now c.load_from_root.new.self c.args.turns.now.left c.load_from_root.new.turns.left c.requires c.load_from_root.ensures.does.frames

pub returns-clause-frames : goal.returns-clause-frames
returns-clause-frames g c = new_frames c.args.self.now c.load_from_root.new.self c.args.turns.now.left c.load_from_root.new.turns.left c.requires c.load_from_root.ensures.does.frames

pub returns-clause-marked : goal.returns-clause-marked
returns-clause-marked g c = new_marked c.args.self.now c.load_from_root.new.self c.args.turns.now.left c.load_from_root.new.turns.left c.requires c.load_from_root.ensures.does.frames
