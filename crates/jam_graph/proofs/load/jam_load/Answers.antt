use Rattle.jam_graph.proofs.load.jam_load.Goals as goal

pub returns-clause-told : goal.returns-clause-told
returns-clause-told g c = c.load_file.ensures.told

pub returns-clause-ready : goal.returns-clause-ready
returns-clause-ready g c = c.load_file.ensures.ready

pub returns-clause-whole : goal.returns-clause-whole
returns-clause-whole g c = c.load_file.ensures.whole

pub returns-clause-turns : goal.returns-clause-turns
returns-clause-turns g c = c.load_file.ensures.leaves.turns_fall

pub returns-clause-budget : goal.returns-clause-budget
returns-clause-budget g c = c.load_file.ensures.leaves.budget

pub returns-clause-disk : goal.returns-clause-disk
returns-clause-disk g c = c.load_file.ensures.leaves.disk

pub returns-clause-children : goal.returns-clause-children
returns-clause-children g c = c.load_file.ensures.leaves.children

pub returns-clause-keeps : goal.returns-clause-keeps
returns-clause-keeps g c = c.load_file.ensures.leaves.keeps

pub returns-clause-counts : goal.returns-clause-counts
returns-clause-counts g c = c.load_file.ensures.counts
