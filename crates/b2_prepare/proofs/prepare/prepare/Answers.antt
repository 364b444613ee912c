use Rattle.std.proofs.Common.{◌∙◌}
use Rattle.b2_prepare.proofs.AnswerIsWhatFilesMean.{ready_load, told_prepared, lines_prepared, tests_prepared}
use Rattle.b2_prepare.proofs.AnswerIsWhatFilesMean.{whole_prepared, apart_prepared, disk_prepared, children_prepared, keeps_prepared, counts_prepared}
use Rattle.b2_prepare.proofs.prepare.prepare.Goals as goal

pub returns-clause-told : goal.returns-clause-told
returns-clause-told g c =
    told_prepared c.args.words.now c.load-echoes.result.echoes (g.F.Files.outside c.args.files.now) (g.F.Files.outside c.load-echoes.new.files) (g.F.Files.outside c.go_on-result.new.files) c.new-turns.result c.load-echoes.new.turns
    c.new-turns.ensures.left c.new-turns.ensures.budget c.go_on-result.result.result c.go_on-result.result.tests.items (g.met.F.Files.consistent c.args.files.now) c.load-echoes.result.result c.load-echoes.ensures.told c.load-echoes.ensures.disk c.go_on-result.ensures

pub returns-clause-lines : goal.returns-clause-lines
returns-clause-lines g c =
    lines_prepared c.args.words.now c.load-echoes.result.echoes (g.F.Files.outside c.args.files.now) (g.F.Files.outside c.load-echoes.new.files) (g.F.Files.outside c.go_on-result.new.files) c.new-turns.result c.load-echoes.new.turns
    c.new-turns.ensures.left c.new-turns.ensures.budget c.go_on-result.result.result c.go_on-result.result.tests.items (g.met.F.Files.consistent c.args.files.now) c.load-echoes.result.result c.load-echoes.ensures.told c.go_on-result.ensures

pub returns-clause-tests : goal.returns-clause-tests
returns-clause-tests g c =
    tests_prepared c.args.words.now c.load-echoes.result.echoes (g.F.Files.outside c.args.files.now) (g.F.Files.outside c.load-echoes.new.files) (g.F.Files.outside c.go_on-result.new.files) c.new-turns.result c.load-echoes.new.turns
    c.new-turns.ensures.left c.new-turns.ensures.budget c.go_on-result.result.result c.go_on-result.result.tests.items (g.met.F.Files.consistent c.args.files.now) c.load-echoes.result.result c.load-echoes.ensures.told c.go_on-result.ensures

pub returns-clause-whole : goal.returns-clause-whole
returns-clause-whole g c =
    whole_prepared c.args.words.now (g.F.Files.outside c.load-echoes.new.files) (g.F.Files.outside c.go_on-result.new.files) c.go_on-result.result.result c.go_on-result.result.tests.items c.load-echoes.result.result c.load-echoes.ensures.whole c.go_on-result.ensures

pub returns-clause-apart : goal.returns-clause-apart
returns-clause-apart g c =
    apart_prepared c.args.words.now (g.F.Files.outside c.load-echoes.new.files) (g.F.Files.outside c.go_on-result.new.files) c.go_on-result.result.result c.go_on-result.result.tests.items c.load-echoes.result.result c.go_on-result.ensures

pub returns-clause-disk : goal.returns-clause-disk
returns-clause-disk g c =
    disk_prepared c.args.words.now (g.F.Files.outside c.load-echoes.new.files) (g.F.Files.outside c.go_on-result.new.files) c.go_on-result.result.result c.go_on-result.result.tests.items c.load-echoes.result.result c.go_on-result.ensures ∙ c.load-echoes.ensures.disk

pub returns-clause-children : goal.returns-clause-children
returns-clause-children g c =
    children_prepared c.args.words.now (g.F.Files.outside c.load-echoes.new.files) (g.F.Files.outside c.go_on-result.new.files) c.go_on-result.result.result c.go_on-result.result.tests.items c.load-echoes.result.result c.go_on-result.ensures ∙ c.load-echoes.ensures.children

pub returns-clause-keeps : goal.returns-clause-keeps
returns-clause-keeps g c =
    keeps_prepared c.args.words.now (g.F.Files.outside c.load-echoes.new.files) (g.F.Files.outside c.go_on-result.new.files) c.go_on-result.result.result c.go_on-result.result.tests.items (g.F.Files.outside c.args.files.now) c.load-echoes.ensures.keeps c.load-echoes.result.result c.go_on-result.ensures

pub returns-clause-counts : goal.returns-clause-counts
returns-clause-counts g c =
    counts_prepared c.args.words.now (g.F.Files.outside c.load-echoes.new.files) (g.F.Files.outside c.go_on-result.new.files) c.go_on-result.result.result c.go_on-result.result.tests.items (g.F.Files.outside c.args.files.now) c.load-echoes.result.result c.load-echoes.ensures.counts c.go_on-result.ensures

pub go_on-result-requires : goal.go_on-result-requires
go_on-result-requires g c = ready_load c.load-echoes.result.result c.load-echoes.ensures.sound c.load-echoes.ensures.step
