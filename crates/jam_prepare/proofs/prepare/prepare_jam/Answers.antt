use Rattle.std.proofs.Common.{◌∙◌}
use Rattle.jam_prepare.proofs.FileIsPrepared.{told_prepared, lines_prepared, apart_prepared, whole_prepared, disk_prepared, children_prepared, keeps_prepared, counts_prepared}
use Rattle.jam_prepare.proofs.prepare.prepare_jam.Goals as goal

pub go_on-result-requires : goal.go_on-result-requires
go_on-result-requires g c = c.jam_load-echoes.ensures.ready

pub returns-clause-told : goal.returns-clause-told
returns-clause-told g c =
    told_prepared c.args.file.now c.args.words.now c.jam_load-echoes.result.echoes (g.F.Files.outside c.args.files.now) (g.F.Files.outside c.jam_load-echoes.new.files) (g.F.Files.outside c.go_on-result.new.files)
    c.new-turns.result c.jam_load-echoes.new.turns c.new-turns.ensures.left c.new-turns.ensures.budget (g.met.F.Files.consistent c.args.files.now) c.jam_load-echoes.result.result c.jam_load-echoes.ensures.told
    c.go_on-result.result c.go_on-result.ensures c.jam_load-echoes.ensures.disk

pub returns-clause-lines : goal.returns-clause-lines
returns-clause-lines g c =
    lines_prepared c.args.file.now c.args.words.now c.jam_load-echoes.result.echoes (g.F.Files.outside c.args.files.now) (g.F.Files.outside c.jam_load-echoes.new.files) (g.F.Files.outside c.go_on-result.new.files)
    c.new-turns.result c.jam_load-echoes.new.turns c.new-turns.ensures.left c.new-turns.ensures.budget (g.met.F.Files.consistent c.args.files.now) c.jam_load-echoes.result.result c.jam_load-echoes.ensures.told
    c.go_on-result.result c.go_on-result.ensures

pub returns-clause-apart : goal.returns-clause-apart
returns-clause-apart g c =
    apart_prepared c.args.words.now (g.F.Files.outside c.args.files.now) (g.F.Files.outside c.jam_load-echoes.new.files) (g.F.Files.outside c.go_on-result.new.files) c.jam_load-echoes.result.result c.go_on-result.result c.go_on-result.ensures

pub returns-clause-whole : goal.returns-clause-whole
returns-clause-whole g c =
    whole_prepared c.args.words.now (g.F.Files.outside c.args.files.now) (g.F.Files.outside c.jam_load-echoes.new.files) (g.F.Files.outside c.go_on-result.new.files) c.jam_load-echoes.result.result c.go_on-result.result c.go_on-result.ensures
    c.jam_load-echoes.ensures.whole

pub returns-clause-disk : goal.returns-clause-disk
returns-clause-disk g c =
    disk_prepared c.args.words.now (g.F.Files.outside c.args.files.now) (g.F.Files.outside c.jam_load-echoes.new.files) (g.F.Files.outside c.go_on-result.new.files) c.jam_load-echoes.result.result c.go_on-result.result c.go_on-result.ensures
    ∙ c.jam_load-echoes.ensures.disk

pub returns-clause-children : goal.returns-clause-children
returns-clause-children g c =
    children_prepared c.args.words.now (g.F.Files.outside c.args.files.now) (g.F.Files.outside c.jam_load-echoes.new.files) (g.F.Files.outside c.go_on-result.new.files) c.jam_load-echoes.result.result c.go_on-result.result c.go_on-result.ensures
    ∙ c.jam_load-echoes.ensures.children

pub returns-clause-keeps : goal.returns-clause-keeps
returns-clause-keeps g c =
    keeps_prepared c.args.words.now (g.F.Files.outside c.args.files.now) (g.F.Files.outside c.jam_load-echoes.new.files) (g.F.Files.outside c.go_on-result.new.files) c.jam_load-echoes.ensures.keeps c.jam_load-echoes.result.result
    c.go_on-result.result c.go_on-result.ensures

pub returns-clause-counts : goal.returns-clause-counts
returns-clause-counts g c =
    counts_prepared c.args.words.now (g.F.Files.outside c.args.files.now) (g.F.Files.outside c.jam_load-echoes.new.files) (g.F.Files.outside c.go_on-result.new.files) c.jam_load-echoes.result.result c.go_on-result.result
    c.jam_load-echoes.ensures.counts c.go_on-result.ensures
