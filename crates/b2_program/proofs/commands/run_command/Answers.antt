use Rattle.std.proofs.Common.{sym, ◌∙◌, subst}
use Rattle.b2_update.specs.Moments.{moment}
use Rattle.b2_top.specs.declared.mode.Mode.{Mode}
use Rattle.b2_program.specs.Called.{Promises}
use Rattle.b2_program.proofs.commands.run_command.Goals as goal

pub returns-in-Build : goal.returns-in-Build
returns-in-Build g c =
    let before = moment (g.H.Files.outside c.args.host.now) (g.S.Sink.output c.args.out.now) in
    let after = moment (g.H.Files.outside c.build.new.host) (g.S.Sink.output c.build.new.out) in
    subst (λ (m : Mode). Promises m g.H.Children.made c.args.words.now before after c.build.result) (sym c.in-Build.is ∙ c.mode_of.ensures) c.build.ensures

pub returns-in-Look : goal.returns-in-Look
returns-in-Look g c =
    let before = moment (g.H.Files.outside c.args.host.now) (g.S.Sink.output c.args.out.now) in
    let after = moment (g.H.Files.outside c.look.new.host) (g.S.Sink.output c.look.new.out) in
    subst (λ (m : Mode). Promises m g.H.Children.made c.args.words.now before after c.look.result) (sym c.in-Look.is ∙ c.mode_of.ensures) c.look.ensures

pub returns-in-Explain : goal.returns-in-Explain
returns-in-Explain g c =
    let before = moment (g.H.Files.outside c.args.host.now) (g.S.Sink.output c.args.out.now) in
    let after = moment (g.H.Files.outside c.explain.new.host) (g.S.Sink.output c.explain.new.out) in
    subst (λ (m : Mode). Promises m g.H.Children.made c.args.words.now before after c.explain.result) (sym c.in-Explain.is ∙ c.mode_of.ensures) c.explain.ensures

pub returns-in-Clean : goal.returns-in-Clean
returns-in-Clean g c =
    let before = moment (g.H.Files.outside c.args.host.now) (g.S.Sink.output c.args.out.now) in
    let after = moment (g.H.Files.outside c.clean.new.host) (g.S.Sink.output c.clean.new.out) in
    subst (λ (m : Mode). Promises m g.H.Children.made c.args.words.now before after c.clean.result) (sym c.in-Clean.is ∙ c.mode_of.ensures) c.clean.ensures

pub returns-in-Drill : goal.returns-in-Drill
returns-in-Drill g c =
    let host = g.H.Files.outside c.args.host.now in
    let before = moment host (g.S.Sink.output c.args.out.now) in
    let after = moment host (g.S.Sink.output c.drill.new.out) in
    subst (λ (m : Mode). Promises m g.H.Children.made c.args.words.now before after c.drill.result) (sym c.in-Drill.is ∙ c.mode_of.ensures) (c.drill.ensures host)

pub returns-in-Jam : goal.returns-in-Jam
returns-in-Jam g c =
    let before = moment (g.H.Files.outside c.args.host.now) (g.S.Sink.output c.args.out.now) in
    let after = moment (g.H.Files.outside c.jam.new.host) (g.S.Sink.output c.jam.new.out) in
    subst (λ (m : Mode). Promises m g.H.Children.made c.args.words.now before after c.jam.result) (sym c.in-Jam.is ∙ c.mode_of.ensures) c.jam.ensures
