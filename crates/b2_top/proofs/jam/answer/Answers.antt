use Rattle.b2_update.specs.Moments.{moment}
use Rattle.b2_top.specs.Askings.{jam_of}
use Rattle.b2_top.proofs.AskingsAreLawful.{jam_is_lawful}
use Rattle.b2_top.proofs.PromisesFollowFromCalls.{all_promised}
use Rattle.b2_top.proofs.jam.answer.Goals as goal

pub returns-clause-answered : goal.returns-clause-answered
returns-clause-answered g c =
    let before = moment (g.H.Files.outside c.args.host.now) (g.S.Sink.output c.args.out.now) in
    let after = moment (g.H.Files.outside c.read_and_build.new.host) (g.S.Sink.output c.read_and_build.new.out) in
    all_promised (jam_of c.args.words.now) (jam_is_lawful c.one_meaning.ensures c.args.words.now) g.H.Children.made before after c.read_and_build.result c.read_and_build.ensures.calls c.read_and_build.ensures.keeps
    (g.met.H.Files.consistent c.args.host.now) (g.met.H.Files.consistent c.read_and_build.new.host)
