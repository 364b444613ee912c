use Rattle.b2_update.specs.Moments.{moment}
use Rattle.b2_top.specs.Askings.{build_of}
use Rattle.b2_sessions.proofs.CallsAreTold.{build_has_few, is_call}
use Rattle.b2_sessions.proofs.call.call.Goals as goal

pub returns : goal.returns
returns g c =
    let before = moment (g.H.Files.outside c.args.host.now) (g.S.Sink.output c.args.out.now) in
    let after = moment (g.H.Files.outside c.run_b2.new.host) (g.S.Sink.output c.run_b2.new.out) in
    let told = c.run_b2.ensures in
    is_call g.H.Children.made (build_of c.args.words.now) (build_has_few c.args.words.now) c.run_b2.result before after c.requires (record {
      clean = told.clean;
      happened = told.happened;
      counts = told.counts;
      usage = told.usage;
      alone = told.alone;
      no_usage = told.no_usage;
      usage_told = told.usage_told;
      starts_none = told.starts_none;
      whole = told.whole;
      complete = told.complete;
      reported = told.reported;
      turns = told.turns;
      left_open = told.left_open;
      true_log = told.true_log;
      afterwards = told.afterwards;
      kept = told.kept;
      out_keeps = told.out_keeps;
    }) told.none_left told.keeps (g.met.H.Files.consistent c.args.host.now) (g.met.H.Files.consistent c.run_b2.new.host)
