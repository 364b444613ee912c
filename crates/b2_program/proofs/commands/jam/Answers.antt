use Rattle.b2_program.proofs.commands.jam.Goals as goal

pub returns : goal.returns
returns g c =
    let p = c.run_jam.ensures in
    record {
      answered = record {
        clean = p.clean;
        happened = p.happened;
        counts = p.counts;
        usage = p.usage;
        alone = p.alone;
        no_usage = p.no_usage;
        usage_told = p.usage_told;
        starts_none = p.starts_none;
        whole = p.whole;
        complete = p.complete;
        reported = p.reported;
        turns = p.turns;
        left_open = p.left_open;
        true_log = p.true_log;
        afterwards = p.afterwards;
        kept = p.kept;
        out_keeps = p.out_keeps;
      };
      none_left = p.none_left;
      keeps = p.keeps;
    }
