use Rattle.b2_program.proofs.commands.look.Goals as goal

pub returns : goal.returns
returns g c =
    let p = c.show_b2.ensures in
    record {
      answered = record {
        shown = p.shown;
        reported = p.reported;
        counts = p.counts;
        usage = p.usage;
        alone = p.alone;
        no_usage = p.no_usage;
        usage_told = p.usage_told;
        whole = p.whole;
        not_failed = p.not_failed;
        complete = p.complete;
        cause = p.cause;
        out_keeps = p.out_keeps;
      };
      disk = p.disk;
      children = p.children;
      keeps = p.keeps;
    }
