use Rattle.b2_program.proofs.commands.explain.Goals as goal

pub returns : goal.returns
returns g c =
    let p = c.explain_b2.ensures in
    record {
      explained = p.explained;
      reported = p.reported;
      disk = p.disk;
      children = p.children;
      keeps = p.keeps;
      out_keeps = p.out_keeps;
      counts = p.counts;
      usage = p.usage;
      alone = p.alone;
      no_usage = p.no_usage;
      usage_told = p.usage_told;
      cause = p.cause;
      whole = p.whole;
      not_failed = p.not_failed;
      complete = p.complete;
    }
