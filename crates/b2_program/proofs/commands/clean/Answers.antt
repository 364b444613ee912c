use Rattle.b2_program.proofs.commands.clean.Goals as goal

pub returns : goal.returns
returns g c =
    let p = c.clean_b2.ensures in
    record {
      cleaned = p.cleaned;
      leaves = p.leaves;
      stays = p.stays;
      reported = p.reported;
      children = p.children;
      keeps = p.keeps;
      out_keeps = p.out_keeps;
      counts = p.counts;
      usage = p.usage;
      alone = p.alone;
      no_usage = p.no_usage;
      usage_told = p.usage_told;
      cause = p.cause;
      whole = p.whole;
      not_failed = p.not_failed;
      complete = p.complete;
    }
