use Rattle.b2_making.specs.Contexts.{context_of, site_of}
use Rattle.b2_making.specs.Conversions.{makes}
use Rattle.b2_making.proofs.ActsCompose.{done_ok, done_err}
use Rattle.b2_making.proofs.make.make.Goals as goal

pub returns : goal.returns
returns g c =
    let did = c.make_kind.ensures in
    record {
      made = λ told e.
          done_ok g.V.Evaluate.is_host_fault g.V.Evaluate.is_out_of_memory (makes (context_of told c.args.setting.now) (site_of c.args.site.now)) c.args.builder.now c.make_kind.new.builder c.make_kind.result (did.exact told e);
      refused = λ told e.
          done_err g.V.Evaluate.is_host_fault g.V.Evaluate.is_out_of_memory (makes (context_of told c.args.setting.now) (site_of c.args.site.now)) c.args.builder.now c.make_kind.new.builder c.make_kind.result (did.exact told e);
      grows = did.grows;
      known = did.leaves.known;
      counted = did.leaves.counted;
      answers = did.leaves.same_answers;
      kept = did.leaves.same_kept;
    }
