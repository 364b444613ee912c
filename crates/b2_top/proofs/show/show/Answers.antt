use Rattle.std.proofs.Common.{ℕ, List, IfSome, subst}
use Rattle.b2_host.specs.Disks.{Disk}
use Rattle.b2_prepare.specs.Preparing.{IsPrepared, LinesTold}
use Rattle.b2_top.proofs.LooksAnswerAsPromised.{answered}
use Rattle.b2_top.proofs.show.show.Goals as goal

pub returns-clause-shows : goal.returns-clause-shows
returns-clause-shows g c = λ words asked.
    let h0 = g.H.Files.outside c.args.host.now in
    let h1 = g.H.Files.outside c.prepare-prepared.new.files in
    let prepared = c.prepare-prepared.result in
    let told = subst (λ (l : List (List ℕ)). IfSome h0.disk (λ (disk : Disk). IsPrepared disk l prepared.echoes prepared.result)) c.as_slice.ensures c.prepare-prepared.ensures.told in
    let lines = subst (λ (l : List (List ℕ)). IfSome h0.disk (λ (disk : Disk). LinesTold disk l prepared.echoes prepared.result)) c.as_slice.ensures c.prepare-prepared.ensures.lines in
    answered c.one_meaning.ensures words c.args.look.now asked h0 h1 (g.S.Sink.output c.args.out.now) (g.S.Sink.output c.tell.new.out)
    prepared.echoes prepared.result c.tell.result told lines c.prepare-prepared.ensures.whole c.prepare-prepared.ensures.counts c.tell.ensures
