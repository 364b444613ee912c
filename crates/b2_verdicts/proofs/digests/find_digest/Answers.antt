use Rattle.std.proofs.Common.{[], Err, sym, subst}
use Rattle.b2_facts.specs.declared.stop.FilesStop.{FilesStop}
use Rattle.b2_facts.specs.Growth.{OfOne}
use Rattle.b2_verdicts.specs.VerdictCalls.{Always, Asks}
use Rattle.b2_verdicts.proofs.AskingGoesOn.{found_ok, found_err, found_gone}
use Rattle.b2_verdicts.proofs.digests.find_digest.Goals as goal

pub returns-in-Ok-clause-asks : goal.returns-in-Ok-clause-asks
returns-in-Ok-clause-asks g c = found_ok c.args.facts.now c.find_digest.new.self c.args.number (g.F.Files.outside c.args.files.now) (g.F.Files.outside c.find_digest.new.files) (tt {0}) (tt {0}) c.requires c.in-Ok.ensures.effect c.find_digest.ensures.known c.find_digest.ensures.learns c.find_digest.ensures.includes c.find_digest.ensures.told

pub returns-in-Ok-clause-gone : goal.returns-in-Ok-clause-gone
returns-in-Ok-clause-gone g c = found_gone (g.F.Files.outside c.args.files.now).disk c.args.facts.now c.find_digest.new.self c.args.number c.requires (c.find_digest.ensures.learns [] []).grows c.in-Ok.ensures.gone

pub returns-in-Err-clause-asks : goal.returns-in-Err-clause-asks
returns-in-Err-clause-asks g c =
    subst (λ (s : FilesStop). Asks {T = Unit {0}} (OfOne c.args.number) Always c.args.facts.now c.find_digest.new.self (g.F.Files.outside c.args.files.now) (g.F.Files.outside c.find_digest.new.files) (Err s)) (sym c.stop_of_read.ensures)
    (found_err (Unit {0}) c.args.facts.now c.find_digest.new.self c.args.number (g.F.Files.outside c.args.files.now) (g.F.Files.outside c.find_digest.new.files) c.in-Err.fault c.requires c.in-Err.ensures.effect c.find_digest.ensures.known c.find_digest.ensures.learns c.find_digest.ensures.includes c.find_digest.ensures.told c.in-Err.ensures.too_big)
