use Rattle.std.proofs.Common.{◌≡◌, true, false, subst}
use Rattle.std.specs.List.{Contains}
use Rattle.b2_host.specs.declared.children.ChildEvent.TheVariants.{Start, Done}
use Rattle.b2_runs.specs.Runs.{Settled.source, Settled.done_well, Settled.fresh}
use Rattle.b2_runs.specs.CompleteLaws.{FailedIsNotSettled}
use Rattle.b2_runs.proofs.MakerIsOne.{source_not_made}
use Rattle.b2_runs.proofs.RunGoesOn.{done_was_started, done_once}

-- no output of a failed step is settled
pub failed_is_not_settled : FailedIsNotSettled
failed_is_not_settled u events i step path apart run bad makes (source p bytes s) = source_not_made u.build apart p bytes s i step makes
failed_is_not_settled u events i step path apart run bad makes (done_well k s p makes_k done) =
    let same : true ≡ false = done_once u events i true false run (subst (λ j. Contains events (Done j true)) (apart.one_maker k i s step p makes_k makes) done) bad in
    cc
failed_is_not_settled u events i step path apart run bad makes (fresh k s p members makes_k not_started closure inside f) =
    not_started (subst (λ j. Contains events (Start j)) (apart.one_maker i k step s p makes makes_k) (done_was_started u events i false run bad))
