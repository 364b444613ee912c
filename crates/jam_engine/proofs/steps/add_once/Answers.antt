use Rattle.jam_natives.proofs.SeenTextsAreAddedOnce.{seen_after}
use Rattle.jam_engine.proofs.steps.add_once.Goals as goal

pub returns-clause-seen : goal.returns-clause-seen
returns-clause-seen c = λ has. seen_after _ _ _ _ c.args.path.now _ _ has c.in_ok-key.ensures c.in_ok-own.ensures c.in_ok-_before.ensures.ok c.in_ok-push.ensures.ok
