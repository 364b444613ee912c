use Rattle.jam_engine.proofs.NumbersGrow.{put_back}
use Rattle.jam_engine.proofs.index.add_number.Goals as goal

pub returns : goal.returns
returns c =
    put_back c.args.text.now c.args.number c.args.numbers.now c.take.new.numbers c.insert.new.self _ _ _ c.in_ok-found.ensures.numbers c.in_ok-found.ensures.taken c.in_ok-push.ensures.ok c.in_ok-key.ensures c.in_ok-_before.ensures.ok
