use Rattle.b2_virtual.proofs.OtherSpotsKeepTheirNumbers.{back, same_numbers}
use Rattle.b2_virtual.proofs.spot_map.SpotMap.insert_all.Goals as goal

pub returns-in-Err-clause-err : goal.returns-in-Err-clause-err
returns-in-Err-clause-err c =
    same_numbers c.remove_all.new.self c.args.self.now
    (back c.args.self.now c.insert_each.new.self c.remove_all.new.self c.args.texts.now c.requires c.insert_each.ensures.others c.remove_all.ensures)
