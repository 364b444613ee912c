use Rattle.b2_sight_laws.proofs.SettingOfDisk.{load_has}
use Rattle.b2_sight_laws.proofs.laws.load_has_setting.Goals as goal

pub returns : goal.returns
returns c = load_has c.each_sight_has_setting.ensures
