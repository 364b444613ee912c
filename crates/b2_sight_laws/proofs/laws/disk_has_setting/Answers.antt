use Rattle.b2_sight_laws.proofs.SettingOfDisk.{has_setting}
use Rattle.b2_sight_laws.proofs.laws.disk_has_setting.Goals as goal

pub returns : goal.returns
returns g c = has_setting c.each_sight_has_setting.ensures
