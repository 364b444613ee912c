use Rattle.b2_sight_laws.proofs.SettingOfDisk.{run_has}
use Rattle.b2_sight_laws.proofs.laws.run_has_setting.Goals as goal

pub returns : goal.returns
returns g c = run_has c.each_sight_has_setting.ensures
