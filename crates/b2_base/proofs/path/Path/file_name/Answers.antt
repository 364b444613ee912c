use Rattle.std.proofs.Common.{sym, subst}
use Rattle.b2_base.specs.Bytes.{HasNoZero}
use Rattle.b2_base.proofs.NamesAreCutAtLastSigns.{file_name_clean}
use Rattle.b2_base.proofs.path.Path.file_name.Goals as goal

pub returns-clause-no_zero : goal.returns-clause-no_zero
returns-clause-no_zero c = subst HasNoZero (sym c.file_name.ensures) (file_name_clean c.as_str.result.now (subst HasNoZero (sym c.as_str.ensures.value) c.as_str.ensures.no_zero))
