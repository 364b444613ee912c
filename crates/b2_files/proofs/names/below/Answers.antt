use Rattle.b2_files.proofs.NameIsRestWithoutSlash.{after_lead}
use Rattle.b2_files.proofs.names.below.Goals as goal

pub returns-in_default : goal.returns-in_default
returns-in_default c = λ rest.
    after_lead c.args.path.now c.args.dir.now rest c.after-in_default.result.now c.after-in_default-2.result.now c.in_default.not-text c.in_default.not-text-2 c.after-in_default.ensures c.after-in_default-2.ensures
