use Rattle.std.proofs.Common.{◌∙◌, ap}
use Rattle.std.specs.FinMap.{get}
use Rattle.b2_references.proofs.LoopsTakeOneMore.{put_absent, keep_present}
use Rattle.b2_references.proofs.index.add_dir.Goals as goal

pub returns-in-Some : goal.returns-in-Some
returns-in-Some c = λ other. keep_present c.args.dirs.now c.args.dir.now other c.args.place _ (c.in-Some.ensures ∙ ap (get c.args.dirs.now) c.as_text.ensures.value)

pub returns-in_ok-_before-in-None : goal.returns-in_ok-_before-in-None
returns-in_ok-_before-in-None c = λ other. ap (λ m. get m other) c.in_ok-_before-in-None.ensures.ok ∙ put_absent c.args.dirs.now c.in_ok-copy-in-None.field-0 c.args.dir.now other c.args.place (c.in-None.ensures ∙ ap (get c.args.dirs.now) c.as_text.ensures.value) (c.in_ok-copy-in-None.ensures ∙ c.as_text-in-None.ensures.value)
