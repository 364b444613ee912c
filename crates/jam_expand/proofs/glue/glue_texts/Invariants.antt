use Rattle.std.proofs.Common.{take, map}
use Rattle.jam_expand.specs.Glue.{IsGlued}
use Rattle.jam_expand.specs.Modifiers.{changed, glued_text}
use Rattle.jam_expand.proofs.glue.glue_texts.Given as goal

abbrev pub invariant-loop-place : goal.invariant-loop-place
invariant-loop-place l = IsGlued l.held (glued_text l.glue (map (changed l.modifiers) (take l.place l.texts)))
