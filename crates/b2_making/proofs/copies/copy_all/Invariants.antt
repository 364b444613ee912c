use Rattle.b2_making.specs.Acts.{for_each}
use Rattle.b2_making.specs.Contexts.{context_of, site_of}
use Rattle.b2_evaluator.specs.Answers.{Answers}
use Rattle.b2_making.specs.Answers.{Grows}
use Rattle.b2_making.specs.Steps.{location_of}
use Rattle.b2_making.specs.Conversions.{copies_at}
use Rattle.b2_making.proofs.ActsCompose.{IsSoFar}
use Rattle.b2_making.proofs.copies.copy_all.Given as goal

-- the entries so far are copied
abbrev pub invariant-loop-entry : goal.invariant-loop-entry
invariant-loop-entry g l = record {
  copies : (told : Answers g.row.F.Denot) → IsSoFar (for_each (copies_at (context_of told l.setting) (site_of l.site) (location_of l.site.set.now))) l.entries l.entry-index l.made l.fn.builder l.builder;
  grows : Grows l.setting.roots.now l.fn.builder l.builder;
}
