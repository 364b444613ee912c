use Rattle.std.proofs.Common.{refl}
use Rattle.std.specs.Str.{chars}
use Rattle.std.proofs.lemmas.Bool.{false≢true}
use Rattle.jam_path.proofs.WalkFits.{star_here, star_later, star_never}
use Rattle.jam_path.proofs.glob.matches_end.Goals as goal

pub returns-in-Fits : goal.returns-in-Fits
returns-in-Fits c =
    (λ _. c.places.invariant.2.0 (star_here (chars c.places.rest.now) (chars c.places.left.now) c.in-Fits.ensures.exact), λ _. refl)

pub returns-in_default : goal.returns-in_default
returns-in_default c = (
  λ t. absurd (false≢true t),
  λ m. absurd (star_never (chars c.places.rest.now) (chars c.places.left.now) c.in_default.ensures.exact c.in-Fails.ensures.exact (c.places.invariant.2.1 m)),
)

pub places-preserved : goal.places-preserved
places-preserved c =
    let step = star_later (chars c.places.rest.now) (chars c.places.left.now) c.in-Some.field-0-0 (chars c.in-Some.after.now) c.in-Some.ensures.exact c.in-Fails.ensures.exact in
    (c.places.invariant.0, c.in-Some.ensures.utf8, (λ m. c.places.invariant.2.0 (step.1 m), λ m. step.0 (c.places.invariant.2.1 m)), c.places.invariant.3)
