use Rattle.std.proofs.Common.{◌∙◌, sym, arith}
use Rattle.std.specs.Str.{chars}
use Rattle.jam_path.proofs.ClassUpToBracket.{drop_twice, no_chars, no_bytes}
use Rattle.std.proofs.lemmas.Bool.{eqb-true, eqb-false}
use Rattle.jam_path.proofs.WalkFits.{fed_more, fed_fits, fed_ended, fed_fails, fed_star}
use Rattle.jam_path.proofs.walk.walk_pieces.Goals as goal

pub returns-in-Some-clause-exact : goal.returns-in-Some-clause-exact
returns-in-Some-clause-exact c = fed_star (chars c.args.pattern.now) (chars c.args.text.now) (chars c.pieces.rest.now) (chars c.pieces.left.now) (chars c.in-Some.pattern.now) c.pieces.invariant.2 c.in-Some.ensures.exact

pub returns-then-is_empty-clause-exact : goal.returns-then-is_empty-clause-exact
returns-then-is_empty-clause-exact c =
    fed_fits (chars c.args.pattern.now) (chars c.args.text.now) (chars c.pieces.rest.now) (chars c.pieces.left.now) c.pieces.invariant.2
    (no_chars c.pieces.rest.now (eqb-true _ _ (sym c.is_empty.ensures ∙ c.if-is_empty.true))) c.in_default-first_char.ensures.exact

pub returns-else-is_empty-clause-exact : goal.returns-else-is_empty-clause-exact
returns-else-is_empty-clause-exact c =
    fed_ended (chars c.args.pattern.now) (chars c.args.text.now) (chars c.pieces.rest.now) (chars c.pieces.left.now) c.pieces.invariant.2
    c.in_default.ensures.exact c.in_default-first_char.ensures.exact
    (λ e. eqb-false _ _ (sym c.is_empty.ensures ∙ c.if-is_empty.false) (no_bytes c.pieces.rest.now c.pieces.invariant.0 e))

pub returns-in_default-after_one-clause-exact : goal.returns-in_default-after_one-clause-exact
returns-in_default-after_one-clause-exact c =
    fed_fails (chars c.args.pattern.now) (chars c.args.text.now) (chars c.pieces.rest.now) (chars c.pieces.left.now) c.in-Some-first_char.character (chars c.in-Some-first_char.remaining.now) c.pieces.invariant.2
    c.in_default.ensures.exact c.in-Some-first_char.ensures.exact c.in_default-after_one.ensures

pub pieces-preserved : goal.pieces-preserved
pieces-preserved c = let a = c.in-Some-after_one.ensures in (
  a.2,
  c.in-Some-first_char.ensures.utf8,
  fed_more (chars c.args.pattern.now) (chars c.args.text.now) (chars
      c.pieces.rest.now) (chars c.pieces.left.now) c.in-Some-first_char.character (chars
      c.in-Some-after_one.after.now) (chars c.in-Some-first_char.remaining.now) c.pieces.invariant.2
      c.in-Some-first_char.ensures.exact a.0,
  drop_twice c.args.pattern.now c.pieces.rest.now
      c.in-Some-after_one.after.now c.pieces.invariant.3 a.1,
  omega (
    arith,
    c.pieces.invariant.4,
    c.in-Some-first_char.ensures.shorter,
  ),
)
