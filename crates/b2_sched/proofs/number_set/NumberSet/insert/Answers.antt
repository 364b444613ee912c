use Rattle.std.proofs.Common.{◌/◌, ◌<◌, List, Bool, length, sym, subst, arith}
use Rattle.b2_sched.proofs.IndexFindsTheLowest.{put_in}
use Rattle.b2_sched.proofs.number_set.NumberSet.insert.Goals as goal

pub invariant_of-self : goal.invariant_of-self
invariant_of-self c =
    let within = subst (λ (xs : List Bool). c.args.number < length xs) (sym c.self.view_is) c.requires in
    let at : c.args.number / 64 < length c.self.inside.groups.items = omega (arith, c.self.invariant.0.covers) in (
      put_in c.self.inside.flags.items c.self.inside.groups.items c.args.number c.self.invariant.0 within,
      put_in c.self.inside.groups.items c.self.inside.regions.items (c.args.number / 64) c.self.invariant.1 at,
    )
