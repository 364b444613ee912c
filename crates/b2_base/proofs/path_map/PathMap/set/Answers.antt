use Rattle.std.proofs.Common.{is_some, ap, sym, ◌∙◌}
use Rattle.std.specs.Option.{option_copied_mut}
use Rattle.b2_base.proofs.MapsHoldWhatEntriesHold.{set_found, set_absent}
use Rattle.b2_base.proofs.path_map.PathMap.set.Goals as goal
use Rattle.b2_base.proofs.path_map.PathMap.set.Goals.{in-Some, in_default}

pub returns : goal.returns
returns g c = elim c.match-get_mut.branch [
  | in-Some w ↦
      let found = sym (ap is_some c.get_mut.ensures.value) ∙ ap (λ r. is_some (option_copied_mut r)) w.in-Some.is in
      rw w.self-inside-is (set_found c.args.self.now c.self.inside.values.entries (c.get_mut.follows.lender c.args.value).entries c.args.path.now c.args.value c.self.view_is found ((c.get_mut.follows.holds c.args.value).3 found).0)
  | in_default w ↦
      let absent = sym c.get_mut.ensures.value ∙ ap option_copied_mut w.in_default.is in
      rw w.self-inside-is (set_absent c.args.self.now c.self.inside.values.entries c.get_mut.follows.lender-at-none.entries c.args.path.now c.args.value c.self.view_is (ap (λ m. m.entries) c.get_mut.follows.holds-at-none) absent)
]
