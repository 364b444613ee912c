use Rattle.std.proofs.Common.{string_bytes, Some, is_some, ap, sym, ◌∙◌}
use Rattle.std.specs.Option.{option_copied_mut}
use Rattle.std.specs.FinMap as map
use Rattle.jam_journal.specs.Tables.{back_name}
use Rattle.jam_journal.proofs.ReplacingTouchesOneName.{by_bytes, get_names, put_tree, back_found, back_absent}
use Rattle.jam_journal.proofs.others.Others.replace.Goals as goal
use Rattle.jam_journal.proofs.others.Others.replace.Goals.{in-Some, in-None}

pub returns-clause-before : goal.returns-clause-before
returns-clause-before g c =
    let entries = c.self.inside.values.entries in
    let name = c.args.name.now in
    let value = c.get_mut.ensures.value ∙ by_bytes entries name ∙ sym (get_names string_bytes entries name) ∙ ap (λ m. map.get m name) c.self.view_is in
    elim c.match-get_mut.branch [
      | in-Some w ↦ w.result-is ∙ ap Some w.replace.ensures.value ∙ sym (ap option_copied_mut w.in-Some.is) ∙ value
      | in-None w ↦ w.result-is ∙ sym (ap option_copied_mut w.in-None.is) ∙ value
    ]

pub returns-clause-after : goal.returns-clause-after
returns-clause-after g c =
    let old = c.self.inside.values in
    let name = c.args.name.now in
    elim c.match-get_mut.branch [
      | in-Some w ↦
          let there = sym (ap is_some c.get_mut.ensures.value) ∙ ap (λ r. is_some (option_copied_mut r)) w.in-Some.is in
          let found = sym (ap is_some (by_bytes old.entries name)) ∙ there in
          let new = c.get_mut.follows.lender w.replace.new.dest in
          rw w.self-inside-is
          (back_found string_bytes c.args.self.now old.entries new.entries name (Some w.replace.new.dest) c.self.view_is found
          (put_tree old new name (Some w.replace.new.dest) ((c.get_mut.follows.holds w.replace.new.dest).3 there))
          ∙ ap (λ v. back_name c.args.self.now name (Some v)) w.replace.ensures.after)
      | in-None w ↦
          let absent = sym (c.get_mut.ensures.value ∙ by_bytes old.entries name) ∙ ap option_copied_mut w.in-None.is in
          rw w.self-inside-is
          (back_absent string_bytes c.args.self.now old.entries c.get_mut.follows.lender-at-none.entries name (Some c.args.value) c.self.view_is absent
          (ap (λ m. m.entries) c.get_mut.follows.holds-at-none))
    ]
