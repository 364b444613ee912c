use Rattle.std.proofs.Common.{◌≡◌, true, false, sym, ap, ◌∙◌}
use Rattle.std.proofs.lemmas.Bool.Decides.{Decides-eqb}
use Rattle.std.proofs.lemmas.List.{nil_from_length}
use Rattle.jam_journal.specs.Slots.{with_slots}
use Rattle.jam_journal.proofs.names.Names.keeps_nothing.Goals as goal

pub returns-then-is_empty : goal.returns-then-is_empty
returns-then-is_empty g c =
    let slots = c.self.inside.slots in
    let none = nil_from_length slots.items (sym slots.ok.0 ∙ (Decides-eqb _ 0).0 (sym c.is_empty.ensures ∙ c.if-is_empty.true)) in
    λ e. sym c.self.view_is ∙ ap (λ ss. with_slots 0 ss c.self.inside.others) none ∙ c.is_empty-then-is_empty.ensures.0 e

pub returns-else-is_empty : goal.returns-else-is_empty
returns-else-is_empty g c = λ e. let two : false ≡ true = sym c.if-is_empty.false ∙ e in cc
