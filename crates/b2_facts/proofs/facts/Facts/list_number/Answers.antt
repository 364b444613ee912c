use Rattle.std.proofs.Common.{◌≡◌, List, ℕ, Some, refl, sym, ap, subst, ◌∙◌}
use Rattle.b2_facts.specs.Facts.{Knowledge, dirs_at}
use Rattle.b2_facts.specs.Lists.{IsSameOrAdded}
use Rattle.b2_facts.specs.Growth.{Learns, OfNone}
use Rattle.b2_facts.specs.Truth.{StaysTrue}
use Rattle.b2_facts.proofs.FactsGrow.{on_either, learns_equal, true_equal}
use Rattle.b2_facts.proofs.FactsAreEntered.{lists_learn, lists_true}
use Rattle.b2_facts.proofs.ListsAreNumbered.{lists_are}
use Rattle.b2_facts.proofs.facts.Facts.list_number.Goals as goal

pub returns-clause-learns : goal.returns-clause-learns
returns-clause-learns c = λ steps roots. (
    let dirs = c.args.dirs.now in
    let f : Knowledge = record { paths = c.self.inside.paths; files = c.self.inside.files.items; lists = c.self.inside.lists; found = c.self.inside.found } in
    let h : Knowledge = record { paths = c.self.inside.paths; files = c.self.inside.files.items; lists = c.number_of.new.self; found = c.self.inside.found } in
    subst (λ (k : Knowledge). Learns steps roots OfNone k h) c.self.view_is
    (on_either c.number_of.result (Learns steps roots OfNone f h) (IsSameOrAdded c.self.inside.lists dirs c.number_of.new.self) (c.number_of.new.self ≡ c.self.inside.lists) c.number_of.ensures.ok c.number_of.ensures.err
    (λ ok. lists_learn steps roots OfNone dirs f h (lists_are f dirs c.number_of.new.self h ok refl))
    (λ same. learns_equal steps roots OfNone f h (ap (λ (ls : List (List (List ℕ))). let r : Knowledge = record f { lists = ls } in r) same))))

pub returns-clause-told : goal.returns-clause-told
returns-clause-told c = λ steps roots now. (
    let dirs = c.args.dirs.now in
    let f : Knowledge = record { paths = c.self.inside.paths; files = c.self.inside.files.items; lists = c.self.inside.lists; found = c.self.inside.found } in
    let h : Knowledge = record { paths = c.self.inside.paths; files = c.self.inside.files.items; lists = c.number_of.new.self; found = c.self.inside.found } in
    subst (λ (k : Knowledge). StaysTrue steps roots now k h) c.self.view_is
    (on_either c.number_of.result (StaysTrue steps roots now f h) (IsSameOrAdded c.self.inside.lists dirs c.number_of.new.self) (c.number_of.new.self ≡ c.self.inside.lists) c.number_of.ensures.ok c.number_of.ensures.err
    (λ ok. lists_true steps roots now dirs f h (lists_are f dirs c.number_of.new.self h ok refl))
    (λ same. true_equal steps roots now f h (ap (λ (ls : List (List (List ℕ))). let r : Knowledge = record f { lists = ls } in r) same))))

pub returns-clause-once : goal.returns-clause-once
returns-clause-once c = λ n at. c.number_of.ensures.once n (subst (λ (k : Knowledge). dirs_at k n ≡ Some c.args.dirs.now) (sym c.self.view_is) at)

pub returns-clause-stays : goal.returns-clause-stays
returns-clause-stays c = λ n at. (
    let f : Knowledge = record { paths = c.self.inside.paths; files = c.self.inside.files.items; lists = c.self.inside.lists; found = c.self.inside.found } in
    ap (λ (ls : List (List (List ℕ))). let r : Knowledge = record f { lists = ls } in r) (c.number_of.ensures.stays n (subst (λ (k : Knowledge). dirs_at k n ≡ Some c.args.dirs.now) (sym c.self.view_is) at))
    ∙ c.self.view_is)
