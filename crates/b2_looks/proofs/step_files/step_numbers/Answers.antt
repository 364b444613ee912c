use Rattle.std.proofs.Common.{◌≡◌, ℕ, List, Some, filter, ap, subst, ◌∙◌, arith}
use Rattle.std.specs.List.{AllZip, Contains}
use Rattle.b2_facts.specs.Facts.{path_at}
use Rattle.b2_facts.proofs.FactsGrow.{number_grows}
use Rattle.b2_looks.specs.Numbers.{has_bytes}
use Rattle.b2_looks.proofs.FilesAreNumbered.{maker_place}
use Rattle.b2_looks.proofs.step_files.step_numbers.Goals as goal

pub in_order-requires-clause-numbers : goal.in_order-requires-clause-numbers
in_order-requires-clause-numbers c n among = number_grows c.args.facts.now c.numbers_of.new.facts c.numbers_of.ensures.learns.grows n (c.requires.numbers n among)

pub in_order-requires-clause-paths : goal.in_order-requires-clause-paths
in_order-requires-clause-paths c = (c.numbers_of.ensures.learns.about c.requires.about).distinct

pub with_bytes-requires-clause-about : goal.with_bytes-requires-clause-about
with_bytes-requires-clause-about c = c.numbers_of.ensures.learns.about c.requires.about

pub with_bytes-requires-clause-numbers : goal.with_bytes-requires-clause-numbers
with_bytes-requires-clause-numbers c n among =
    let inside = (c.in_ok-order.ensures.same n).0 (subst (λ (l : List ℕ). Contains l n) c.as_slice-2.ensures.value among) in
    number_grows c.args.facts.now c.numbers_of.new.facts c.numbers_of.ensures.learns.grows n (c.requires.numbers n inside)

pub first_without-requires-clause-about : goal.first_without-requires-clause-about
first_without-requires-clause-about c = c.numbers_of.ensures.learns.about c.requires.about

pub first_without-requires-clause-numbers : goal.first_without-requires-clause-numbers
first_without-requires-clause-numbers c n among = number_grows c.args.facts.now c.numbers_of.new.facts c.numbers_of.ensures.learns.grows n (c.requires.numbers n among)

pub first_done-requires-clause-numbers : goal.first_done-requires-clause-numbers
first_done-requires-clause-numbers c n among = number_grows c.args.facts.now c.numbers_of.new.facts c.numbers_of.ensures.learns.grows n (c.requires.numbers n among)

pub first_done-requires-clause-makers : goal.first_done-requires-clause-makers
first_done-requires-clause-makers c n maker file among known made =
    let place = maker_place c.args.plan.now.steps c.args.plan.now.roots c.numbers_of.new.facts n file maker (c.numbers_of.ensures.learns.about c.requires.about) known made in
    omega (arith, place.2, place.3, c.requires.ran_size)

pub returns-clause-numbers : goal.returns-clause-numbers
returns-clause-numbers c =
    let g = c.numbers_of.new.facts in
    record {
      files = record {
        outs = subst (λ (paths : List (List ℕ)). AllZip (λ n path. path_at g n ≡ Some path) c.in_ok-outs.outs paths) c.as_slice.ensures c.in_ok-outs.ensures.named;
        order = c.in_ok-order.order.items;
        same = c.in_ok-order.ensures.same;
        rising = c.in_ok-order.ensures.rising;
        ins = c.in_ok-ins.ensures ∙ ap (filter (has_bytes c.args.plan.now.steps g)) c.as_slice-2.ensures.value;
      };
      notfile = c.first_without.ensures;
      done = c.first_done.ensures;
    }
