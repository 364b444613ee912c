use Rattle.std.proofs.Common.{reverse, ap}
use Rattle.jam_journal.specs.Layers.{layers_of}
use Rattle.jam_journal.proofs.TheNewestStandsLast.{first_is_kept, first_is_seen}
use Rattle.jam_journal.proofs.variables.Variables.new.Goals as goal

pub invariant_of-result : goal.invariant_of-result
invariant_of-result c =
    first_is_kept (record { cells = c.new-3.result; innermost = c.new-4.result; owner = c.in_ok-owner.owner; caller = c.in_ok-caller.caller })
    c.new-3.ensures c.new-4.ensures c.in_ok-owner.ensures c.in_ok-caller.ensures
    (reverse c.new-5.result.items) (reverse c.new-6.result.items) (layers_of c.new-7.result.items)
    (ap reverse c.new-5.ensures.items) (ap reverse c.new-6.ensures.items) (ap layers_of c.new-7.ensures.items)

pub returns : goal.returns
returns c =
    first_is_seen (record { cells = c.new-3.result; innermost = c.new-4.result; owner = c.in_ok-owner.owner; caller = c.in_ok-caller.caller })
    c.new-3.ensures c.new-4.ensures c.in_ok-owner.ensures c.in_ok-caller.ensures
    (reverse c.new-5.result.items) (reverse c.new-6.result.items) (layers_of c.new-7.result.items)
    (ap reverse c.new-5.ensures.items) (ap reverse c.new-6.ensures.items) (ap layers_of c.new-7.ensures.items)
