use Rattle.std.proofs.Common.{◌∙◌, Result, Ok, Err, OnErr}
use Rattle.jam_scan.specs.Gatherings.{HasSomeOf}
use Rattle.jam_scan.proofs.GatheringsGrow.{some_so_far}
use Rattle.jam_scan.proofs.closure.Closure.add_all.Goals as goal

-- what holds holds after an error
on_err : {T E : Type 0} (r : Result T E) (P : Type 0) → P → OnErr r P
on_err (Ok value) P p = tt
on_err (Err fault) P p = p

pub returns-in_err-add-clause-err : goal.returns-in_err-add-clause-err
returns-in_err-add-clause-err c =
    on_err c.from_residual.result (HasSomeOf c.args.self.now c.args.paths.now c.add.new.self)
    (some_so_far c.args.self.now c.add.new.self c.args.paths.now c.loop-path.path-index (c.in_err-add.ensures.err ∙ c.loop-path.invariant))
