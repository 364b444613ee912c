use Rattle.std.proofs.Common.{◌≡◌, [], is_some, false}
use Rattle.b2_project.specs.Loading.{HasParentsBefore}
use Rattle.b2_declared.specs.Numbered.{IsNumbered}
use Rattle.b2_project.proofs.LoadsAnswerWhatIsDeclared.{ended_by}
use Rattle.b2_project.proofs.LoadsWalkRunThenDeclare.{told_load, whole_load, counts_load, ready_load, ready_as, declares_load, refuses_load, lines_load}
use Rattle.b2_project.proofs.load.load.Goals as goal

pub returns-clause-told : goal.returns-clause-told
returns-clause-told g c =
    told_load c.args.words.now c.go_through-ended.new.walk c.args.turns.now c.go_through-ended.new.turns (g.F.Files.outside c.args.files.now) (g.F.Files.outside c.go_through-ended.new.files) c.go_through-ended.result c.answer.result
    c.go_through-ended.ensures
    (ended_by c.go_through-ended.new.walk c.go_through-ended.result c.told_of-told.result c.answer.result c.told_of-told.ensures c.answer.ensures.echoes c.answer.ensures.result)

pub returns-clause-whole : goal.returns-clause-whole
returns-clause-whole g c =
    whole_load c.args.words.now c.go_through-ended.new.walk c.args.turns.now c.go_through-ended.new.turns (g.F.Files.outside c.args.files.now) (g.F.Files.outside c.go_through-ended.new.files) c.go_through-ended.result c.answer.result
    c.go_through-ended.ensures
    (ended_by c.go_through-ended.new.walk c.go_through-ended.result c.told_of-told.result c.answer.result c.told_of-told.ensures c.answer.ensures.echoes c.answer.ensures.result)

pub returns-clause-counts : goal.returns-clause-counts
returns-clause-counts g c =
    counts_load c.args.words.now c.go_through-ended.new.walk c.args.turns.now c.go_through-ended.new.turns (g.F.Files.outside c.args.files.now) (g.F.Files.outside c.go_through-ended.new.files) c.go_through-ended.result c.answer.result
    c.go_through-ended.ensures
    (ended_by c.go_through-ended.new.walk c.go_through-ended.result c.told_of-told.result c.answer.result c.told_of-told.ensures c.answer.ensures.echoes c.answer.ensures.result)

pub returns-clause-sound : goal.returns-clause-sound
returns-clause-sound g c =
    ready_as (λ project. IsNumbered project.declared) c.answer.result.result (λ project ready. ready.places)
    (ready_load c.go_through-ended.new.walk c.go_through-ended.result c.answer.result c.go_through-ended.ensures.closed (ended_by c.go_through-ended.new.walk c.go_through-ended.result c.told_of-told.result c.answer.result c.told_of-told.ensures c.answer.ensures.echoes c.answer.ensures.result))

pub returns-clause-parents : goal.returns-clause-parents
returns-clause-parents g c =
    ready_as (λ project. HasParentsBefore project.declared) c.answer.result.result (λ project ready. ready.parents)
    (ready_load c.go_through-ended.new.walk c.go_through-ended.result c.answer.result c.go_through-ended.ensures.closed (ended_by c.go_through-ended.new.walk c.go_through-ended.result c.told_of-told.result c.answer.result c.told_of-told.ensures c.answer.ensures.echoes c.answer.ensures.result))

pub returns-clause-frames : goal.returns-clause-frames
returns-clause-frames g c =
    ready_as (λ project. project.world.now.scopes.frames ≡ []) c.answer.result.result (λ project ready. ready.closed.0)
    (ready_load c.go_through-ended.new.walk c.go_through-ended.result c.answer.result c.go_through-ended.ensures.closed (ended_by c.go_through-ended.new.walk c.go_through-ended.result c.told_of-told.result c.answer.result c.told_of-told.ensures c.answer.ensures.echoes c.answer.ensures.result))

pub returns-clause-step : goal.returns-clause-step
returns-clause-step g c =
    ready_as (λ project. is_some project.world.now.step ≡ false) c.answer.result.result (λ project ready. ready.closed.1)
    (ready_load c.go_through-ended.new.walk c.go_through-ended.result c.answer.result c.go_through-ended.ensures.closed (ended_by c.go_through-ended.new.walk c.go_through-ended.result c.told_of-told.result c.answer.result c.told_of-told.ensures c.answer.ensures.echoes c.answer.ensures.result))

pub returns-clause-marked : goal.returns-clause-marked
returns-clause-marked g c =
    ready_as (λ project. project.world.marked ≡ []) c.answer.result.result (λ project ready. ready.closed.2)
    (ready_load c.go_through-ended.new.walk c.go_through-ended.result c.answer.result c.go_through-ended.ensures.closed (ended_by c.go_through-ended.new.walk c.go_through-ended.result c.told_of-told.result c.answer.result c.told_of-told.ensures c.answer.ensures.echoes c.answer.ensures.result))

pub returns-clause-declares : goal.returns-clause-declares
returns-clause-declares g c =
    declares_load c.args.words.now c.go_through-ended.new.walk c.go_through-ended.result c.answer.result c.go_through-ended.ensures.all
    (ended_by c.go_through-ended.new.walk c.go_through-ended.result c.told_of-told.result c.answer.result c.told_of-told.ensures c.answer.ensures.echoes c.answer.ensures.result)

pub returns-clause-refused : goal.returns-clause-refused
returns-clause-refused g c =
    refuses_load c.args.words.now c.go_through-ended.new.walk c.go_through-ended.result c.answer.result c.go_through-ended.ensures.all
    (ended_by c.go_through-ended.new.walk c.go_through-ended.result c.told_of-told.result c.answer.result c.told_of-told.ensures c.answer.ensures.echoes c.answer.ensures.result)

pub returns-clause-lines : goal.returns-clause-lines
returns-clause-lines g c =
    lines_load c.go_through-ended.new.walk c.go_through-ended.result c.answer.result
    (ended_by c.go_through-ended.new.walk c.go_through-ended.result c.told_of-told.result c.answer.result c.told_of-told.ensures c.answer.ensures.echoes c.answer.ensures.result)
