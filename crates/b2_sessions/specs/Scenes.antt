-- What events do to a host in memory and a sink, exactly.
use Rattle.std.specs.Prelude.{◌≡◌, ℕ, List, [], ◌∷◌, ◌++◌}
use Rattle.b2_drill.specs.declared.event.Event.{Event}
use Rattle.b2_drill.specs.declared.event.Event.TheVariants as events
use Rattle.b2_host.specs.Output.{Output}
use Rattle.b2_memory.specs.Hosts.{memory_of}
use Rattle.b2_memory.specs.Memories.{Memory, with_edit, with_listed, with_tear, told_fuse, renewed, Reopens}
use Rattle.b2_memory.specs.Results.{made_of}
use Rattle.b2_memory.specs.declared.memory.MemoryHost.{MemoryHost}
use Rattle.b2_runs.specs.Moments.{Moment}
use Rattle.b2_command_line.specs.Words.{Word}
use Rattle.b2_top.specs.declared.answer.Answer.{Answer}
use Rattle.b2_top.specs.Askings.{build_of}
use Rattle.b2_sessions.specs.BuildCalls.{IsCall}

-- All that a host in memory is, and a sink, at one moment.
pub record Scene : Type 0 where
  pub memory : Memory
  pub out : Output

abbrev pub scene_of : MemoryHost → Output → Scene
scene_of host out = record { memory = memory_of host; out = out }

-- the same as their callers see it
abbrev pub seen : Scene → Moment
seen scene = record { host = scene.memory.outside; out = scene.out }

-- the host with its memory changed so, beside the same sink
abbrev pub changed : (Memory → Memory) → Scene → Scene
changed change scene = record scene { memory = change scene.memory }

-- told to fail after so many calls, and to leave so many bytes of what fails to be written
abbrev pub fused : ℕ → ℕ → Memory → Memory
fused calls tear memory = with_listed (with_tear tear) (told_fuse calls memory)

-- An update was stopped: the host was told after how many calls each call fails, the call of the build command came, and
-- the host was opened again.
pub record IsStopped (words : List Word) (calls tear : ℕ) (answer : Answer) (before after : Scene) : Type 0 where
  pub between : MemoryHost
  pub came : IsCall made_of (build_of words) answer (seen (changed (fused calls tear) before)) (seen (scene_of between after.out))
  pub reopened : Reopens (memory_of between) after.memory

-- what an event did, and the answers that it gave
abbrev pub Did : Event → Scene → List Answer → Scene → Type 0
Did (events.Edit path bytes) before given after = (given ≡ []) × (after ≡ changed (with_edit path bytes) before)
Did (events.Update words) before given after = (answer : Answer) × (given ≡ answer ∷ []) × IsCall made_of (build_of words) answer (seen before) (seen after) × (after.memory.outside.children.running ≡ [])
Did (events.Stop words calls tear) before given after = (answer : Answer) × (given ≡ answer ∷ []) × IsStopped words calls tear answer before after

-- these events were run one after another, with these answers
abbrev pub Follow : Scene → List Event → List Answer → Scene → Type 0
Follow first [] given last = (given ≡ []) × (last ≡ first)
Follow first (event ∷ more) given last =
    (host : MemoryHost) × (out : Output) × (here : List Answer) × (later : List Answer) × (given ≡ here ++ later)
    × Did event first here (scene_of host out) × Follow (scene_of host out) more later last

-- So they were run by a session. Before the first one, what may go wrong with the host was worked out anew.
abbrev pub WereRun : List Event → Scene → List Answer → Scene → Type 0
WereRun list first given last = (host : MemoryHost) × (memory_of host ≡ renewed first.memory) × Follow (scene_of host first.out) list given last
