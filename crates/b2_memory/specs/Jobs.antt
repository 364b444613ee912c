use Rattle.std.specs.Prelude.{◌≡◌, Bool, List, map, string_bytes}
use Rattle.b2_host.specs.ChildProcesses.{Given}
use Rattle.b2_files.specs.Stores.{write_of}
use Rattle.b2_files.specs.declared.file_bytes.FileBytes.{FileBytes}
use Rattle.b2_memory.specs.ChildWrites.{writes_of}
use Rattle.b2_memory.specs.declared.memory_job.MemoryJob.{MemoryJob}

-- what a start gave
abbrev pub given_of : MemoryJob → Given
given_of job = record { step = job.step; text = string_bytes job.text; ins = job.ins; outs = job.outs; held = map write_of job.held.items }

-- the entries are what a child with such a job writes by its end
abbrev pub IsLeft : MemoryJob → Bool → List FileBytes → Type 0
IsLeft job well entries = map write_of entries ≡ writes_of (given_of job) well
