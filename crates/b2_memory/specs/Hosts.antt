use Rattle.std.specs.Prelude.{Bool, List, map, Some}
use Rattle.b2_host.specs.ChildProcesses.{Child, Family}
use Rattle.b2_host.specs.Outside.{Outside}
use Rattle.b2_files.specs.Buffers.{buffers_of}
use Rattle.b2_files.specs.Stores.{Write, write_in}
use Rattle.b2_files.specs.StoreDisks.{told}
use Rattle.b2_files.specs.declared.version.Version.{Version}
use Rattle.b2_memory.specs.Families.{child_with}
use Rattle.b2_memory.specs.Jobs.{given_of}
use Rattle.b2_memory.specs.NotedReads.{noted_reads}
use Rattle.b2_memory.specs.Listings.{listed_of, risks_told}
use Rattle.b2_memory.specs.Memories.{Memory}
use Rattle.b2_memory.specs.declared.child_table.ChildTable.{ChildTable}
use Rattle.b2_memory.specs.declared.memory.MemoryHost.{MemoryHost}
use Rattle.b2_memory.specs.declared.running_child.RunningChild.{RunningChild}

-- children that run, by what they were given
abbrev pub running_children : List RunningChild → List Child
running_children running = map (λ child. child_with (given_of child.job.value)) running

-- whether each child is to end well
abbrev pub ends_well_of : List RunningChild → List Bool
ends_well_of running = map (λ child. child.well) running

-- the children of a table
abbrev pub family_of : ChildTable → Family
family_of table = record {
  running = running_children table.running.items;
  events = table.events.items;
  given = Some (map (λ job. given_of job.value) table.given.items);
}

-- a file that stood, as a write
abbrev pub write_told : MemoryHost → Version → Write
write_told host version = write_in (buffers_of host.store.contents) version

-- what a host in memory is to its callers
abbrev pub told_outside : MemoryHost → Outside
told_outside host = record {
  disk = Some (told host.store);
  reads = Some (noted_reads host.read_notes);
  children = family_of host.child_table;
  faults = host.script.faults;
  failed_waits = host.failed_waits;
  risks = risks_told host.script;
}

-- all that a host in memory is
abbrev pub memory_of : MemoryHost → Memory
memory_of host = record {
  outside = told_outside host;
  listed = listed_of host.script;
  ends_well = ends_well_of host.child_table.running.items;
}
