use Rattle.std.specs.Prelude.{ℕ, Bool, true, false, List, [], ◌∷◌, ◌++◌, Some, None, codes, refl, if◌then◌else◌}
use Rattle.std.specs.List.{flat_map}
use Rattle.std.specs.Str.{bytes_eq}
use Rattle.b2_host.specs.declared.children.ChildEvent.{ChildEvent}
use Rattle.b2_host.specs.declared.children.ChildEvent.TheVariants.{Start, Done}
use Rattle.b2_host.specs.Disks.{File, Folder}
use Rattle.b2_plan.specs.Plans.{Apart}
use Rattle.b2_plan.specs.Sources.{Build}
use Rattle.b2_log.specs.declared.line.Record.{Record}
use Rattle.b2_log.specs.declared.line.LogLine.{LogLine}
use Rattle.b2_log.specs.declared.line.LogLine.TheVariants as lines
use Rattle.b2_runs.specs.Staleness.{Update}
use Rattle.b2_runs.specs.Runs.{IsRun}
use Rattle.b2_runs.specs.LogCourses.{IsLogAfter, AllMigrated}
use Rattle.b2_run_examples.specs.Overlap.{copy_from, x_path, a_path, b_path, c_path}

-- Judging by digests, update by update: a dependent does not start where its inputs have the bytes that they had.

-- `a` is made of `x` and is the same whatever `x` holds; `b` is copied from `a`; and `c` from `b`, which nobody wants
abbrev pub made_const : List ℕ → List (List ℕ × List ℕ) → List ℕ → List ℕ
made_const text held out = if bytes_eq out a_path then [] else flat_map (λ input. input.1) held

abbrev pub file_of : ℕ → List ℕ → File
file_of stamp bytes = record { stamp = stamp; bytes = bytes }

-- the build, with these files
abbrev pub build_on : Folder → Build
build_on folder = record {
  steps = copy_from x_path a_path ∷ copy_from a_path b_path ∷ copy_from b_path c_path ∷ [];
  wanted = a_path ∷ b_path ∷ [];
  roots = codes "bin" ∷ [];
  folder = folder;
  inc = λ path bytes. [];
  looks = λ dirs path include. [];
  made = made_const;
}

-- an update of it, by digests or by stamps; the digest of bytes is the bytes
abbrev pub update_on : Bool → Folder → List LogLine → Update
update_on by_digest folder log = record { build = build_on folder; log = log; scanned = λ path. false; unscanned = λ path bytes e. refl; digest = λ bytes. bytes; by_digest = by_digest; all = false; quit = false; jobs = 1 }

-- the record of `a`, from `x` with this stamp and digest; and that of `b`
abbrev pub a_digested : ℕ → ℕ → List ℕ → Record
a_digested at x_at bytes = record { text = codes "cat"; outs = (a_path, at) ∷ []; ins = (x_path, x_at) ∷ []; digests = Some (record { outs = [] ∷ []; ins = bytes ∷ [] }) }

abbrev pub b_digested : ℕ → ℕ → Record
b_digested at a_at = record { text = codes "cat"; outs = (b_path, at) ∷ []; ins = (a_path, a_at) ∷ []; digests = Some (record { outs = [] ∷ []; ins = [] ∷ [] }) }

abbrev pub a_stamped : ℕ → ℕ → Record
a_stamped at x_at = record { text = codes "cat"; outs = (a_path, at) ∷ []; ins = (x_path, x_at) ∷ []; digests = None }

abbrev pub b_stamped : ℕ → ℕ → Record
b_stamped at a_at = record { text = codes "cat"; outs = (b_path, at) ∷ []; ins = (a_path, a_at) ∷ []; digests = None }

-- only `x` stands
abbrev pub x_alone : ℕ → List ℕ → Folder
x_alone stamp bytes path = if bytes_eq path x_path then Some (file_of stamp bytes) else None

-- `x`, `a` and `b` stand with these stamps, the outputs without bytes
abbrev pub all_stand : ℕ → List ℕ → ℕ → ℕ → Folder
all_stand stamp bytes a_at b_at path = if bytes_eq path x_path then Some (file_of stamp bytes) else (if bytes_eq path a_path then Some (file_of a_at []) else (if bytes_eq path b_path then Some (file_of b_at []) else None))

-- the first step alone, and both
abbrev pub first_ran : List ChildEvent
first_ran = Start 1 ∷ Done 1 true ∷ []

abbrev pub both_ran : List ChildEvent
both_ran = Start 1 ∷ Done 1 true ∷ Start 2 ∷ Done 2 true ∷ []

-- the log after each update
abbrev pub log_one : List LogLine
log_one = lines.Record (a_digested 2 1 (7 ∷ [])) ∷ lines.Record (b_digested 3 2) ∷ []

abbrev pub log_two : List LogLine
log_two = log_one ++ lines.Record (a_digested 2 4 (7 ∷ [])) ∷ []

abbrev pub log_three : List LogLine
log_three = log_two ++ lines.Record (a_digested 6 5 (8 ∷ [])) ∷ lines.Record (b_digested 3 6) ∷ []

abbrev pub log_four : List LogLine
log_four = log_three ++ lines.Record (a_stamped 8 7) ∷ lines.Record (b_stamped 9 8) ∷ []

abbrev pub log_five : List LogLine
log_five = log_four ++ lines.Record (a_digested 8 7 (9 ∷ [])) ∷ lines.Record (b_digested 9 8) ∷ []

-- Five updates, one after the other. All but the fourth judge by digests.
pub record DigestsHold : Type 0 where
  pub apart : (folder : Folder) → Apart (build_on folder).steps (build_on folder).roots
  -- nothing stands but `x`: both run
  pub new : IsRun (update_on true (x_alone 1 (7 ∷ [])) []) both_ran
  -- `x` was written again with the same bytes: nothing runs, and `a` gets a record with the new stamp
  pub same_bytes : IsRun (update_on true (all_stand 4 (7 ∷ []) 2 3) log_one) []
  pub same_bytes_log : IsLogAfter (update_on true (all_stand 4 (7 ∷ []) 2 3) log_one) (all_stand 4 (7 ∷ []) 2 3) log_one [] log_two
  -- `x` was written with other bytes: `a` runs, and `b` does not, for `a` has the bytes that it had
  pub other_bytes : IsRun (update_on true (all_stand 5 (8 ∷ []) 2 3) log_two) first_ran
  pub other_bytes_log : IsLogAfter (update_on true (all_stand 5 (8 ∷ []) 2 3) log_two) (all_stand 5 (8 ∷ []) 6 3) log_two first_ran log_three
  -- the same, judged by stamps: both run
  pub by_stamps : IsRun (update_on false (all_stand 7 (9 ∷ []) 6 3) log_three) both_ran
  -- nothing was done: nothing runs, and both get records with digests
  pub unchanged : IsRun (update_on true (all_stand 7 (9 ∷ []) 8 9) log_four) []
  pub unchanged_log : IsLogAfter (update_on true (all_stand 7 (9 ∷ []) 8 9) log_four) (all_stand 7 (9 ∷ []) 8 9) log_four [] log_five
  pub unchanged_all : AllMigrated (update_on true (all_stand 7 (9 ∷ []) 8 9) log_four) [] (all_stand 7 (9 ∷ []) 8 9) log_five
  -- the log before did not have these
  pub unchanged_not : ¬ AllMigrated (update_on true (all_stand 7 (9 ∷ []) 8 9) log_four) [] (all_stand 7 (9 ∷ []) 8 9) log_four
  -- so no step may start before they are in the log
  pub unchanged_first : ¬ IsLogAfter (update_on true (all_stand 7 (9 ∷ []) 8 9) log_four) (all_stand 7 (9 ∷ []) 8 9) log_four (Start 1 ∷ []) log_four
