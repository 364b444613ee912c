-- What a reader opens first, and what it defines. The other files serve these or the proofs.
-- What is judged:
-- `Logs`: what is made of bytes, true records and scan lines, true logs
-- `Staleness`: an update, and the five points, by time stamps or by digests
-- `Records`: the record of a step, the scan line of a file
-- What happens:
-- `Events`: what events may be over every host, and how they count
-- `Runs`, `Outcomes`: what is settled, needed, failed, missing, skipped and stuck; what can start; whole runs for any number
--   of jobs; the events of an update that stopped
-- `Numbers`: needs and outcomes by step numbers
-- `Cycles`: the list of a step cycle
-- `PlanChildren`: the children that run, by the events and the plan
-- What stands:
-- `Soundness`: how the disk stands to the events so far
-- `Afterwards`: what the next update begins with
-- `FileReads`: which files are read, which are too big, and which lines reads leave
-- `LogFiles`: which lines the log's file counts as, and when it is true
-- `LogCourses`: the log's file over a whole update
-- What is answered:
-- `Moments`: the host and the sink at one time
-- `Reports`: the printed bytes
-- `UpdateAnswers`: what each answer says
-- `Sessions`: edits, updates and stops, one after another
-- The theorems stand in the files whose names end with `Laws`. The functions in src/ have them as contracts. Two of them:
-- `NextLaws`: what the next update does not start again
-- `JudgeLaws`: judging does not depend on how many children may run

pub mod Logs
pub mod Staleness
pub mod Records
pub mod Events
pub mod Runs
pub mod Outcomes
pub mod Cycles
pub mod Numbers
pub mod Soundness
pub mod PlanChildren
pub mod Afterwards
pub mod FileReads
pub mod LogFiles
pub mod LogCourses
pub mod Reports
pub mod Moments
pub mod UpdateAnswers
pub mod Sessions
pub mod ClosureLaws
pub mod CleanLaws
pub mod LogLaws
pub mod LogFileLaws
pub mod LogCourseLaws
pub mod ScanLaws
pub mod SettledLaws
pub mod RunLaws
pub mod JudgeLaws
pub mod EventLaws
pub mod NumberLaws
pub mod OutcomeLaws
pub mod SoundLaws
pub mod AfterLaws
pub mod NotedLaws
pub mod StuckLaws
pub mod StopLaws
pub mod StaleLaws
pub mod CompleteLaws
pub mod ChildLaws
pub mod ReadLaws
pub mod ReportLaws
pub mod AnswerLaws
pub mod SessionLaws
pub mod NextLaws
