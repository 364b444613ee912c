pub mod UpdatesGoWell
pub mod DrillsAreCourses
pub mod SessionsGoWell
