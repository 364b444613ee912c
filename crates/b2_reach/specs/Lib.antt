-- What the files define.
-- `Files`: which files are at hand
-- `Reaches`: what a step is known to read so far
-- `Dues`: what is to be done with a member
-- `Courses`: reads, each with its line directly after it
-- `CourseReads`: what such reads leave in an update
-- `Sightings`: how what is known grows
-- `Steps`: what the single steps of the work do
-- `Laws`: what follows

pub mod Files
pub mod Reaches
pub mod Courses
pub mod CourseReads
pub mod Sightings
pub mod Dues
pub mod Steps
pub mod Laws
