pub mod DrillsHaveTargets
pub mod DrillsGoWell
pub mod DrillsAreSessions
pub mod SummariesTellDrills
