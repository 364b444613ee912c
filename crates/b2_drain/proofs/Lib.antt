pub mod WaitsAddUp
pub mod StoppedStaysStopped
