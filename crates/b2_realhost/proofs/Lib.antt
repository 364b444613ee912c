pub mod WaitEndsOneJob
