pub mod FileRuns
pub mod StepsHaveTexts
