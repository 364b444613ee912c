pub mod EvaluationBySources
pub mod FilesOutsideRoots
pub mod NativesBySources
pub mod RightSettingsShowSame
pub mod RootsStay
