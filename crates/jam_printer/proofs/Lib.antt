pub mod PartsAreWrittenInTurn
pub mod LexemesCanStand
pub mod PrintReadsBack
