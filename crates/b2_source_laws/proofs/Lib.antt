mod JamrootIsSeen
mod RootsStayInWalks
mod WalksBySources
mod AnswersBySources
mod MeaningBySources
pub mod NextPlanIsTheSame
pub mod SourcesStay
mod NextFindsFresh
mod MeaningIsApart
mod CleanedStepsStart
mod RefusalIsOfPattern
mod NextBuildsAnew
