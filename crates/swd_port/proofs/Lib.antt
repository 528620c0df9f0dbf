mod CountSteps
mod NotedSteps
mod Wents
pub mod MapLemmas
pub mod RegisterLemmas
pub mod PhaseBits
pub mod AnswerLaws
mod WorkedRuns
pub mod PlainLaws
pub mod PlainBusLaws
pub mod CompletionLaws
pub mod GivingUpLaws
pub mod RequestLaws
pub mod MovingLaws
pub mod StatusLaws
pub mod CallLaws
pub mod AccessLaws
mod NeverStuckLaws
mod SessionLaws
pub mod Recording
pub mod ReadLists
pub mod WorkedLaws
