pub mod AttemptsOut
pub mod CallLemmas
pub mod EventLemmas
pub mod MoreRecords
pub mod CallEnds
pub mod CallFaults
pub mod CallTexts
pub mod RunsAgain
