pub mod MoreCallsLaws
pub mod HistoryLaws
pub mod AnyMoment
pub mod AtEach
pub mod StandingOrder
