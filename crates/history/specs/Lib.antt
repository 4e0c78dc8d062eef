pub mod History
pub mod StandingOrder
pub mod MoreCalls
pub mod AtEach
pub mod AnyMoment
