pub mod Machine
pub mod OldEntries
pub mod Demand3
pub mod OldDumps
pub mod AnyOrder
pub mod HowLong
pub mod PhaseCalls
