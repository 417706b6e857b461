pub mod After
pub mod BusyWait
pub mod Kinds
pub mod NextAccess
pub mod Opening
pub mod Phases
pub mod Refusals
