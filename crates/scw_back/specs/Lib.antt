pub mod MachineSeen
pub mod Back
pub mod Same
