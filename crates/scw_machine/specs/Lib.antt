pub mod Output
pub mod Course
pub mod Run
pub mod Unlimited
pub mod Row
pub mod Load
pub mod Tell
