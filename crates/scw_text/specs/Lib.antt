pub mod Rule
pub mod Modified
pub mod ReadModified
pub mod Place
pub mod Source
