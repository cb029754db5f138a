pub mod Load
pub mod Shows
