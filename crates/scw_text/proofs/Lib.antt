pub mod ByteLemmas
pub mod UnitLemmas
pub mod ModifiedLemmas
pub mod ReadModifiedLemmas
pub mod PlaceLemmas
