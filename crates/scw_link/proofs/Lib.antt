pub mod ClassLemmas
pub mod ListLemmas
pub mod AncestorLemmas
pub mod LinkLemmas
pub mod SizeLemmas
