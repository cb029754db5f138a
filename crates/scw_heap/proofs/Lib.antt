pub mod FieldLemmas
pub mod CellLemmas
pub mod LayoutLemmas
pub mod FoundLemmas
pub mod ChangeLemmas
pub mod HeapLemmas
pub mod StartLemmas
