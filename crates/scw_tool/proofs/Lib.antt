pub mod CourseLemmas
pub mod PutLemmas
pub mod MainObject
pub mod RunLemmas
pub mod JobLemmas
pub mod CompleteLemmas
pub mod TopLemmas
