pub mod CallsLemmas
pub mod EntriesLemmas
pub mod PutsLemmas
