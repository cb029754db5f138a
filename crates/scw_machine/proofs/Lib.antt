pub mod OutputLemmas
pub mod RunLemmas
pub mod LoadLemmas
pub mod TellLemmas
pub mod UnlimitedLemmas
pub mod RowLemmas
