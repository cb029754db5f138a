mod NameLemmas
mod TypesLemmas
mod MainLemmas
mod Examples
