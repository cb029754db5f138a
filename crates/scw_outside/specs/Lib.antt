-- The definitions that the clauses cite, in reading order.
pub mod Causes
pub mod Content
pub mod Puts
pub mod Calls
pub mod Entries
pub mod StoreView
pub mod SinkView
