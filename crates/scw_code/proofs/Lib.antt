pub mod CodecLemmas
pub mod ReadLemmas
pub mod InstrLemmas
pub mod CodeLemmas
pub mod DecodeLemmas
pub mod EncodeLemmas
pub mod JumpLemmas
pub mod FaultLemmas
