pub mod Character
pub mod Entry
pub mod Mnemonic
pub mod Instruction
pub mod Code
pub mod Class
