pub mod Opcode
pub mod Codec
pub mod Layout
pub mod Instr
pub mod Code
pub mod Gives
pub mod Jump
