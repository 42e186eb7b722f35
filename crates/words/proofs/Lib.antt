pub mod LittleEndian
pub mod Bits
