-- The digits of numbers as bits, and rows of bits in words of 64. Read Def, then Examples; the rest are laws.
pub mod Def
pub mod Examples
pub mod Laws
pub mod Parity
pub mod Lowest
pub mod Equal
