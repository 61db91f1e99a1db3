-- Theorems: each output bit is a sum of bits of the start state, and the rows of kinds 3 and 4.
pub mod Outputs
pub mod Single
pub mod KindFour
