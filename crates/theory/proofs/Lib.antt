-- The counting theorem, in Theorems, and the counts that it rests on.
pub mod Counting
pub mod Theorems
