-- Read Promises, then Theorems; the rest are the proofs.
pub mod Promises
pub mod Theorems
pub mod Exact
pub mod Fields
pub mod Unique
