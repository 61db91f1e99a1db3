-- Read Theorems; Columns and Refused serve the code that asks for the kind, or passes a refusal on; the rest are proofs of Theorems.
pub mod Accepted
pub mod Just
pub mod RoundTrip
pub mod Theorems
pub mod Columns
pub mod Refused
