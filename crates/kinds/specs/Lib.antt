-- The four kinds of generator. Read Generator, then Theorems; Transpose, then Rows; then proofs/. The rest are the proofs.
pub mod Generator
pub mod Examples
pub mod Theorems
pub mod Linear
pub mod Reads
pub mod Recurrence
pub mod Alike
pub mod Transpose
pub mod Rows
pub mod Adjoint
