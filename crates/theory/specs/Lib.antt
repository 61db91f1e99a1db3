-- Machines that are linear modulo 2, for any number of state bits. Read Def, then Theorems here and in proofs/; the rest are the proofs.
pub mod Def
pub mod Examples
pub mod Theorems
pub mod Laws
pub mod Sums
pub mod Cells
pub mod Echelon
