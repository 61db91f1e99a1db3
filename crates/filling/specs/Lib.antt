-- What the contracts of `filling` cite (Rows, Asked), and what callers conclude from them (Theorems).
pub mod Rows
pub mod Asked
pub mod Theorems
