-- What the types and contracts of `running` cite (Ranges, Prepared), and what callers conclude from them (Theorems).
pub mod Ranges
pub mod Prepared
pub mod Kinds
pub mod Ready
pub mod Theorems
