-- What the contracts of `rows` cite (Post), and what callers conclude from them (Theorems).
pub mod Post
pub mod Theorems
