-- Def: a case, and the answer to a list of cases. Laws: what the answer is, for a list in any order; Theorems: its statements.
pub mod Def
pub mod Laws
pub mod Theorems
