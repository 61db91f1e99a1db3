-- Rows of bits: what elimination makes of them, and what they say of output bits. Read Def, then Theorems, and proofs/FirstSet; the rest are the proofs.
pub mod Def
pub mod Theorems
pub mod Spans
pub mod Leads
pub mod Sets
pub mod Outputs
pub mod Columns
