-- What the contracts of `reduction` cite. Read Columns, then Packs, then Theorems.
pub mod Columns
pub mod Packs
pub mod Theorems
