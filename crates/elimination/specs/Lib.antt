-- What the contracts of `elimination` cite. Read Words, then Rows, then Theorems.
pub mod Words
pub mod Rows
pub mod Theorems
