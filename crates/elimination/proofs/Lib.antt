-- Laws that belong to no one function.
pub mod Words
pub mod RowBits
pub mod Reduce
pub mod Take
pub mod Tags
