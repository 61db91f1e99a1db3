pub mod Tables
pub mod Theorems
