pub mod Promises
pub mod Firsts
pub mod Prepared
pub mod Theorems
