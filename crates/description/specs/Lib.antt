-- What reading and writing promise, and that two replies that keep a promise agree.
pub mod Promises
pub mod Theorems
