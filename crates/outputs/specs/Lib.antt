-- What the outputs call promises, and that two replies that keep the promise agree.
pub mod Promises
pub mod Theorems
