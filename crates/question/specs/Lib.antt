-- What the contracts of `question` cite, and that two replies that a question's promise allows are one.
pub mod Searches
pub mod Promises
pub mod Theorems
