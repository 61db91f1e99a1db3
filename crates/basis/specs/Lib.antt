-- What the contracts of `basis` cite (Promises), and that they leave no choice (Theorems). First shows that the rank is never 0.
pub mod Promises
pub mod First
pub mod Theorems
