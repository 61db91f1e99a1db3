-- What the call for k promises, and that two replies agree; then laws: k by the kind, and what is known of arguments that pass.
pub mod Promises
pub mod Theorems
pub mod StateBits
pub mod Passed
