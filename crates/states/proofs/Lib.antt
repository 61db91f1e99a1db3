-- Laws that the proofs cite, and that callers' proofs may.
pub mod WordLaws
pub mod StateLaws
pub mod Made
