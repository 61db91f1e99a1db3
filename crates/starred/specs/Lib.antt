-- The starred cases of document 01 hold of the calls.
pub mod Calls
