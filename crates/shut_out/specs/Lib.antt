-- The wrong builds that document 01 names are shut out: Builds says what that means, Theorems that it is so.
pub mod Builds
pub mod Inputs
mod Taken
mod Shown
mod Refusing
mod Leaving
mod Answering
mod Reporting
pub mod Theorems
