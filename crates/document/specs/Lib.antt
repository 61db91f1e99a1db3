-- Document 01, a file for each heading, in its order: Limits to Value are definitions only (Answer says what the types of src/ stand for), Theorems (here and in proofs/) says what is proved of
-- them, Cases is the table of the starred cases, Numbering and Samples hold further computed ones. The rest are the proofs.
pub mod Limits
pub mod Generator
pub mod Description
pub mod Refusals
pub mod Answer
pub mod Memory
pub mod Outputs
pub mod Cells
pub mod Basis
pub mod Report
pub mod Value
pub mod Largest
pub mod Lowest
pub mod Agreement
pub mod Decide
pub mod Ranges
pub mod Just
pub mod Sizes
pub mod Lengths
pub mod RoundTrip
pub mod Cases
pub mod Numbering
pub mod Samples
pub mod Theorems
