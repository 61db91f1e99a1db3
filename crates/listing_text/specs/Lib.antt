-- The text of a listing. Read Text, Listing, Example, Theorems; then Numbers and Decimal: each number fits, and its digits are its decimal writing.
pub mod Text
pub mod Listing
pub mod Example
pub mod Theorems
pub mod Numbers
pub mod Decimal
pub mod Wrote
