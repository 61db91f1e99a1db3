-- The first dependent set of rows is the first of the output bits.
pub mod FirstSet
