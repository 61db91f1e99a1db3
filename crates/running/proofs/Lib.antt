-- Laws that the proofs cite.
pub mod Numbers
pub mod KindOne
pub mod KindTwo
pub mod KindFour
pub mod Masks
pub mod PrepareLaws
