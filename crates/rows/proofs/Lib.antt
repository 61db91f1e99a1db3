-- Laws that the proofs cite.
pub mod Laws
pub mod KindOne
pub mod KindTwo
pub mod KindFour
