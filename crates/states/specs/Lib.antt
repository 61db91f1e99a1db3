-- What the contracts of `states` cite.
pub mod Post
