-- What private contracts alone cite.
pub mod Trees
pub mod Characters
pub mod Singles
pub mod Ranking
pub mod Judging
