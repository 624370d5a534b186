pub mod Spellings
pub mod Standings
pub mod Views
pub mod Rounds
