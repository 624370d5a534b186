-- Helper. The files of `text`.
pub mod ExploreCommand
pub mod TextCommands
