-- Helper. The files of `code`.
pub mod CodeCommands
