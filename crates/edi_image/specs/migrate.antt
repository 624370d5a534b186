-- Helper. The files of `migrate`.
pub mod Limit
pub mod Migrated
pub mod OldBuild
pub mod OldEntries
pub mod OldFiles
pub mod MigratedSlots
pub mod OldImage
pub mod OldLaws
