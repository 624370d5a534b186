pub mod Shows
pub mod UsesExpressions
pub mod UsesStatements
pub mod Scoping
pub mod Growing
pub mod Declared
pub mod Walk
