pub mod Orders
pub mod machine
