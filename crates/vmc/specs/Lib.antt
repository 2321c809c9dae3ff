pub mod Orders
pub mod Changes
