pub mod Orders
pub mod Replies
