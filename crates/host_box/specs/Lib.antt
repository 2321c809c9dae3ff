pub mod Called
pub mod Life
