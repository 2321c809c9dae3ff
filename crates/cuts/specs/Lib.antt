pub mod Exchanges
pub mod Events
pub mod Lives
