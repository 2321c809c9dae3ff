pub mod Records
pub mod Valid
