pub mod Table
pub mod Example
pub mod Fault
pub mod Records
pub mod Rows
pub mod Valid
pub mod Reading
pub mod Fields
