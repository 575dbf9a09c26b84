pub mod Groups
pub mod Rising
pub mod Indexed
pub mod Sales
pub mod Reserves
pub mod Closing
