pub mod Alike
pub mod Report
pub mod Undamaged
