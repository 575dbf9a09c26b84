pub mod After
pub mod Kept
pub mod Closing
pub mod InOrder
