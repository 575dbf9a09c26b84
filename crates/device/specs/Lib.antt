pub mod Calls
pub mod Given
pub mod MemorySink
pub mod MemorySource
pub mod Reading
pub mod Room
pub mod Writing
