pub mod Items
pub mod OwnReserves
pub mod Rising
pub mod ConsistentRows
pub mod Standing
pub mod LookUps
pub mod Seen
