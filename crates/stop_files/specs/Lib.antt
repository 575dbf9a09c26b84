pub mod Left
pub mod Note
pub mod Plate
