pub mod Parts
pub mod Mapped
pub mod Public
pub mod Same
pub mod Numbers
