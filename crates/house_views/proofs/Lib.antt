mod Public
mod Waits
