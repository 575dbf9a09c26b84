mod Opened
mod Served
