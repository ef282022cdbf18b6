pub mod Encoding
pub mod Numbers
pub mod Reads
pub mod Spelled
pub mod Window
