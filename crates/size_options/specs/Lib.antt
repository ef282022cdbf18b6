pub mod Words
pub mod Command
pub mod Given
pub mod Values
pub mod Asked
pub mod Answers
