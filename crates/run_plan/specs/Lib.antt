pub mod Firsts
pub mod PatternLists
pub mod Planning
