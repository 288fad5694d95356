pub mod Numbers
pub mod Places
pub mod Above
pub mod KnownMarks
pub mod Steps
pub mod Changes
