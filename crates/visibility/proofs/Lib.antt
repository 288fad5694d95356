pub mod MarkWalks
pub mod Sharing
