pub mod Here
pub mod OneMore
pub mod Followed
pub mod Tails
