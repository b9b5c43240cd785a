pub mod ClusterState
pub mod ChannelSpecs
pub mod Hosting
pub mod Underway
pub mod Choices
pub mod Closing
