pub mod Waiting
pub mod ValueFrames
pub mod BlockFrames
pub mod DelimiterFrames
pub mod Calls
