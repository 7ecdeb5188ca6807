pub mod Messages
pub mod Queues
pub mod Seen
pub use Rattle.capabilities.specs.Changes
pub use Rattle.capabilities.specs.Denied
pub use Rattle.capabilities.specs.Failing
pub use Rattle.capabilities.specs.declared.Caps
