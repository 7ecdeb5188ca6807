pub use Rattle.thread_host_run.specs.Books
pub use Rattle.thread_host_run.specs.Runs
