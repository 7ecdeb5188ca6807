pub use Rattle.lam_machine_world.specs.Coding
