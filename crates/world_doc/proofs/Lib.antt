pub mod StartLemmas
pub mod WorldLemmas
pub mod ArgLemmas
pub mod ListLemmas
pub mod CountLemmas
pub mod CalledLemmas
pub mod PipeLemmas
