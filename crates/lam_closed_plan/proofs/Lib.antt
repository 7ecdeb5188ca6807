pub mod OnceLemmas
