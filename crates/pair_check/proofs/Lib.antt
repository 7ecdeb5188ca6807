mod PairedLemmas
mod WalkLemmas
mod StoreLemmas
mod WorldLemmas
