mod ReadyLemmas
mod NextLemmas
mod RunsLemmas
mod ReachLemmas
mod RowLemmas
mod EndLemmas
mod DepartLemmas
