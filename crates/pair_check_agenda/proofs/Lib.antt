mod MadeLemmas
mod NotedLemmas
mod KeptLemmas
mod MeetLemmas
