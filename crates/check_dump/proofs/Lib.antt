mod LineLemmas
mod ReplayLemmas
