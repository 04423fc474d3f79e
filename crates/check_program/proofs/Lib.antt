pub mod Fitting
pub mod Failing
pub mod Judged
mod Mirrored
mod Files
mod FrontLemmas
mod DumpJudged
mod Outcome
