-- the invariant, and the laws of blobs that it rests on
pub mod Blobs
pub mod Rows
pub mod Invariant
-- each writing call keeps it
pub mod Writes
pub mod Reach
-- so do a power cut and a restart
pub mod Weakening
-- calls in order, plans, and how a plan ends that is followed
pub mod Chain
pub mod Plans
pub mod Follow
-- the calls of a log
pub mod Commits
pub mod Appends
pub mod Growing
pub mod Prunes
pub mod Clears
pub mod Cuts
pub mod Truncates
pub mod Publishes
pub mod Recovers
pub mod Trimmeds
pub mod Trimming
pub mod Running
pub mod Empties
pub mod Readings
-- open
pub mod Walks
pub mod Opens
pub mod Rests
-- the induction over histories
pub mod States
pub mod Events
pub mod Padded
pub mod Law
pub mod InLine
pub mod Useless
