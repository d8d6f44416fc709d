-- The laws of planner, in reading order; a file cites only files above it.
--     FoundLaws: what the code has found is the planned chain
--     WayLaws: in which way planning ends, and which number comes from which
--     DoneLaws: what is read from the buffer when a plan was written, and what holds of it
--     LeftLaws: what each way leaves of the buffers
--     RangeLaws: the range of what is answered
--     Demands: the promises, each a citation; the functions cite these
pub mod FoundLaws
pub mod WayLaws
pub mod DoneLaws
pub mod LeftLaws
pub mod RangeLaws
pub mod Demands
