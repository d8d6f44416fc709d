-- The laws of streams, in reading order; a file cites only files above it.
--     FillLaws: what steps write, and what is left as it was
--     FallLaws: which overhaul falls in a year, and what it costs
pub mod FillLaws
pub mod FallLaws
