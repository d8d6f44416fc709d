-- The laws of chain, in reading order; a file cites only files above it.
--     PlanBytesLaws: plan bytes and back
--     FeasibleLaws: feasible chains
--     CountingLaws: how many arcs a sheet can offer
--     TotalLaws: how large the total of a chain can be
--     ErrorOfChain: the rounded total against the exact value
--     ChosenLaws: the chosen chain, and that it is the only one
--     WriteLaws, ReadLaws: a plan that is written to the front of a buffer, and what is then read there
pub mod PlanBytesLaws
pub mod FeasibleLaws
pub mod CountingLaws
pub mod TotalLaws
pub mod ErrorOfChain
pub mod ChosenLaws
pub mod WriteLaws
pub mod ReadLaws
