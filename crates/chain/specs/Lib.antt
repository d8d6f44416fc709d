-- The definitions of chain, in reading order.
--     Chain: chains, which of them are feasible, totals and exact values
--     ChosenChain: the chain that is chosen
--     Counting: how many arcs a sheet offers
--     Years: chains as lists of years
--     Error: how far a total may lie from the exact value
--     PlanBytes: the bytes of a plan, written and read
--     Ordered: years in order, and activities that follow each other
--     CasePlans: the bytes of plans for the cases
pub mod Chain
pub mod ChosenChain
pub mod Counting
pub mod Years
pub mod Error
pub mod PlanBytes
pub mod Ordered
pub mod CasePlans
