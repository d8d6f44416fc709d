-- The laws of pricing, in reading order; a file cites only files above it.
--     CaseLaws: plans priced, straight from the definitions
--     FittingLaws: plan bytes that fit, as tests and as facts, part by part
--     EndsLaws: one end more, for the loops over a plan's ends
--     PriceLaws: what `price` answers
pub mod CaseLaws
pub mod FittingLaws
pub mod EndsLaws
pub mod PriceLaws
