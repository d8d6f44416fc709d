-- The laws of factors, in reading order.
--     CaseLaws: the figures of request 5, straight from the definition
--     PresentWorthLaws: the laws of a factor, which the crates above cite
pub mod CaseLaws
pub mod PresentWorthLaws
