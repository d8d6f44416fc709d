-- The laws of planning, in reading order.
--     CaseLaws: document 01's cases 1 to 12 and further cases, straight from the definitions
--     PlanningLaws: what planning answers and leaves, way out by way out
pub mod CaseLaws
pub mod PlanningLaws
