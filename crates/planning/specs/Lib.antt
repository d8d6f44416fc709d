-- The definitions of planning, in reading order.
--     Planning: what planning answers, and what it leaves in its buffers, as equations
--     Cases: document 01's cases 9 to 12, the list of all twelve, and further cases
pub mod Planning
pub mod Cases
