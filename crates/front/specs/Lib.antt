-- The definitions of front, in reading order.
--     Planned: the chain that planning returns, as it is computed
--     Front: what the code keeps on the way
pub mod Planned
pub mod Front
