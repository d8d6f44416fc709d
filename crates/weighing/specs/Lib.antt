-- The definitions of weighing, in reading order.
--     Best: the running choice on the numbers that the code keeps
--     Ends: the ends of an option that is kept, what the arcs to them cost, and the totals behind them
--     Ahead: these totals with what ending there adds
pub mod Best
pub mod Ends
pub mod Ahead
