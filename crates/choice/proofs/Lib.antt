-- The theorems of choice, in reading order; a file cites only files above it.
--     CaseLaws: closed cases, straight from the definitions
--     ChoiceLaws: a set has at most one chosen list, and none of the set weighs less
--     HoldsLaws: what a set's entry says of the set
--     RunningLaws: the running choice, one end at a time
--     LeastLaws: the running choice over all ends that are offered has the chosen list
--     TableLaws: a table's entries follow its rule, and induction over them
pub mod CaseLaws
pub mod ChoiceLaws
pub mod HoldsLaws
pub mod RunningLaws
pub mod LeastLaws
pub mod TableLaws
