-- The laws of lines, in reading order; a file cites only files above it.
--     CaseLaws: lines, straight from the definitions
--     DecimalLaws: how many digits a number has, and one digit more
--     PutLaws: bytes put behind bytes
--     LineLaws: how long lines are, and one line more
--     TextLaws: what is left in a text, of a plan
pub mod CaseLaws
pub mod DecimalLaws
pub mod PutLaws
pub mod LineLaws
pub mod TextLaws
