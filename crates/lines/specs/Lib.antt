-- The definitions of lines, in reading order: the lines of a plan and of a refusal, what is left in a lent text, how bytes are put into one,
-- and the cases.
pub mod Lines
pub mod Texts
pub mod Puts
pub mod Cases
