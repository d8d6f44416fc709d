-- The definitions of printing, in reading order: what is printed of a sheet, and the cases.
pub mod Showing
pub mod Cases
