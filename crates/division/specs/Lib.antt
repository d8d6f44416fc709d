-- The definitions of division.
pub mod Division
