-- The definitions of nimovalsa.
pub mod Packed
