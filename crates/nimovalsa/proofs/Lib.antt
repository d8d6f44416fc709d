-- The laws of nimovalsa.
pub mod PackedLaws
