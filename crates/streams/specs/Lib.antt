-- The definitions of streams.
pub mod Streams
