-- The definitions of sheet, in reading order: where its records stand, the sheet of document 01, how the code holds it, and the bytes of
-- the sheets of cases.
pub mod Layout
pub mod Sheet
pub mod Parsed
pub mod CaseBytes
