-- The laws of printing, in reading order.
--     CaseLaws: what is printed of sheets, straight from the definitions
--     ShownLaws: what is printed of a sheet
pub mod CaseLaws
pub mod ShownLaws
