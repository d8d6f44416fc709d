-- The laws of nominal: the cases, straight from the definitions, and how large an amount of cents can be, which the functions cite.
pub mod CaseLaws
pub mod SizeLaws
