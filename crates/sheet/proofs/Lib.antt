-- Laws of the definitions, in reading order, for the crates above. Of the functions here, `factor_of` alone cites one of them.
pub mod LayoutLaws
pub mod FactorLaws
pub mod ParsedLaws
