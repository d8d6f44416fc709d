-- The laws of division, in reading order.
--     UpperLaws: the upper half of a product
--     ReciprocalLaws: a quotient by a reciprocal
pub mod UpperLaws
pub mod ReciprocalLaws
