-- The laws of steps, in reading order; a file cites only files above it.
--     CaseLaws: document 01's cases 1 to 5, further ones of each rounding, and two through a payment, straight from the definitions
--     RoundingLaws, RoomLaws: one rounding, and why a step fits in 64 bits; the functions cite them
--     ErrorOfRounding, ErrorOfStep, ErrorOfPayment: the error of one rounding, of a step and of a payment
pub mod CaseLaws
pub mod RoundingLaws
pub mod RoomLaws
pub mod ErrorOfRounding
pub mod ErrorOfStep
pub mod ErrorOfPayment
