-- Records laid out.
--     Span   where the chosen code lies
pub mod Span
