-- Laws of laying out.
--     Laid   records laid out in scratch words, one after the other
pub mod Laid
