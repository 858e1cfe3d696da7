-- The fields that a book is made of.
--     Got     what reading gives: a value and the bytes it took, or the first fault; one reading behind another, and all to the end
--     Field   a number and a text, each judged
--     Told    where a good field lies, as the functions tell it
--     Put     bytes put at a place
pub mod Got
pub mod Field
pub mod Told
pub mod Put
