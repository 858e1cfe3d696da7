-- The equality question.
--     Equality   its answer for every two words, limit and choice
--     Table      when each answer is given, in document 01's numbers
pub mod Equality
pub mod Table
