-- What the encoder and the equality question answer.
--     Answers    document 01's numbers and values for each case of an answer
--     Verdicts   the same for each case of a verdict
--     Numbers    answers as a host's numbers
pub mod Answers
pub mod Verdicts
pub mod Numbers
