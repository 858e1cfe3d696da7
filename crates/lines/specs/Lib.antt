-- The line reader.
--     Lines    what is written for an input: its lines, the answer of each, the whole output
--     Feed     what `feed` and `finish` promise, for an input that is cut anywhere
--     Inside   what the functions below those two promise each other
pub mod Lines
pub mod Feed
pub mod Inside
