-- What is stated of station key books.
--     Good      what a book may hold, in plain terms
--     Rising    stations that rise strictly
--     Answers   what reading can answer
--     Closing   whether a station has a live record
pub mod Good
pub mod Rising
pub mod Answers
pub mod Closing
