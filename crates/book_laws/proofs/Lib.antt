-- What holds of station key books.
--     Good       `book_round_trip`, `book_only`: reading a written book gives it back, and what reads as a book is its one writing
--     Rising     `stations_rise`: station numbers rise strictly, over live and closed records
--     Answers    `book_answers`: every sequence of bytes is a book or shows one of six faults
--     First      `book_first_fault`: a fault that a book's first bytes show stays, whatever stands behind
--     Live       `live_reads`, `all_live`, `add_one_base`: the live records make a book; those of a format 1 book are all
--     Grows      `start_reads`, `add_reads`: what starting and adding leave reads back
--     Going      `append_adds`, `append_goes_on`, `book_end`: going on from a known end is adding, but for a 9
--     Closing    `close_one`, `close_when`, `closed_again`: a close changes one byte; when it is refused
--     Stored     `kind_stored`: the kind that is told of a record is, by its number, the one that it stores
--     Examples   the rules of L7, each on one small book
pub mod Good
pub mod Rising
pub mod Answers
pub mod First
pub mod Live
pub mod Grows
pub mod Going
pub mod Closing
pub mod Stored
pub mod Examples
