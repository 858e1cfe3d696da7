-- Laws of the book.
--     Book       writing and reading are one form: round trip, and one book for each list of records
--     Entries    records that read: one, and those behind it
--     Measured   from one record to the next, to the end of the book
--     Opening    the header and the whole book
--     Room       a book in the first bytes of lent room
--     NoChoice   no public function's promise leaves a choice
pub mod Book
pub mod Entries
pub mod Measured
pub mod Opening
pub mod Room
pub mod NoChoice
