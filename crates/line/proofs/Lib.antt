-- Laws of a line.
--     Line    the line of a word, from the encoder's answer; `too_long_line`, `not_ascii_line`, `taken_line`: which it is
--     Place   bytes stored in a buffer; the parts of a line as they come to lie
--     Codes   what comes back of the lent part, and the codes of an accepted word
pub mod Line
pub mod Place
pub mod Codes
