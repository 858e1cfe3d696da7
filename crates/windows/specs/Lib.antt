-- What a window test means.
--     Window   a window of a word and the texts it is compared with
pub mod Window
