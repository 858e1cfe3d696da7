-- What has nothing to do with words.
--     Same   two lists are equal, as a test
pub mod Same
