-- A station closed.
--     Closed   what a close answers and leaves
pub mod Closed
