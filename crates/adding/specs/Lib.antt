-- Adding a record.
--     Adding   what adding answers and leaves, closing up among it
pub mod Adding
