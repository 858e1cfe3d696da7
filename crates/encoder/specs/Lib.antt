-- The encoder.
--     Encode    what `encode` promises: the answer and both buffers, for every input
--     Table     document 01's table: each number exactly when
pub mod Encode
pub mod Table
