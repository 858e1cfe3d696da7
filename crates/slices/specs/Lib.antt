-- Parts of slices.
--     Parts   the bytes of a part
pub mod Parts
