-- High: bytes of 128 or more, and the place of the first.
pub mod High
