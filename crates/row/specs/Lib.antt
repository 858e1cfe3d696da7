-- Numbers: a visit as a row, and a row as numbers.
pub mod Numbers
