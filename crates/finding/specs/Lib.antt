-- Finding: the live record of a station, and where its kind stands.
pub mod Finding
