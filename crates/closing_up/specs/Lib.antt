-- A book closed up.
--     Up   what closing up makes of a part of a room
pub mod Up
