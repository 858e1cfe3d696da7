-- Runs of stations.
--     Runs   runs of stations, one a key
pub mod Runs
