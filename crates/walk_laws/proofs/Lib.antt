-- Demand 3, for any rule.
--     Bound   demand 3's bound for any rule that keeps the laws, and for ours
--     Limit   demand 3 for any rule: a code under a limit, and the fewest visits
--     Reach   the bound is reached
pub mod Bound
pub mod Limit
pub mod Reach
