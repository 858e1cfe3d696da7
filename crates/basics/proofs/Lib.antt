-- Laws that every layer may use.
--     Choice     what it is for a promise to leave no choice
--     Tests      tests that hold and fail, taken apart
--     Every      a test that holds of every member of a list
--     Computed   tests that antt computes, one number after the other
--     Same       two lists that are equal by test
--     Sets       two writings, one behind the other, are one
--     Takes      as many of a list's first members as there are
pub mod Choice
pub mod Tests
pub mod Every
pub mod Computed
pub mod Same
pub mod Sets
pub mod Takes
