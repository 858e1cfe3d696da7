-- Laws of a record with its kind.
--     Entry      a record and its kind are forms
--     Records    a kind and a record, and what was told of them
--     Told       the parts of a record, as the code tells them
--     Parts      `entry_parts_lem`: the parts that are told are the record's name and codes
--     NoChoice   no public function's promise leaves a choice
pub mod Entry
pub mod Records
pub mod Told
pub mod Parts
pub mod NoChoice
