-- Laws of closing a station.
--     Closed     closing a station, from what the function's tests show
--     NoChoice   no public function's promise leaves a choice
pub mod Closed
pub mod NoChoice
