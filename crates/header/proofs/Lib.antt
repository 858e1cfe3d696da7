-- Laws of the header.
--     Head       the header is one form; known formats and editions
--     Opening    each return of `open`
--     NoChoice   no public function's promise leaves a choice
pub mod Head
pub mod Opening
pub mod NoChoice
