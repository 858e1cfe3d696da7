-- Laws of a join's pairs.
--     Listed     records as they lie in scratch words, and under words that are kept
--     Order      `pairs_rise`: books whose stations rise give pairs that rise, so each appears once
--     Fresh      `afresh`: codes cut at two lengths give the pairs of whole codes cut at the smaller
--     NoChoice   no public function's promise leaves a choice
pub mod Listed
pub mod Order
pub mod Fresh
pub mod NoChoice
