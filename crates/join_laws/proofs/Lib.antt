-- What holds of the join.
--     Afresh    `join_afresh`: where the stored codes are right, the pairs are those of encoding all names afresh
--     Listing   `join_all_pairs`: a pair is listed exactly when two records with its stations agree
--     Order     `join_in_order`, `join_once`: the pairs of two books that read rise, and none appears twice
pub mod Afresh
pub mod Listing
pub mod Order
