-- Chains of records.
--     Chain   slots and chains
pub mod Chain
