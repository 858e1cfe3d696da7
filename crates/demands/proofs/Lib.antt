-- The demands, proved of the encoder.
--     Agree     `code_agrees`, `answer_agrees`: where the editions agree
--     Demand2   `code_accepted`, `code_walked`: demand 2
--     Demand3   `code_unlimited`, `code_limited`, `code_limited_one`, `code_reaches`: demand 3
--     Part      `chosen_code_lem`: after an accepted call the part handed back is the chosen code
--     Room      with room for any code neither buffer is too short
--     Table     `unchanged`: a refusal changes neither buffer
pub mod Agree
pub mod Demand2
pub mod Demand3
pub mod Part
pub mod Room
pub mod Table
