-- Laws of fields.
--     Law        what makes a form; two forms, one behind the other, are a form
--     Forms      a judged number and a judged text are forms
--     All        readings one after another, up to the end
--     Told       from answers to readings and back
--     Stays      what is shown does not change with what stands behind it
--     Faults     which faults a reading can give
--     Put        bytes put one behind the other
--     NoChoice   no public function's promise leaves a choice
pub mod Law
pub mod Forms
pub mod All
pub mod Told
pub mod Stays
pub mod Faults
pub mod Put
pub mod NoChoice
