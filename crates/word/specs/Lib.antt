-- What a trimmed word tells before it is walked.
--     Mark    the Slavo-Germanic mark
--     Start   the place of the first visit
pub mod Mark
pub mod Start
