-- What crate schedule rests on. To believe the contract of `schedule` read in Times the record Timed, in Schedule the records Low and `Decided`; that of `admit_rule` is admit's `Admits`. The rest are laws.
-- Times.schedule_timed, timed_schedule: the times of a schedule, there and back. Schedule.tried_more, tried_none: a rule more, or none with it. Relax: which rules hold as times are raised.
pub mod Times
pub mod Schedule
pub mod Relax
