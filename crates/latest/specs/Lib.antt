-- What crate latest rests on. To believe the contract of its public function read `PlannedFor`, which is windows' `Planned` for either plan. The rest are laws.
pub mod Latest
