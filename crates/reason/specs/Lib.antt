-- What crate reason rests on. To believe its contracts read `reasons`' Reasoning, `returned` and `told` here, and `ticket`'s Refusal; Steps has the laws.
pub mod Returned
pub mod Steps
