-- What crate ring_text rests on. To believe its contract read `reasons`' Text (`ring_text`); the rest are laws.
--   Sheet   what the writers are lent, the text by it, and that it is the ticket's: `sheet_text`, `sheet_writable`
--   Lines   the lines as the code puts them, and what holds of the first rule that is left
pub mod Sheet
pub mod Lines
