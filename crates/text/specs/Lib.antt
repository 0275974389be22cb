-- What crate text rests on: the text of numbers, lines and records (Text), and how it is stored (Stores).
pub mod Text
pub mod Stores
