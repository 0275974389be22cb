-- Walks and paths along the rules of a ticket. Rests on `temporal`, and on `ticket` for its struct; no code stands here.
--
-- Believe two files.
--   Rules     all rules of a ticket with their numbers, the unwritten ones too (02, change 2), walks along them, and sums of bounds
--   Shortest  the shortest path between two points by some inner points, and the stops already taken (02, change 3)
-- Walks has the laws. The numbers are 02's: `rule_written`, `rule_back`, `rule_out`. In a schedule no walk is exceeded: `schedule_walk`.
-- Where there is a path there is one of at most n + 1 rules: `short_path` (Shortest), by Repeats, where a list has a number twice.
-- Structs: the rules that a ticket's struct holds, by their numbers.
pub mod Rules
pub mod Walks
pub mod Repeats
pub mod Shortest
