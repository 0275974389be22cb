-- The table of a ticket after some of its stops, on bytes (02, change 3). Rests on `closure`, `paths`, `ticket` and `temporal`.
--
-- Believe After: the call as a function of all that it is lent. What the numbers in its output are is proved in Meant: the shortest paths by the stops taken,
-- and the largest number of all where there is no such path (`working_means`), that they are 0 from a point to itself
-- (`working_self`), in what range they lie (`working_range`), and that they are the distances after all stops (`working_distance`). Worked says it of whole calls on any bytes: `after_refusal`, `after_leaves`, `after_worked`. Examples shows P1 stop by stop.
-- Steps has what the code has answered and written at each of its returns.
pub mod After
pub mod Meant
pub mod Worked
pub mod Examples
