-- What crate demands rests on. To believe its contracts read Rules (SmallRule, Tests, `Obeyed`) and Network (Order, Ruled, `Built`, Limits), and what crate
-- network says of stored edges (Edges); the rest are laws.
-- Rules.ends_obeyed, obeyed_ends: windows within the horizon are fit exactly when their potential obeys the rules.
-- The laws hold of a struct with any limit on its rules (potentials' Held), that of a ticket or that of a part.
-- Network.feasible_meeting, meeting_feasible: a potential is feasible exactly when it lies within the boxes, in order, and obeys the rules.
pub mod Cost
pub mod Rules
pub mod Network
