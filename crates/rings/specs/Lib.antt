-- Why a ticket is impossible (02, change 2): the ring of rules that is printed. Definitions, and their theorems; nothing here runs.
--
-- Believe one file; everything else is proved of it.
--   Ring      rings of rules; the fewest rules; the ring that is printed
-- It uses the rules with their numbers and walks along them of `paths`, and the words of Order (seek, before, firstOf) and of Turns (is_lowest), which say what
-- they seem to. Examples shows it at work.
--
-- Which theorem answers which demand.
--   A ring is there exactly where there is no schedule, and then one of at most n + 1 rules: `ring_refutes`, `schedule_or_ring`, `ring_iff` (Schedules). One that
--   meets a point twice is not the shortest: `shorter` (Shorten).
--   The printed ring is a ring, none has fewer rules, it starts at its lowest number, and every other such comes after it: `ring_printed`; it is the only
--   such list: `printed_ring`; its points and rules are all different: `ring_points`, `ring_differ`; it has at most 41 rules: `ring_valid`. A ring of the
--   fewest rules can be started at its lowest number in one way only: `started_once`. Where a schedule exists it is []: `ring_none`, `fewest_zero` (Printed).
--   For the code: the least cost of a walk of r rules is attained and the least, and is found by rounds over the rules: `walks_least`, `walks_attained`,
--   `walks_more`, `walks_ring` (Costs). The ring is found rule by rule: `shortest_fewest`, `ring_greedy`, `ring_found`; one step of the search:
--   `starts_some`, `greedy_more`, `continues_some`, `rest_more` (Greedy).
pub mod Order
pub mod Turns
pub mod Ring
pub mod Loops
pub mod Printed
pub mod Costs
pub mod Greedy
pub mod Examples
