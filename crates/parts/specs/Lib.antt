-- The part of one device (02, change 8): its events alone, with all distances among these and point 0, planned with the same weights. Rests on `ticket` and
-- `temporal`.
--
-- Believe two files; everything else is proved of them.
--   Part      the device's events, the part's network, its plan and total, the five totals, the device's windows in a set of windows, and tickets
--             of which no rule joins events of two devices
--   Parting   a part as bytes, and the call as a function of all that it is lent: 10, then 4 for the device, then 1 to 8 as the ticket is read, then 9
--
-- Which theorem answers which sentence.
--   "take one device's events": in Members, they rise (`members_rising`), each is owned by the device (`member_owned`), all are there (`owned_member`).
--   "keep all distances among these and point 0": `part_distance`; the part of a ticket with a schedule has one (`part_schedule`, `part_consistent`).
--   "plan that part with the same weights": the part's plan is the widest of its fit sets, and of these the earliest (`part_chosen`).
--   "A part is written as a 2-byte count, then each event's number in a byte, open and close as in the record, rising": its length (`part_size`), that it is read
--   back (`part_read`), the events in it (`numbered_events`), a device without events (`part_empty`).
--   "The five part totals sum to no less than the whole total": `parts_at_least`; of five calls on bytes `five_at_least`.
--   "Where no rule joins events of two devices, the sum equals it, and the part windows are the windows of the whole plan": `parts_equal`; of five calls on
--   bytes, as the parts are read back, `five_equal`.
--   "A device above 4 gets 4, after 10", "Impossible tickets get 9": in Parted, of any bytes, `part_refusal`, `part_number`, `part_nine`; a refusal returns zeros
--   and leaves the output (`part_zeros`); any other call is as `Parted` says (`part_written`).
--   "for P1 it is 30 0 11 0 0": `p1_totals`; the five calls on P1's bytes are `examples_hold`.
-- For the code: AllRules has the laws of the part's rules in their order, PartEarliest that the earliest times of its events are a schedule of the part.
-- Examples has the parts of P1, and a ticket whose plan follows from its parts; OneEvent has the law by which both are known.
pub mod Part
pub mod Members
pub mod PartEarliest
pub mod PartTotal
pub mod Parting
pub mod Parted
pub mod Examples
