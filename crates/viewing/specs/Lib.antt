-- Who may see what of a record (02, change 11). Rests on `temporal` (whose an event is), `ticket` (what bytes hold) and `runs` (the commitment on bytes); no code
-- stands here.
--
-- Believe one file, and the statement at the head of another; everything else is proved of them.
--   View              what a caller sees, its bytes, and the call as a function of all that it is lent: 10, then 19, then 1 to 8 and 14 as the record is
--                     read, then 15
--   Noninterference   its section "the statement": two records that are the same to a device, and what follows
--
-- Which theorem answers which sentence.
--   "A device sees the windows and flags of its own events": in Laws, an entry for each event that the caller may see (`seen_all`), and for no other
--   (`seen_only`); "the database sees all": `seen_database`; a device without events sees none (`seen_none`).
--   "A view is a 2-byte count, then each event's number in a byte and its window as in the record, rising": it rises, so no event stands in it twice
--   (`seen_rising`); its length (`length_view`, `view_fits`); it is bytes (`view_bytes`), and what is seen is read back from it (`view_read`); with no event it is
--   0 0 (`view_none`).
--   "a record's refusals, 15 included, come before it", "19, caller above 4, after 10": in Viewed, of any bytes, `view_refusal`; a refusal returns length 0 and
--   leaves the output (`view_zeros`); any other call is as `Shown` says (`view_shown`). In a run every current record is shown (`current_shown`).
--   "For two readable records with fit windows, outputs and scratch long enough, in which a device other than the database has the same event numbers, windows,
--   flags and commitment number, its view and the number answered to its commitment are equal": `noninterference`; of states `same_view` and `same_number`.
--   "A device commits only its own events, the database included" is `temporal`'s: the cause 20 in Plan, and `own` of `Acceptable` in the theorem over runs.
-- Examples has the views of P1's and P2's records and the refusals (`views_hold`), and two records that differ and are the same to the camera (`camera_same`).
pub mod View
pub mod Laws
pub mod Viewed
pub mod Noninterference
pub mod Examples
