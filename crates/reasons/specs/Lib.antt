-- Why a ticket is impossible, in words (02, change 2). Definitions, and their theorems; no code stands here.
--
-- Believe two files, in this order, and what they name of `rings` (the ring), `paths` (the rules by their numbers) and `names` (lists of names).
--   Text       the lines, and the text of a ring
--   Reasoning  the call as a function of all that it is lent: what is returned, what the output holds afterwards
-- The theorems:
--   Reading   numbers and bounds are read back from a text (`read_back`), so a text tells those of one ring only (`text_tells`)
--   Size      2,200 bytes hold the text of a ring of at most 41 rules (`text_size`)
--   Reasoned  the call refuses exactly where a cause applies, under the number of the first (`reason_refusal`), with length 0 and the output as it was
--             (`reason_zeros`), never with 9 (`reason_not_nine`); otherwise it prints the ring (`reason_printed`), which is read back from the output
--             (`reason_reads`); with its lists a ticket gets the ring or 17, and never both (`ring_or_schedule`)
-- Examples shows the definitions at work: the impossible tickets of 01's P6 and P7, and P1, on bytes (`examples_hold`).
pub mod Text
pub mod Reading
pub mod Reasoning
pub mod Reasoned
pub mod Examples
