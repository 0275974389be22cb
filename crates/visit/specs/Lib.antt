-- What crate visit rests on. To believe its contracts read Search (`Search`, what holds while a search goes on, and `started` and `joined`) and Visit (what visiting an edge asks and leaves);
-- of crate network Stored.
-- Search.search_start, search_lower, search_join, search_farther, search_next: the steps of a search. Visit.visit_into, visit_back, visit_pair: an edge that is visited is relaxed.
pub mod Search
pub mod Visit
