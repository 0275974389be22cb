-- What crate edge rests on. To believe its contracts read in Limit the record EdgeFits, in Slack slack_of, Leaves and the record LeastSlack, in Height Under and the
-- record Height, in Depth Over and the record Depth, in Headroom Room, Rise, BoxRise and the records Headroom and BoxRoom; of crate network Stored and Index. The rest are steps of the proofs.
pub mod Limit
pub mod Slack
pub mod Height
pub mod Depth
pub mod Headroom
