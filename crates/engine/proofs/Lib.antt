-- CopiedTableLaws: the engine's own tables; crate `tables` has the laws of those that are lent.
-- NearLaws, MovedLaws: a client's two nearest, from set to set. ClientSumLaws: the sums that are kept.
-- ClientLaws: from client to client. MovePriceLaws: the sums price every move. ListedLaws, MoveLaws, BestMoveLaws: going through
-- the moves takes the best of them. DescentLaws: the search. FoundLaws: what the call's answer says.
pub mod ClientSumLaws
pub mod NearLaws
pub mod MovedLaws
pub mod MovePriceLaws
pub mod ClientLaws
pub mod ListedLaws
pub mod MoveLaws
pub mod BestMoveLaws
pub mod DescentLaws
pub mod CopiedTableLaws
pub mod FoundLaws
