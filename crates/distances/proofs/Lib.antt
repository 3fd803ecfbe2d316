-- PricedLaws: the sheet of hauls, record by record. FormKept: it has the form and the loads of the sheet of distances. ReachLaws: question 13,
-- and the sheet of hauls where it passes or not. BlockLaws: the pass over the records. CallLaws: calls by a tariff.
-- HaulLaws: what a buyer reads off the sheet of hauls.
pub mod PricedLaws
pub mod FormKept
pub mod ReachLaws
pub mod BlockLaws
pub mod CallLaws
pub mod HaulLaws
