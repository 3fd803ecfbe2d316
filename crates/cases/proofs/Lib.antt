-- MarkedCases: one table of calls and answers. CaseBytes: the bytes that it is written with. LimitedFloor: no single yard of sheet S hauls for less than 9.
-- LimitedFloorBy: the same for paper 3's example by the house tariff, and 4,680.
pub mod CaseBytes
pub mod MarkedCases
pub mod LimitedFloor
pub mod LimitedFloorBy
