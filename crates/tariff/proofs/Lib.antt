-- BandBytes: a band as the bytes of its record. BandLaws: what bands charge is monotone and at most additive. StartLaws: a haul from the cost at
-- its band's start. QuestionLaws: questions 11 and 12, and what an accepted tariff promises. MakingLaws: a tariff made of its bands prices as they
-- do. HouseLaws: the house tariff and its table of band starts. PassedLaws: the bands of a block of distances. Limits: the numbers of questions 11
-- and 12, computed.
pub mod BandBytes
pub mod BandLaws
pub mod StartLaws
pub mod QuestionLaws
pub mod MakingLaws
pub mod HouseLaws
pub mod PassedLaws
pub mod Limits
