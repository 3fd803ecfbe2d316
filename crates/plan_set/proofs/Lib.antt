-- OpenedLaws: a loop over records collects their yards.
pub mod OpenedLaws
