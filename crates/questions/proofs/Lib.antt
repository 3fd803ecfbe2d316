-- FormLaws: what questions 1 to 4 say. QuestionLaws: which part of a question decides it. ReadingLaws: each number comes exactly when its
-- question is the first "no". AcceptedLaws: what an accepted sheet has, and the door. SameFormLaws: two sheets that differ in amounts alone. AmountLaws: a fee and loads times an
-- amount, as code reads them. CostBounds: its costs fit four bytes. Limits: document 01's numbers, computed.
pub mod RangeLaws
pub mod QuestionLaws
pub mod ReadingLaws
pub mod FormLaws
pub mod AcceptedLaws
pub mod SameFormLaws
pub mod AmountLaws
pub mod CostBounds
pub mod Limits
