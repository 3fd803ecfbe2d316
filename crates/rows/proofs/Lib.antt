-- ChangeLaws: tables some columns of which are changed, place by place. WrapLaws: differences and sums in 32 and 64 bits.
-- CallLaws: what the calls answer in each case. ExactLaws: what they answer where nothing wraps, which a caller cites.
pub mod ChangeLaws
pub mod WrapLaws
pub mod CallLaws
pub mod ExactLaws
