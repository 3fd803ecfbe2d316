-- Opened: the yards in the first records of an area, for private functions alone. The call's definition is `plan_set` of `plan_area`.
pub mod Opened
