-- PlanCostLaws: what the searches of the two plans go by. KindLaws: each kind's cost, moves and total. OutcomeLaws: what every search keeps, and how one that
-- is cut goes on. PlanningLaws: the cases of the call. OfSearchLaws: what is promised of the set in the area. SheetTableLaws: the tables that a sheet is
-- read into.
pub mod SheetTableLaws
pub mod KindLaws
pub mod PlanCostLaws
pub mod OutcomeLaws
pub mod PlanningLaws
pub mod UnlimitedLaws
pub mod OfSearchLaws
