-- FarmNearestLaws: a farm's nearest yard, on its stretch and on the sheet. SheetCostLaws: what a set costs on a sheet.
-- PlanRecordLaws: the records of a plan. PlanSetLaws: a plan's set, read off its records. PlanFarmLaws: where a farm is sent, read off its record.
pub mod FarmNearestLaws
pub mod SheetCostLaws
pub mod PlanRecordLaws
pub mod PlanSetLaws
pub mod PlanFarmLaws
