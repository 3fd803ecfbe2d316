-- ColumnLaws: adding a row to the sums of its columns, and all rows.
mod ColumnLaws
