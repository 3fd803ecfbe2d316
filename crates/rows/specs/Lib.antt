-- Shifts: what each call makes of the sums it is lent, `shifted`, `shifted_in` and `shifted_out`, and how many columns a row has.
pub mod Shifts
