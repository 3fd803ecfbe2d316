-- ShuttingBy: a farm's second yard by a tariff, and what shutting a yard changes.
pub mod ShuttingBy
