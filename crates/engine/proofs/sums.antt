-- KeptPlaceLaws: places stored in the kept table. SumChangeLaws: the sums as a client's two nearest change.
mod KeptPlaceLaws
mod SumChangeLaws
