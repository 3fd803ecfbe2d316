-- EndLaws: on tables filled from a sheet the engine ends where the sheet's search does.
mod EndLaws
