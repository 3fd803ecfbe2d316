-- OnePassLaws: what the tests of the pass say of a sheet.
mod OnePassLaws
