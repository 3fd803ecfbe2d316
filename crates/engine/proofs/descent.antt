-- SingleFacilityLaws: what a facility costs alone. NextSetLaws: what the functions that go through the moves take is the model's next set.
mod SingleFacilityLaws
mod NextSetLaws
