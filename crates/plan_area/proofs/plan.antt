-- YardsAndFarmsLaws: writing the records of a plan's yards and farms.
mod YardsAndFarmsLaws
