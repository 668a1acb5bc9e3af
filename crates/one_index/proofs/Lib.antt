mod LabelPlaces
mod MergeLaws
mod Neighbours
mod Uniform
mod Built
