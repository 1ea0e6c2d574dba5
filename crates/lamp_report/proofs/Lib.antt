mod Finding
mod Fronts
mod Writing
