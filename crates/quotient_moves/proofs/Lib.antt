mod Moved
mod OneNodeGraphs
