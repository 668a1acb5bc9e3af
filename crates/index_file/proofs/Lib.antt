mod Examples
mod ListedEdges
mod GraphPartLaws
mod RankedBlocks
mod DecimalLaws
mod WordLaws
mod StepLaws
mod ReadLabelLaws
mod ReadNodeLaws
mod LineLaws
mod ReadEdgeLaws
mod ReadViewLaws
mod ReadRankLaws
mod DraftLaws
mod SavedEdges
mod SavedLaws
mod SavedViewLaws
mod OneStatement
mod OneOutcome
mod ReadSpelled
mod Matches
mod WrittenLines
mod TakenTexts
mod TestedRanks
mod WrittenLabels
mod WrittenNodes
mod WrittenEdges
mod WrittenViews
mod WrittenOrder
mod WrittenHeads
pub mod SpelledFiles
pub mod OneFile
pub mod KeptFiles
pub mod FittingFiles
pub mod LabelledGraphs
mod WrittenExamples
