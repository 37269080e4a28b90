mod Padding
mod PointsText
mod PointSearch
mod MarkLemmas
mod WalkLemmas
mod WindowLaws
mod PointsLaws
pub mod SortedLists
