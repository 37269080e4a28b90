pub mod Telling
pub mod ToldTypes
pub mod ToldConstants
pub mod Parts
pub mod Earliest
pub mod PlaceByPlace
pub mod InstPlaces
pub mod AllPlaces
