pub mod Serving
pub mod Limits
pub mod Reading
pub mod BatchSteps
pub mod HeadSteps
pub mod PairStages
pub mod PlaceSteps
