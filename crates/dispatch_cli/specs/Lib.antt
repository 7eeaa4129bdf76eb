pub mod Arguments
pub mod ArgumentsExamples
