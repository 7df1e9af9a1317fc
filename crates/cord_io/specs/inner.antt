pub mod Answers
pub mod Functions
pub mod Memory
pub mod Missing
pub mod ReadAhead
pub mod SinkAnswers
