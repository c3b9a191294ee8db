pub mod AcceptedAnswers
pub mod ExampleSession
