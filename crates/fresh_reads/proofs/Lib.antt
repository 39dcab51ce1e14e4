pub mod FreshAnswers
