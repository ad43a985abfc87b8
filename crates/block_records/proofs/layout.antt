pub mod EqualityLaws
pub mod EntryLaws
pub mod TidyLaws
pub mod QuestionLaws
