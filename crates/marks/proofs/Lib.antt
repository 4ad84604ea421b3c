pub mod Marks
pub mod Answers
pub mod MarkLaws
pub mod Fronts
pub mod Row
pub mod Texts
