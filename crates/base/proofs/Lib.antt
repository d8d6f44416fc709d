-- Their laws, in reading order: tests and what they mean, sums over years, lists, stores into a list, numbers in bytes, answers, and a
-- call with a rule of its own behind an earlier answer.
pub mod TestLaws
pub mod TallyLaws
pub mod ListsLaws
pub mod StoreLaws
pub mod NumberLaws
pub mod AnswerLaws
pub mod OutcomeLaws
pub mod CallLaws
