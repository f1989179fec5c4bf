pub mod ProblemTexts
