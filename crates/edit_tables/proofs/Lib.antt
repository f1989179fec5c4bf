pub mod EmptyColumns
