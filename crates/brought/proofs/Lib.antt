pub mod SpreadRows
