pub mod Words
pub mod Parsing
pub mod ParsingLaws
