pub mod CommandLine
pub mod OptionValues
pub mod WorkedCommands
