pub mod WorkedFaults
