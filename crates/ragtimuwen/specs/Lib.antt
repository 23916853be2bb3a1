pub mod Solvable
pub mod Printed
