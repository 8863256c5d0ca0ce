-- What the program `chain` prints: the load, the commands that name it, and the number that the input asks for. Assumes nothing.
pub mod Chain
pub mod Commands
pub mod Asked
pub mod Printed
pub mod Parse
pub mod Few
