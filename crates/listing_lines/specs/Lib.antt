pub mod Lines
pub mod Blanks
pub mod Form
pub mod Answers
pub mod Printed
