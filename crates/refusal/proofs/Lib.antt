pub mod Steps
pub mod First
pub mod Numbers
