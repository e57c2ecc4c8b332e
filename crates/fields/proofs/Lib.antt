pub mod Pairs
pub mod Heads
pub mod Bodies
pub mod Sensors
