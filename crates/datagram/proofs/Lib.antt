pub mod Passing
pub mod Taking
pub mod Fields
pub mod Places
pub mod Accepted
pub mod Bodies
