-- What the search finds.
pub mod First
pub mod Places
