-- Laws of the search.
pub mod FirstLaws
