pub mod GivenUp
pub mod RoomsLaws
pub mod SharesMade
