pub mod Commands
pub mod Laws
pub mod Tests
pub mod Words
