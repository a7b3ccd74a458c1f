pub mod Numbers
pub mod NumbersLaws
pub mod Refusals
-- numbers decided by tests one after the other
pub mod Tests
pub mod Chain
