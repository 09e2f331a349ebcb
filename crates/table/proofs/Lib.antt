-- Laws of the check's places (Places), of its answers (Answers), what an accepted image meets (Facts), what is asked before
-- the rows (Front), examples by computation (Examples) and a wrong check refuted (Wrong).
pub mod Places
pub mod Answers
pub mod Facts
pub mod Front
pub mod Examples
pub mod Wrong
