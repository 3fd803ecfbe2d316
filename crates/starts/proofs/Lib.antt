-- StartLaws: the question of a start, and that one which passes it is a set of facilities that is not empty.
pub mod StartLaws
