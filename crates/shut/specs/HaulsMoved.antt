-- For private functions: what a farm costs at the yard that shuts, and what it costs elsewhere; nothing where it goes to another yard.
use Rattle.std.specs.Prelude.{ℕ, ◌*◌, eqb, List}
use Rattle.model.specs.Loops.{on}
use Rattle.model.specs.Sets.{member}
use Rattle.model.specs.Instance.{nearest, assigned}
use Rattle.model.specs.Closing.{second_cost}
use Rattle.questions.specs.Sheet.{farm_byte, loads_of, instance_by}

abbrev pub farm_there : List ℕ → ℕ → ℕ → ℕ → ℕ → ℕ → ℕ
farm_there s m n set yard farm =
    on (eqb (assigned (instance_by s m n) (member set) farm) yard) (loads_of (farm_byte s m farm) * nearest (instance_by s m n) (member set) farm)

abbrev pub farm_elsewhere : List ℕ → ℕ → ℕ → ℕ → ℕ → ℕ → ℕ
farm_elsewhere s m n set yard farm =
    on (eqb (assigned (instance_by s m n) (member set) farm) yard) (loads_of (farm_byte s m farm) * second_cost (instance_by s m n) (member set) farm)
