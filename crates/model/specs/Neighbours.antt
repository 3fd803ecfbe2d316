-- The neighbourhoods of a set of facilities below m: the lists of the sets that one move makes of it, in document 01's order.
use Rattle.std.specs.Prelude.{ℕ, cond, List, [], ◌∷◌, ◌++◌, leb}
use Rattle.model.specs.Loops.{join}
use Rattle.model.specs.Sets.{count, member, with, without}

-- "Add each closed yard, by number."
unfoldable pub add_at : ℕ → ℕ → List ℕ
add_at set i = cond (member set i) [] (with set i ∷ [])

unfoldable pub adds : ℕ → ℕ → List ℕ
adds m set = join m (add_at set)

-- "Drop each open yard, by number, only while two or more are open."
unfoldable pub drop_at : ℕ → ℕ → List ℕ
drop_at set i = cond (member set i) (without set i ∷ []) []

unfoldable pub drops : ℕ → ℕ → List ℕ
drops m set = cond (leb 2 (count m (member set))) (join m (drop_at set)) []

-- "Swap one open yard out for one closed yard in, by the number going out, then the number coming in."
unfoldable pub swap_at : ℕ → ℕ → ℕ → List ℕ
swap_at set o i = cond (member set i) [] (with (without set o) i ∷ [])

unfoldable pub swaps_out : ℕ → ℕ → ℕ → List ℕ
swaps_out m set o = cond (member set o) (join m (swap_at set o)) []

unfoldable pub swaps : ℕ → ℕ → List ℕ
swaps m set = join m (swaps_out m set)

-- the moves of an open plan; those of a limited plan are `swaps` alone
unfoldable pub add_drop_swap : ℕ → ℕ → List ℕ
add_drop_swap m set = adds m set ++ drops m set ++ swaps m set
