-- For private functions: how many of the first ends each distance of a block is past.
use Rattle.std.specs.Prelude.{ℕ, ◌<◌, ◌≡◌, List, get_or, ltb}
use Rattle.model.specs.Sets.{count}
use Rattle.tariff.specs.Bounds.{block}

unfoldable pub passed_of : List ℕ → ℕ → ℕ → ℕ
passed_of ends i distance = count i (λ j. ltb (get_or ends j 0) distance)

-- of the first i ends
abbrev pub Counted : List ℕ → List ℕ → ℕ → List ℕ → Type 0
Counted ends distances i passed = (k : ℕ) → k < block → get_or passed k 0 ≡ passed_of ends i (get_or distances k 0)
