-- A quicker test of metric service costs (document 02, paper 4): for each two facilities the cheapest route through a client, and
-- against it what the service costs of any client at the two differ by.
use Rattle.std.specs.Prelude.{ℕ, zero, suc, ◌+◌, ◌-◌, max, min, Bool, true, leb}
use Rattle.model.specs.Loops.{all_below}
use Rattle.model.specs.Least.{least}
use Rattle.model.specs.Instance.{Instance}

-- the greatest v i over the i below n; 0 where there is none
unfoldable pub greatest : ℕ → (ℕ → ℕ) → ℕ
greatest zero v = 0
greatest (suc n) v = max (v n) (greatest n v)

-- how far apart two numbers are
abbrev pub apart : ℕ → ℕ → ℕ
apart x y = max x y - min x y

-- the cheapest route between two facilities through one of n clients, by the clients' service costs at each
unfoldable pub route : ℕ → (ℕ → ℕ) → (ℕ → ℕ) → ℕ
route n x y = least n (λ p. true) (λ p. x p + y p)

-- the greatest difference between a client's service costs at the two
unfoldable pub spread : ℕ → (ℕ → ℕ) → (ℕ → ℕ) → ℕ
spread n x y = greatest n (λ q. apart (x q) (y q))

-- no client's service costs at the two differ by more than the cheapest route between them
unfoldable pub quick_pair : ℕ → (ℕ → ℕ) → (ℕ → ℕ) → Bool
quick_pair n x y = leb (spread n x y) (route n x y)

-- each two facilities once
unfoldable pub quick_metric : Instance → Bool
quick_metric I = all_below I.facilities (λ a. all_below a (λ b. quick_pair I.clients (I.service a) (I.service b)))

-- the cheapest route as a loop has it that begins with h: h where none is cheaper
unfoldable pub route_from : ℕ → ℕ → (ℕ → ℕ) → (ℕ → ℕ) → ℕ
route_from h zero x y = h
route_from h (suc n) x y = min (x n + y n) (route_from h n x y)
