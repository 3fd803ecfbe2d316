-- The theorems' hypotheses can be met: on three facilities and three clients, a set that no add, drop or swap makes cheaper, a pair that no swap
-- makes cheaper, and what the theorems then say beside a rival. All by computation.
use Prim.Native.Nat.{ℕ, zero, suc, ◌*◌, ◌≤◌, ◌<◌}
use native.Mathlib.Omega.{arith}
use mathlib.Core.Path.{◌≡◌, refl, sym}
use mathlib.Core.Bool.{Bool, true, false, true≢false}
use lib.Dec.{lit≤, eqb}
use Rattle.model.specs.Loops.{sum}
use Rattle.model.specs.Least.{any, least}
use Rattle.model.specs.Sets.{plus, minus, trade}
use Rattle.model.specs.Instance.{nearest, opening_cost, service_cost, total_cost}
use Rattle.model.proofs.Example.{example, example_metric}
use Rattle.bounds.specs.Optimum.{OpenOptimum, OpenBounded, LimitedOptimum}
use Rattle.bounds.proofs.Theorems.{open_bound, limited_five}
use Rattle.bounds.proofs.Lists.{list_optimum_one}

-- ---- all three open

abbrev all : ℕ → Bool
all i = true

drop_any : (f : ℕ) → f < example.facilities → total_cost example all ≤ total_cost example (minus all f)
unfolding example total_cost opening_cost service_cost nearest least any sum
drop_any zero l = lit≤ tt
drop_any (suc zero) l = lit≤ tt
drop_any (suc (suc zero)) l = lit≤ tt
drop_any (suc (suc (suc f))) l = absurd (omega arith)

pub example_open : OpenOptimum example all
example_open =
    record { add = λ o l e. absurd (true≢false e); drop = λ f l e two. drop_any f l; swap = λ f o l e k d. absurd (true≢false d) }

-- beside facility 1 alone: 3 ≤ 4 + 9 and 7 ≤ 4 + 2 * 9
pub example_open_bound : OpenBounded example all (eqb 1)
unfolding example any
example_open_bound = open_bound example example_metric all (eqb 1) refl refl example_open

-- ---- facilities 1 and 2

abbrev pair : ℕ → Bool
pair = plus (eqb 1) 2

only_zero : (o : ℕ) → o < example.facilities → pair o ≡ false → o ≡ 0
unfolding example
only_zero zero l e = refl
only_zero (suc zero) l e = absurd (true≢false e)
only_zero (suc (suc zero)) l e = absurd (true≢false e)
only_zero (suc (suc (suc o))) l e = absurd (omega arith)

swap_zero : (f : ℕ) → f < example.facilities → pair f ≡ true → service_cost example pair ≤ service_cost example (trade pair f 0)
unfolding example service_cost nearest least any sum
swap_zero zero l e = absurd (true≢false (sym e))
swap_zero (suc zero) l e = lit≤ tt
swap_zero (suc (suc zero)) l e = lit≤ tt
swap_zero (suc (suc (suc f))) l e = absurd (omega arith)

pub example_limited : LimitedOptimum example 1 pair
example_limited = list_optimum_one example pair (λ f o lf ef lo eo. rw (only_zero o lo eo) (swap_zero f lf ef))

-- beside facilities 0 and 2: 5 ≤ 5 * 7
pub example_limited_bound : service_cost example pair ≤ 5 * service_cost example (plus (eqb 0) 2)
unfolding example sum
example_limited_bound = limited_five example example_metric 2 pair (plus (eqb 0) 2) refl (lit≤ tt) (lit≤ tt) example_limited
