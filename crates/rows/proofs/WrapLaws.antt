-- Laws of differences and sums in 32 and 64 bits: they are what the wrapping operations give, and how large they are.
use Rattle.std.proofs.Common.{◌≡◌, ℕ, ◌+◌, ◌-◌, ◌%◌, ◌<◌, ◌≤◌, Bool, cond, List, get_or, sym, ap, ap₂, ◌∙◌, subst, arith, le-ltb, lt-ltb}
use Rattle.rows.specs.Shifts.{cost_end, half_end, word_end, less, above, above_at, between_at, rise, fall}

-- ---- costs

pub less_is : (a b : ℕ) → b < cost_end → (a + (cost_end - b)) % cost_end ≡ less a b
unfolding less
less_is a b low = ap (λ (n : ℕ). n % cost_end) (omega arith)

pub above_low : (a b r : ℕ) → r ≡ less a b → r < half_end → r ≡ above a b
unfolding above
above_low a b r e l = e ∙ sym (ap (λ (t : Bool). cond t (less a b) 0) (lt-ltb (less a b) half_end (subst (λ (r : ℕ). r < half_end) e l)))

pub above_high : (a b r : ℕ) → r ≡ less a b → half_end ≤ r → 0 ≡ above a b
unfolding above
above_high a b r e g = sym (ap (λ (t : Bool). cond t (less a b) 0) (le-ltb (less a b) half_end (subst (λ (r : ℕ). half_end ≤ r) e g)))

-- what a cost is above one, and above one and not above another, as it is taken in a column of a row
pub above_taken : (costs : List ℕ) (low i p : ℕ) → p ≡ above (get_or costs i 0) low → p ≡ above_at costs low i
unfolding above_at
above_taken costs low i p e = e

pub between_taken : (costs : List ℕ) (low high i p q : ℕ) → q < cost_end → p ≡ above (get_or costs i 0) low → q ≡ above (get_or costs i 0) high
    → (p + (cost_end - q)) % cost_end ≡ between_at costs low high i
unfolding between_at
between_taken costs low high i p q small e f = less_is p q small ∙ ap₂ less e f

-- ---- sums

pub rise_is : (by : ℕ → ℕ) (i d sum : ℕ) → d ≡ by i → (sum + d) % word_end ≡ rise by i sum
unfolding rise
rise_is by i d sum e = ap (λ (d : ℕ). (sum + d) % word_end) e

pub fall_is : (by : ℕ → ℕ) (i d sum : ℕ) → d < word_end → d ≡ by i → (sum + (word_end - d)) % word_end ≡ fall by i sum
unfolding fall
fall_is by i d sum small e = ap (λ (n : ℕ). n % word_end) (omega arith)
