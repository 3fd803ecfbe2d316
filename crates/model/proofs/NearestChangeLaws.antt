-- The nearest facility after a facility comes in, goes out, or both: read off the two least packed costs of a client.
-- A packed cost divided by 32 is the cost, so the least packed cost divided by 32 is the least cost.
use Prim.Native.Nat.{ℕ, zero, suc, ◌+◌, ◌*◌, ◌/◌, ◌%◌, ◌≤◌, ◌<◌, min}
use native.Mathlib.Nat.{le_trans, le-suc}
use native.Mathlib.Omega.{arith}
use mathlib.Core.Path.{◌≡◌, refl, sym, ap, ◌∙◌}
use mathlib.Core.Bool.{Bool, true, false, cond, not, ◌&&◌, and-false}
use lib.Dec.{eqb}
use Rattle.model.specs.Least.{any, least}
use Rattle.model.specs.TwoLeast.{Two, two_least, packed}
use Rattle.model.specs.Sets.{plus, minus, trade}
use Rattle.model.specs.Instance.{Instance, nearest}
use Rattle.model.proofs.TestSetLaws.{plus_new}
use Rattle.model.proofs.LeastLaws.{any_of}
use Rattle.model.proofs.TwoLeastLaws.{first_with, first_least, two_with}
use Rattle.model.proofs.PackedLaws.{packed_divides, packed_first_without}

min_divided : (x y : ℕ) → min x y / 32 ≡ min (x / 32) (y / 32)
min_divided x y = omega arith

cond_divided : (p : Bool) (x y : ℕ) → cond p x y / 32 ≡ cond p (x / 32) (y / 32)
cond_divided true x y = refl
cond_divided false x y = refl

least_packed : (m : ℕ) (S : ℕ → Bool) (c : ℕ → ℕ) → m ≤ 32 → least m S (packed c) / 32 ≡ least m S c
unfolding least
least_packed zero S c few = omega arith
least_packed (suc m) S c few = go (S m) (any m S) (least_packed m S c (le_trans (le-suc m) few)) (packed_divides c m few)
  where
    go : (p q : Bool) → least m S (packed c) / 32 ≡ least m S c → packed c m / 32 ≡ c m
        → cond p (cond q (min (packed c m) (least m S (packed c))) (packed c m)) (least m S (packed c)) / 32
        ≡ cond p (cond q (min (c m) (least m S c)) (c m)) (least m S c)
    go true true ih here = min_divided (packed c m) (least m S (packed c)) ∙ rw (ih, here)
    go true false ih here = here
    go false q ih here = ih

packed_below : (c : ℕ → ℕ) (b i : ℕ) → c i ≤ b → i < 32 → packed c i ≤ 32 * b + 31
unfolding packed
packed_below c b i h l = omega arith

-- the two least packed costs of client j over the facilities of S, where no service cost is above b
abbrev pub nearest_two : Instance → ℕ → ℕ → (ℕ → Bool) → Two
nearest_two I b j S = two_least (32 * b + 31) I.facilities S (packed (λ i. I.service i j))

module _ (I : Instance) (b j : ℕ) (few : I.facilities ≤ 32) (bound : (i : ℕ) → i < I.facilities → I.service i j ≤ b) where
  open I use {facilities as m, service}

  -- what it costs to serve client j
  abbrev cost : ℕ → ℕ
  cost i = service i j

  -- no packed cost is above it
  abbrev high : ℕ
  high = 32 * b + 31

  -- where S is not empty
  pub nearest_first : (S : ℕ → Bool) → any m S ≡ true → nearest I S j ≡ (nearest_two I b j S).first / 32
  unfolding nearest
  nearest_first S some =
      let lowest = first_least high m S (packed cost) some (λ i l. packed_below cost b i (bound i l) (le_trans l few)) in
      sym (ap (λ (x : ℕ). x / 32) lowest ∙ least_packed m S cost few)

  -- after i comes in; S may be empty
  pub nearest_with : (S : ℕ → Bool) (i : ℕ) → i < m → S i ≡ false
      → nearest I (plus S i) j ≡ min (service i j) ((nearest_two I b j S).first / 32)
  nearest_with S i l out =
      nearest_first (plus S i) (any_of m i (plus S i) l (plus_new S i i refl))
      ∙ (ap (λ (t : Two). t.first / 32) (two_with high m i S (packed cost) l out)
      ∙ (ap (λ (x : ℕ). x / 32) (first_with (packed cost i) (nearest_two I b j S))
      ∙ (min_divided (packed cost i) (nearest_two I b j S).first
      ∙ ap (λ (x : ℕ). min x ((nearest_two I b j S).first / 32)) (packed_divides cost i (le_trans l few)))))

  module _ (S : ℕ → Bool) (o : ℕ) (below : o < m) (is_in_lem : S o ≡ true) where
    -- the first of the two after o goes out
    first_left : (nearest_two I b j (minus S o)).first / 32
        ≡ cond (eqb ((nearest_two I b j S).first % 32) o) ((nearest_two I b j S).second / 32) ((nearest_two I b j S).first / 32)
    first_left =
        ap (λ (x : ℕ). x / 32) (packed_first_without high m o S cost few below is_in_lem)
        ∙ cond_divided (eqb ((nearest_two I b j S).first % 32) o) (nearest_two I b j S).second (nearest_two I b j S).first

    -- after o goes out, where it was not the last
    pub nearest_without : any m (minus S o) ≡ true → nearest I (minus S o) j
        ≡ cond (eqb ((nearest_two I b j S).first % 32) o) ((nearest_two I b j S).second / 32) ((nearest_two I b j S).first / 32)
    nearest_without some = nearest_first (minus S o) some ∙ first_left

    -- after o goes out and i comes in
    pub nearest_trade : (i : ℕ) → i < m → S i ≡ false → nearest I (trade S o i) j
        ≡ min (service i j) (cond (eqb ((nearest_two I b j S).first % 32) o) ((nearest_two I b j S).second / 32) ((nearest_two I b j S).first / 32))
    nearest_trade i l out =
        nearest_with (minus S o) i l (ap (λ (p : Bool). not (eqb o i) && p) out ∙ and-false (not (eqb o i))) ∙ ap (min (service i j)) first_left
