-- The bands of a tariff, and what it charges for a distance (document 02, papers 3 and 6). Starts, ends and distances are in hundreds of metres,
-- rates in cents for each hundred.
use Rattle.std.specs.Prelude.{ℕ, zero, suc, ◌-◌, ◌*◌, min, ltb}
use Rattle.model.specs.Loops.{sum}
use Rattle.model.specs.Sets.{count}
use Rattle.tariff.specs.declared.bands.Band.{Band}

abbrev pub band_by : ℕ → ℕ → ℕ → Band
band_by start end rate = record { start = start; end = end; rate = rate }

-- a tariff: so many bands by number
pub record Bands : Type 0 where
  pub count : ℕ
  pub band : ℕ → Band

-- "the distance inside the band"
unfoldable pub inside : Band → ℕ → ℕ
inside b d = min d b.end - min d b.start

-- "times its rate"
unfoldable pub charge : Band → ℕ → ℕ
charge b d = inside b d * b.rate

-- "A haul is the sum over bands of the distance inside the band times its rate."
unfoldable pub haul_by : Bands → ℕ → ℕ
haul_by t d = sum t.count (λ i. charge (t.band i) d)

-- where the first n bands end
abbrev pub end_of : (ℕ → Band) → ℕ → ℕ
end_of band zero = 0
end_of band (suc n) = (band n).end

-- where the last band ends
unfoldable pub last_end : Bands → ℕ
last_end t = end_of t.band t.count

-- the number of a distance's band: how many of the bands before the last one it is past
unfoldable pub band_number : Bands → ℕ → ℕ
band_number t d = count (t.count - 1) (λ i. ltb (t.band i).end d)

-- what the whole of a band costs, and "the cost of all the bands before" band i, which is the cost at its start
unfoldable pub whole_charge : Band → ℕ
whole_charge b = (b.end - b.start) * b.rate

unfoldable pub cost_before : (ℕ → Band) → ℕ → ℕ
cost_before band i = sum i (λ j. whole_charge (band j))
