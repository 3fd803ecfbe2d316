-- For private functions: how a tariff is made of its bands, one after the other.
use Rattle.std.specs.Prelude.{ℕ, ◌-◌, ◌*◌, set, replicate}
use Rattle.tariff.specs.declared.bands.Band.{Band}
use Rattle.tariff.specs.declared.bands.Tariff.{Tariff}
use Rattle.tariff.specs.Bounds.{most_bands}

abbrev pub without_bands : Tariff
without_bands =
    record {
      last = 0;
      ends = replicate most_bands 0;
      rates = replicate most_bands 0;
      intercepts = replicate most_bands 0;
      reach = 0;
    }

-- the tariff with band i behind those before it, which cost so much
abbrev pub with_band : Tariff → ℕ → Band → ℕ → Tariff
with_band t i b before =
    record {
      last = i;
      ends = set t.ends i b.end;
      rates = set t.rates i b.rate;
      intercepts = set t.intercepts i (before - b.start * b.rate);
      reach = b.end;
    }
