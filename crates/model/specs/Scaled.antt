-- An instance whose opening costs are taken so many times, and its service costs so many times. With opening costs times 0 a search goes by service costs alone, as a limited plan does.
use Rattle.std.specs.Prelude.{ℕ, ◌*◌}
use Rattle.model.specs.Instance.{Instance}

-- opening costs times a, service costs times b
abbrev pub scaled : ℕ → ℕ → Instance → Instance
scaled a b I =
    record {
      facilities = I.facilities;
      clients = I.clients;
      opening = λ i. a * I.opening i;
      service = λ i j. b * I.service i j;
      weight = I.weight;
    }
