-- A band as the bytes of its record, for the tariffs that are computed.
use Prim.Native.Nat.{ℕ, ◌+◌, ◌*◌, ◌/◌, ◌%◌}
use mathlib.Core.List.{List}
use Rattle.record.specs.Records.{record_of, bytes_of}
use Rattle.tariff.specs.Bounds.{band_kind, half_word}

unfoldable pub band_bytes : ℕ → ℕ → ℕ → ℕ → List ℕ
band_bytes i start end rate = bytes_of (record_of band_kind i (start % 256) (start / 256) (end + half_word * rate))
