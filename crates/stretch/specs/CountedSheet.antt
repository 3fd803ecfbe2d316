-- For private functions: what a sheet with its counts of yards and farms holds.
use Rattle.std.specs.Prelude.{ℕ}
use Rattle.model.specs.Instance.{Instance}
use Rattle.questions.specs.Sheet.{farm_byte, instance_by}
use Rattle.stretch.specs.declared.counted_sheet.CountedSheet.{CountedSheet}

-- its instance
abbrev pub instance_on : CountedSheet → Instance
instance_on c = instance_by c.bytes.now c.yards c.farms

-- the bytes of its farms' loads
abbrev pub loads_on : CountedSheet → ℕ → ℕ
loads_on c = farm_byte c.bytes.now c.yards
