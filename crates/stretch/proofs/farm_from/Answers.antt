-- `farm_from` meets its contract: a stretch tells by its length where it begins.
use mathlib.Core.Path.{refl}
use native.Mathlib.Omega.{arith}
use Rattle.stretch.proofs.FarmLaws.{farm_begins}
use Rattle.stretch.proofs.farm_from.Goals as goal

pub overflow_mul-result : goal.overflow_mul-result
overflow_mul-result c = let start = c.args in
    let b = farm_begins start.sheet.now start.farm in
    rw (c.farm_len-bytes.ensures) (omega (arith, b.by_length, b.hauls_there.0))

pub overflow_add-result : goal.overflow_add-result
overflow_add-result c = let start = c.args in
    let b = farm_begins start.sheet.now start.farm in
    rw (c.farm_len-bytes.ensures) (omega (arith, b.by_length, b.hauls_there.0))

pub returns : goal.returns
returns c = let start = c.args in
    let b = farm_begins start.sheet.now start.farm in
    let is = c.farm_len-bytes.ensures in
    record { from = rw (is, ← b.by_length) refl; hauls = rw (is, ← b.by_length) b.hauls_there }
