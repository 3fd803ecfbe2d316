-- `prepare` meets its contract.
use mathlib.Core.Path.{◌≡◌, sym, ◌∙◌}
use Prim.Native.Nat.{◌*◌}
use native.Mathlib.Omega.{arith}
use lib.ListN.{length, take}
use lib.Seq.{length-take-le}
use Rattle.tables.proofs.LentTableLaws.{good_when}
use Rattle.engine.specs.Bounds.{added_from}
use Rattle.engine.proofs.CopiedTableLaws.{room_of, ready, prepared}
use Rattle.engine.proofs.prepare.Goals as goal

pub slice_bounds-copy_from_slice-end : goal.slice_bounds-copy_from_slice-end
slice_bounds-copy_from_slice-end c = let a = c.args in
    let r = room_of a.m a.n a.opening.now a.service.now a.openings.now a.rows.now a.kept.now (good_when a.m a.n a.opening.now a.service.now c.requires.0) c.requires.1 in
    r.openings_long

pub slice_bounds-copy_from_slice-end-2 : goal.slice_bounds-copy_from_slice-end-2
slice_bounds-copy_from_slice-end-2 c = let a = c.args in
    let r = room_of a.m a.n a.opening.now a.service.now a.openings.now a.rows.now a.kept.now (good_when a.m a.n a.opening.now a.service.now c.requires.0) c.requires.1 in
    sym (length-take-le a.m a.openings.now r.openings_long)

pub slice_bounds-copy_from_slice-end-3 : goal.slice_bounds-copy_from_slice-end-3
slice_bounds-copy_from_slice-end-3 c = let a = c.args in
    let r = room_of a.m a.n a.opening.now a.service.now a.openings.now a.rows.now a.kept.now (good_when a.m a.n a.opening.now a.service.now c.requires.0) c.requires.1 in
    sym (length-take-le a.m a.opening.now r.opening_long)

pub copy_from_slice-requires : goal.copy_from_slice-requires
copy_from_slice-requires c = let a = c.args in
    let r = room_of a.m a.n a.opening.now a.service.now a.openings.now a.rows.now a.kept.now (good_when a.m a.n a.opening.now a.service.now c.requires.0) c.requires.1 in
    length-take-le a.m a.openings.now r.openings_long ∙ sym (length-take-le a.m a.opening.now r.opening_long)

pub overflow_mul-n : goal.overflow_mul-n
overflow_mul-n c = let a = c.args in
    let r = room_of a.m a.n a.opening.now a.service.now a.openings.now a.rows.now a.kept.now (good_when a.m a.n a.opening.now a.service.now c.requires.0) c.requires.1 in
    omega (arith, r.few)

pub slice_bounds-copy_from_slice-end-4 : goal.slice_bounds-copy_from_slice-end-4
slice_bounds-copy_from_slice-end-4 c = let a = c.args in
    let r = room_of a.m a.n a.opening.now a.service.now a.openings.now a.rows.now a.kept.now (good_when a.m a.n a.opening.now a.service.now c.requires.0) c.requires.1 in
    r.rows_long

pub slice_bounds-copy_from_slice-end-5 : goal.slice_bounds-copy_from_slice-end-5
slice_bounds-copy_from_slice-end-5 c = let a = c.args in
    let r = room_of a.m a.n a.opening.now a.service.now a.openings.now a.rows.now a.kept.now (good_when a.m a.n a.opening.now a.service.now c.requires.0) c.requires.1 in
    sym (length-take-le (a.n * a.m) a.rows.now r.rows_long)

pub overflow_mul-n-2 : goal.overflow_mul-n-2
overflow_mul-n-2 c = let a = c.args in
    let r = room_of a.m a.n a.opening.now a.service.now a.openings.now a.rows.now a.kept.now (good_when a.m a.n a.opening.now a.service.now c.requires.0) c.requires.1 in
    omega (arith, r.few)

pub slice_bounds-copy_from_slice-end-6 : goal.slice_bounds-copy_from_slice-end-6
slice_bounds-copy_from_slice-end-6 c = let a = c.args in
    let r = room_of a.m a.n a.opening.now a.service.now a.openings.now a.rows.now a.kept.now (good_when a.m a.n a.opening.now a.service.now c.requires.0) c.requires.1 in
    sym (length-take-le (a.n * a.m) a.service.now r.service_long)

pub copy_from_slice-requires-2 : goal.copy_from_slice-requires-2
copy_from_slice-requires-2 c = let a = c.args in
    let r = room_of a.m a.n a.opening.now a.service.now a.openings.now a.rows.now a.kept.now (good_when a.m a.n a.opening.now a.service.now c.requires.0) c.requires.1 in
    length-take-le (a.n * a.m) a.rows.now r.rows_long ∙ sym (length-take-le (a.n * a.m) a.service.now r.service_long)

pub slice_bounds-fill-end-2 : goal.slice_bounds-fill-end-2
slice_bounds-fill-end-2 c = let a = c.args in
    sym (length-take-le 256 a.kept.now (omega (arith, c.requires.1.kept_room)))

pub invariant_of-add_rows : goal.invariant_of-add_rows
invariant_of-add_rows c = let a = c.args in
    let size : length (take added_from a.kept.now) ≡ added_from = length-take-le added_from a.kept.now (omega (arith, c.requires.1.kept_room)) in
    let is_ready = ready a.m a.n a.opening.now a.service.now a.openings.now a.rows.now a.kept.now (good_when a.m a.n a.opening.now a.service.now c.requires.0) c.requires.1
    _ _ _ c.copy_from_slice.ensures.after c.copy_from_slice-2.ensures.after
    (rw size at c.fill.ensures.after (λ y e. e)) in
    record { rows = is_ready.0 }

pub add_rows-requires : goal.add_rows-requires
add_rows-requires c = let a = c.args in
    let size : length (take added_from a.kept.now) ≡ added_from = length-take-le added_from a.kept.now (omega (arith, c.requires.1.kept_room)) in
    let is_ready = ready a.m a.n a.opening.now a.service.now a.openings.now a.rows.now a.kept.now (good_when a.m a.n a.opening.now a.service.now c.requires.0) c.requires.1
    _ _ _ c.copy_from_slice.ensures.after c.copy_from_slice-2.ensures.after
    (rw size at c.fill.ensures.after (λ y e. e)) in
    (is_ready.1, is_ready.2)

pub returns : goal.returns
returns c = let a = c.args in
    let size : length (take added_from a.kept.now) ≡ added_from = length-take-le added_from a.kept.now (omega (arith, c.requires.1.kept_room)) in
    prepared a.m a.n a.opening.now a.service.now a.openings.now a.rows.now a.kept.now (good_when a.m a.n a.opening.now a.service.now c.requires.0) c.requires.1
    _ _ _ c.copy_from_slice.ensures.after c.copy_from_slice-2.ensures.after
    (rw size at c.fill.ensures.after (λ y e. e)) _ c.add_rows.auto.kept c.add_rows.ensures.aside c.add_rows.ensures.sums
