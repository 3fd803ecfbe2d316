use mathlib.Core.Path.{◌≡◌, refl, sym, ap, ◌∙◌}
use native.Mathlib.Omega.{arith}
use native.Mathlib.Nat.{not-suc-le-zero}
use lib.ListN.{length-set}
use Rattle.model.proofs.LoopLaws.{all_none, all_more, all_stops}
use Rattle.model.proofs.PlaceLaws.{front_more}
use Rattle.record.specs.Records.{record_at, records}
use Rattle.distances.specs.Blocks.{distance_of}
use Rattle.distances.proofs.BlockLaws.{near_read, far_read}
use Rattle.distances.proofs.block.distances_of.Goals as goal

pub loop-k-init : goal.loop-k-init
loop-k-init c = (refl, all_none _, λ j l. absurd (not-suc-le-zero l))

pub returns-then-from-distance : goal.returns-then-from-distance
returns-then-from-distance c = let part = c.args.part.now in
    let read = c.distance_of-distance.ensures ∙ ap distance_of c.record_within.ensures in
    all_stops _ (records part) c.loop-k.k (omega arith) (far_read part c.args.reach c.loop-k.k _ read (omega arith))

pub loop-k-preserved : goal.loop-k-preserved
loop-k-preserved c = let part = c.args.part.now in
    let read = c.distance_of-distance.ensures ∙ ap distance_of c.record_within.ensures in (
      simp length-set c.loop-k.invariant.0,
      all_more _ _ c.loop-k.invariant.1 (near_read part c.args.reach c.loop-k.k _ read (omega arith)),
      front_more (λ j. distance_of (record_at part j)) c.loop-k.k _ c.loop-k.distances (omega arith) read c.loop-k.invariant.2,
    )

pub returns : goal.returns
returns c = let e : c.loop-k.k ≡ records c.args.part.now = omega arith in
    record { distances_are = λ k l. c.loop-k.invariant.2 k (omega arith); near = sym (rw e at c.loop-k.invariant.1) }
