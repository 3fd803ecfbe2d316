use mathlib.Core.Path.{◌≡◌, refl, sym}
use native.Mathlib.Omega.{arith}
use lib.ListN.{length}
use Rattle.model.proofs.Bools.{said_no, said_yes, clash}
use Rattle.model.proofs.LoopLaws.{all_none}
use Rattle.record.specs.Records.{records}
use Rattle.tariff.specs.Pricing.{price_of}
use Rattle.distances.proofs.BlockLaws.{part_length, near_more, far_more, priced_more, priced_none}
use Rattle.distances.proofs.priced.price_all.Goals as goal

pub loop-from-init : goal.loop-from-init
loop-from-init c = (omega arith, refl, all_none _, priced_none _ _ _)

pub price_block-requires : goal.price_block-requires
price_block-requires c = let part = part_length c.args.sheet.now c.loop-from.from c.min-end.result (omega arith) (omega arith) (omega arith) (omega arith) in
    let room = part_length c.loop-from.hauls c.loop-from.from c.min-end.result (omega arith) (omega arith) (omega arith) (omega arith) in
    (omega arith, omega arith, omega arith, c.requires.3)

pub returns-then-not-price_block : goal.returns-then-not-price_block
returns-then-not-price_block c = let a = c.args in
    record {
      within = sym (far_more a.sheet.now c.loop-from.from c.min-end.result (omega arith) (omega arith) (omega arith) (omega arith) a.by.reach (records a.sheet.now) (omega arith) (said_no c.price_block.ensures.within c.if-not-price_block.true));
      area = λ yes. clash yes refl;
    }

pub returns-else-not-price_block : goal.returns-else-not-price_block
returns-else-not-price_block c = let a = c.args in
    record {
      within = near_more a.sheet.now c.loop-from.from c.min-end.result (omega arith) (omega arith) (omega arith) (omega arith) a.by.reach (records a.sheet.now) (omega arith) c.loop-from.invariant.2 (said_yes c.price_block.ensures.within c.if-not-price_block.false);
      area = λ yes. priced_more a.sheet.now c.loop-from.from c.min-end.result (omega arith) (omega arith) (omega arith) (omega arith) (price_of a.by) (records a.sheet.now) a.hauls.now _ _ (omega arith) c.loop-from.invariant.3 (omega arith) (c.price_block.ensures.area c.if-not-price_block.false);
    }

pub loop-from-preserved : goal.loop-from-preserved
loop-from-preserved c = let a = c.args in (
  omega arith,
  omega arith,
  near_more a.sheet.now c.loop-from.from c.min-end.result (omega arith) (omega arith) (omega arith) (omega arith) a.by.reach _ (omega arith) c.loop-from.invariant.2 (said_yes c.price_block.ensures.within c.if-not-price_block.false),
  priced_more a.sheet.now c.loop-from.from c.min-end.result (omega arith) (omega arith) (omega arith) (omega arith) (price_of a.by) _ a.hauls.now _ _ (omega arith) c.loop-from.invariant.3 (omega arith) (c.price_block.ensures.area c.if-not-price_block.false),
)

pub returns : goal.returns
returns c = let all : c.loop-from.from ≡ length c.args.sheet.now = omega arith in
    record { within = rw all at c.loop-from.invariant.2; area = λ yes. rw all at c.loop-from.invariant.3 }
