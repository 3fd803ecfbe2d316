-- `priced::price_into` meets its contract: each `return` is a case of `priced_by`.
use mathlib.Core.Path.{◌≡◌, sym, ap, ◌∙◌}
use native.Mathlib.Omega.{arith}
use Prim.Native.Nat.{◌*◌}
use lib.ListN.{length}
use Rattle.record.specs.Records.{records}
use Rattle.std.proofs.lemmas.Result.{err_from_is_err_and}
use Rattle.refusal.specs.Numbers.{answer_of}
use Rattle.tariff.specs.Pricing.{price_of}
use Rattle.distances.specs.Priced.{priced_sheet}
use Rattle.distances.specs.Lent.{formed}
use Rattle.distances.proofs.ReachLaws.{refuses_1, form_refuses, refuses_13, priced_told, front_is, odd_length, too_long}
use Rattle.distances.proofs.priced.price_into.Goals as goal

pub returns-then-sheet-ne0 : goal.returns-then-sheet-ne0
returns-then-sheet-ne0 c = record { hauls = sym (refuses_1 _ _ _ (odd_length _ c.if-sheet-ne0.true)); room = tt }

pub returns-then-sheet-gt-MOST_BYTES : goal.returns-then-sheet-gt-MOST_BYTES
returns-then-sheet-gt-MOST_BYTES c = record { hauls = sym (refuses_1 _ _ _ (too_long _ c.if-sheet-gt-MOST_BYTES.true)); room = tt }

pub price_all-requires : goal.price_all-requires
price_all-requires c = (c.if-sheet-ne0.false, c.if-sheet-gt-MOST_BYTES.false, c.requires.0, c.requires.1)

pub returns-then-price_all : goal.returns-then-price_all
unfolding priced_sheet
returns-then-price_all c = let put = c.price_all in
    let s = c.args.sheet.now in
    let f = price_of c.args.by in
    let whole : length s ≡ 8 * records s = omega (arith, c.if-sheet-ne0.false) in record {
      hauls = ap formed (front_is f c.args.by.reach s c.args.hauls.now _ whole (put.ensures.area c.if-price_all.true))
          ∙ priced_told f c.args.by.reach s whole (λ i. omega (arith, c.shared_slice_known-1.given i)) c.requires.1 (sym put.ensures.within ∙ c.if-price_all.true);
      room = omega (arith, c.if-sheet-gt-MOST_BYTES.false, c.requires.0);
    }

pub returns : goal.returns
returns c = let s = c.args.sheet.now in
    record {
      hauls = sym (refuses_13 _ _ _ _ _ (sym c.form_and_loads_of.ensures ∙ ap answer_of c.in_ok-form_and_loads_of.was) (sym c.price_all.ensures.within ∙ c.if-price_all.false));
      room = tt;
    }

pub returns-in_err-form_and_loads_of : goal.returns-in_err-form_and_loads_of
returns-in_err-form_and_loads_of c = let p = err_from_is_err_and c.from_residual.result c.from_residual.ensures.1 in
    rw (p.1, p.2) record {
      hauls = sym (form_refuses _ _ _ _ (sym c.form_and_loads_of.ensures ∙ ap answer_of c.in_err-form_and_loads_of.was));
      room = tt;
    }
