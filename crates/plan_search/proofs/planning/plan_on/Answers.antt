-- `planning::plan_on` meets its contract: the tables hold the sheet's fees and its hauls times loads, as many times as the kind asks, so what is written is the
-- plan of where the search of the sheet's instance ends.
use mathlib.Core.Path.{sym, ap, ◌∙◌}
use native.Mathlib.Omega.{arith}
use Rattle.std.specs.Prelude.{Ok}
use Rattle.model.proofs.PlaceLaws.{few_places}
use Rattle.plan_search.specs.Terms.{plan_of}
use Rattle.plan_search.proofs.PlanningLaws.{as_outcome}
use Rattle.plan_search.proofs.planning.EndLaws.{factors_few, tables_room, some_end, end_outcome, end_found, end_moves}
use Rattle.plan_search.proofs.planning.plan_on.Goals as goal

pub fill_fees-requires : goal.fill_fees-requires
fill_fees-requires c = ((factors_few c.args.kind _ c.terms_of-terms.ensures).0, omega (arith, c.args.sheet.counted.shape.few_yards))

pub fill_rows-requires : goal.fill_rows-requires
fill_rows-requires c = let s = c.args.sheet.counted in (
  (factors_few c.args.kind _ c.terms_of-terms.ensures).1,
  omega (arith, few_places s.yards s.farms s.shape.few_yards s.shape.few_farms),
)

pub write-requires : goal.write-requires
write-requires c = let a = c.args in
    let rooms = tables_room _ _ _ a.sheet.read in (
      c.requires.1,
      end_found a.kind a.start a.limit _ _ _ a.sheet.read c.requires.0 _ c.terms_of-terms.ensures _ _ c.fill_fees.ensures c.fill_rows.ensures
          (omega (arith, rooms)) (omega (arith, rooms)) _ c.engine_start-begins.ensures c.in-Some.end (sym c.in-Some.is ∙ c.search.ensures),
      end_moves a.kind a.start a.limit _ _ _ a.sheet.read c.requires.0 _ c.terms_of-terms.ensures _ _ c.fill_fees.ensures c.fill_rows.ensures
          (omega (arith, rooms)) (omega (arith, rooms)) _ c.engine_start-begins.ensures c.in-Some.end (sym c.in-Some.is ∙ c.search.ensures),
    )

pub unreachable-requires : goal.unreachable-requires
unreachable-requires c = let a = c.args in
    let rooms = tables_room _ _ _ a.sheet.read in
    some_end a.kind a.start a.limit _ _ _ a.sheet.read c.requires.0 _ c.terms_of-terms.ensures _ _ c.fill_fees.ensures c.fill_rows.ensures
    (omega (arith, rooms)) (omega (arith, rooms)) _ c.engine_start-begins.ensures _ c.search.ensures c.in-None.is

pub returns : goal.returns
returns c = let a = c.args in
    let rooms = tables_room _ _ _ a.sheet.read in
    let told = as_outcome (ap (plan_of a.kind a.sheet.counted) (end_outcome a.kind a.start a.limit _ _ _ a.sheet.read c.requires.0 _ c.terms_of-terms.ensures _ _ c.fill_fees.ensures c.fill_rows.ensures
    (omega (arith, rooms)) (omega (arith, rooms)) _ c.engine_start-begins.ensures c.in-Some.end (sym c.in-Some.is ∙ c.search.ensures)))
    (Ok c.write.result) _ _ (c.write.ensures.answer, c.write.ensures.area) in
    record { answer = told.0; area = told.1 }
