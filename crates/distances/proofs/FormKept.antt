-- The sheet of hauls has the form and the loads of the sheet of distances: the two differ in amounts alone.
use Prim.Native.Nat.{ℕ, ◌*◌, ◌<◌}
use mathlib.Core.Path.{◌≡◌, sym, ap, ◌∙◌}
use mathlib.Core.List.{List}
use lib.ListN.{length}
use Rattle.record.specs.declared.Record.{Record}
use Rattle.record.specs.Records.{records, record_at, amount_end}
use Rattle.questions.specs.Reading.{form_and_loads}
use Rattle.questions.proofs.SameFormLaws.{SameForm, same_form_and_loads}
use Rattle.distances.specs.Priced.{priced_record, priced_sheet}
use Rattle.distances.proofs.PricedLaws.{keeps_kind, keeps_yard, keeps_farm, keeps_byte3, sheet_length, priced_record_at}

module _ (f : ℕ → ℕ) (s : List ℕ) (whole : length s ≡ 8 * records s)
    (fits : (i : ℕ) → i < records s → (priced_record f (record_at s i)).amount < amount_end) where
  -- what pricing a record keeps stands in its place
  kept : (g : Record → ℕ) → ((r : Record) → g (priced_record f r) ≡ g r) → (i : ℕ) → i < records s → g (record_at (priced_sheet f s) i) ≡ g (record_at s i)
  kept g keeps i l = ap g (priced_record_at f s fits i l) ∙ keeps (record_at s i)

  pub form_same : SameForm (priced_sheet f s) s
  form_same =
      record {
        as_long = sheet_length f s ∙ sym whole;
        same_kind = kept (λ r. r.kind) (keeps_kind f);
        same_yard = kept (λ r. r.yard) (keeps_yard f);
        same_farm = kept (λ r. r.farm) (keeps_farm f);
        same_byte3 = kept (λ r. r.byte3) (keeps_byte3 f);
      }

  pub form_kept : form_and_loads (priced_sheet f s) ≡ form_and_loads s
  form_kept = same_form_and_loads (priced_sheet f s) s form_same
