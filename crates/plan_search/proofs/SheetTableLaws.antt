-- Laws of the search's tables: filling one, that a filled one is good, and that tables filled from a sheet cost what its instance does.
use Prim.Native.Nat.{ℕ, ◌+◌, ◌*◌, ◌/◌, ◌%◌, ◌≤◌, ◌<◌}
use native.Mathlib.Nat.{zero-add, add_assoc, add_comm, mul-zero, one-mul, mul-le-mul, not-suc-le-zero, mod-lt, mod-eq_of_lt, mod-add-div', mul-add-mod_self_right, add-mul-div_right, div-eq_of_lt, div-lt_iff_lt-mul}
use native.Mathlib.Decide.{dec_lt}
use native.Mathlib.Omega.{arith}
use mathlib.Core.Path.{◌≡◌, refl, sym, ap, ap₂, subst, ◌∙◌}
use mathlib.Core.Bool.{true}
use mathlib.Core.List.{List}
use lib.ListN.{length, get_or, set}
use Rattle.model.specs.Sets.{member}
use Rattle.model.specs.Instance.{opening_cost, service_cost, total_cost}
use Rattle.model.specs.Plans.{open_cost}
use Rattle.model.specs.Scaled.{scaled}
use Rattle.model.proofs.ScaledLaws.{scaled_opening, scaled_service}
use Rattle.model.proofs.CostLaws.{same_service, same_opening}
use Rattle.record.specs.declared.Record.{Record}
use Rattle.record.specs.Records.{record_at, amount_at}
use Rattle.questions.specs.Bounds.{most_loads, most_fee, most_haul}
use Rattle.model.specs.Answers.{accepted}
use Rattle.questions.specs.Sheet.{fee, haul, farm_byte, loads_of, instance_by}
use Rattle.questions.specs.Reading.{counts, reading}
use Rattle.questions.proofs.AcceptedLaws.{HasAmounts, accepts, shape_of}
use Rattle.stretch.specs.Stretch.{stretch}
use Rattle.stretch.proofs.FarmLaws.{stretch_record}
use Rattle.tables.specs.Tables.{tabled, table_cost, good_tables}
use Rattle.tables.proofs.LentTableLaws.{good_from}
use Rattle.model.proofs.PlaceLaws.{front_more, row_within, few_places}
use Rattle.plan_search.specs.SheetTables.{Holds, most_factor, scaled_fee, scaled_haul}

-- ---- filling a table

-- a fee more
module _ (factor : ℕ) (s : List ℕ) where
  pub fee_more : (i x : ℕ) (table : List ℕ) → i < length table → x ≡ fee s i → Holds (scaled_fee factor s) i table
      → Holds (scaled_fee factor s) (i + 1) (set table i (factor * x))
  unfolding scaled_fee
  fee_more i x table room e h = front_more (scaled_fee factor s) i (factor * x) table room (ap (λ (y : ℕ). factor * y) e) h

  pub fee_small : (m n i x : ℕ) → reading s ≡ accepted (counts m n) → factor ≤ most_factor → i < m → x ≡ fee s i → factor * x ≤ most_factor * most_fee
  fee_small m n i x e few l read =
      let all = accepts s m n e in
      let within : x ≤ most_fee = omega (arith, read, all.fees i l) in
      mul-le-mul few within

-- place j * m + i of the rows is that of facility i in the row of client j
row_at : (m j i : ℕ) → i < m → ((j * m + i) / m ≡ j) × ((j * m + i) % m ≡ i)
row_at m j i l = (
  ap (λ (x : ℕ). x / m) (add_comm (j * m) i) ∙ add-mul-div_right i j (omega arith) ∙ ap (λ (x : ℕ). x + j) (div-eq_of_lt l) ∙ zero-add j,
  mul-add-mod_self_right j m i ∙ mod-eq_of_lt l,
)

haul_at : (factor : ℕ) (s : List ℕ) (m j i : ℕ) → i < m → scaled_haul factor s m (j * m + i) ≡ factor * loads_of (farm_byte s m j) * haul s m i j
unfolding scaled_haul
haul_at factor s m j i l =
    let at = row_at m j i l in
    ap₂ (λ (p a : ℕ). factor * loads_of (farm_byte s m p) * haul s m a p) at.0 at.1

-- the rows have few places, and every farm's lie within them
pub in_rows : (s : List ℕ) (m n p a : ℕ) → reading s ≡ accepted (counts m n) → p < n → a < m → (p * m + a < n * m) × (n * m ≤ 4096)
in_rows s m n p a e lp la = let form = (accepts s m n e).has in
    (omega (arith, row_within m n p lp), few_places m n form.few_yards form.few_farms)

-- a turn in a farm's row, with what its call answers of the farm's stretch
module _ (factor : ℕ) (s : List ℕ) (m n p : ℕ) (e : reading s ≡ accepted (counts m n)) (below : p < n) (hauls : List ℕ) (part : hauls ≡ stretch s m p)
    (byte : ℕ) (read_byte : byte ≡ farm_byte s m p) (loads : ℕ) (told : loads ≡ loads_of byte) where
  loads_are : loads ≡ loads_of (farm_byte s m p)
  loads_are = told ∙ ap loads_of read_byte

  haul_is : (a x : ℕ) → a < m → x ≡ amount_at hauls a → x ≡ haul s m a p
  unfolding amount_at haul
  haul_is a x la read =
      read ∙ ap (λ (bytes : List ℕ). (record_at bytes a).amount) part
      ∙ ap (λ (y : Record). y.amount) (stretch_record s m n p (shape_of (accepts s m n e).has) below a la)

  pub factor_small : factor ≤ most_factor → factor * loads ≤ most_factor * most_loads
  factor_small few =
      let all = accepts s m n e in
      let within : loads ≤ most_loads = omega (arith, loads_are, all.loads_within p below) in
      mul-le-mul few within

  pub product_small : (a x : ℕ) → factor ≤ most_factor → a < m → x ≡ amount_at hauls a → factor * loads * x ≤ most_factor * most_loads * most_haul
  product_small a x few la read =
      let all = accepts s m n e in
      let within : x ≤ most_haul = omega (arith, haul_is a x la read, all.hauls_within_lem a p la below) in
      mul-le-mul (factor_small few) within

  pub row_more : (a x : ℕ) (table : List ℕ) → a < m → p * m + a < length table → x ≡ amount_at hauls a → Holds (scaled_haul factor s m) (p * m + a) table
      → Holds (scaled_haul factor s m) (p * m + (a + 1)) (set table (p * m + a) (factor * loads * x))
  row_more a x table la room read h =
      subst (λ (k : ℕ). Holds (scaled_haul factor s m) k (set table (p * m + a) (factor * loads * x))) (add_assoc (p * m) a 1)
      (front_more (scaled_haul factor s m) (p * m + a) (factor * loads * x) table room
      (ap₂ (λ (y z : ℕ). factor * y * z) loads_are (haul_is a x la read) ∙ sym (haul_at factor s m p a la)) h)

-- ---- filled tables are good

-- place k of the rows is that of facility k % m in the row of client k / m
row_place : (m n k : ℕ) → k < n * m → (k / m < n) × (k % m < m) × (k / m * m + k % m ≡ k)
row_place m n k l = elim (dec_lt 0 m) [
  | yes some ↦ ((div-lt_iff_lt-mul some).1 l, mod-lt k some, omega (arith, mod-add-div' k m))
  | no none ↦ let e : m ≡ 0 = omega arith in absurd (not-suc-le-zero (subst (λ (x : ℕ). k < x) (ap (λ (x : ℕ). n * x) e ∙ mul-zero n) l))
]

module _ (s : List ℕ) (m n fees hauls : ℕ) (all : HasAmounts s m n) (few_fees : fees ≤ most_factor) (few_hauls : hauls ≤ most_factor)
    (opening service : List ℕ) (fees_held : Holds (scaled_fee fees s) m opening) (hauls_held : Holds (scaled_haul hauls s m) (n * m) service) where
  fees_within : (i : ℕ) → i < m → get_or opening i 0 ≤ most_factor * most_fee
  unfolding scaled_fee
  fees_within i l = subst (λ (x : ℕ). x ≤ most_factor * most_fee) (sym (fees_held i l)) (mul-le-mul few_fees (all.fees i l))

  rows_within : (k : ℕ) → k < n * m → get_or service k 0 ≤ most_factor * most_loads * most_haul
  unfolding scaled_haul
  rows_within k l =
      let at = row_place m n k l in
      let few : loads_of (farm_byte s m (k / m)) ≤ most_loads = omega (arith, all.loads_within (k / m) at.0) in
      subst (λ (x : ℕ). x ≤ most_factor * most_loads * most_haul) (sym (hauls_held k l))
      (mul-le-mul (mul-le-mul few_hauls few) (all.hauls_within_lem (k % m) (k / m) at.1 at.0))

  pub tables_good : m ≤ length opening → n * m ≤ length service → good_tables m n opening service ≡ true
  tables_good opening_room service_room =
      good_from m n opening service
      (record {
        some_facility = all.has.some_yards;
        few_facilities = all.has.few_yards;
        few_clients = all.has.few_farms;
        opening_room = opening_room;
        service_room = service_room;
        openings = λ i l. omega (arith, fees_within i l);
        entries = λ k l. omega (arith, rows_within k l);
      })

-- ---- what a set costs by tables filled from a sheet

module _ (s : List ℕ) (m n fees hauls : ℕ) (opening service : List ℕ) (fees_held : Holds (scaled_fee fees s) m opening)
    (hauls_held : Holds (scaled_haul hauls s m) (n * m) service) where
  entry_is : (i j : ℕ) → i < m → j < n → get_or service (j * m + i) 0 ≡ loads_of (farm_byte s m j) * (hauls * haul s m i j)
  entry_is i j facility client =
      hauls_held (j * m + i) (omega (arith, row_within m n j client)) ∙ haul_at hauls s m j i facility ∙ turned hauls (loads_of (farm_byte s m j)) (haul s m i j)
    where
      turned : (a b c : ℕ) → a * b * c ≡ b * (a * c)
      turned a b c = omega arith

  -- it is that of the scaled instance
  pub table_cost_lem : (set : ℕ) → table_cost m n opening service set
      ≡ fees * opening_cost (instance_by s m n) (member set) + hauls * service_cost (instance_by s m n) (member set)
  unfolding table_cost open_cost total_cost tabled instance_by scaled_fee
  table_cost_lem set =
      let I = instance_by s m n in
      let J = scaled fees hauls I in
      ap₂ ◌+◌
      (same_opening (tabled m n opening service) J (member set) refl refl (λ i facility. fees_held i facility))
      (same_service (tabled m n opening service) J (member set) refl refl (λ i j facility client. one-mul _ ∙ entry_is i j facility client))
      ∙ ap₂ ◌+◌ (scaled_opening fees hauls I (member set)) (scaled_service fees hauls I (member set))
