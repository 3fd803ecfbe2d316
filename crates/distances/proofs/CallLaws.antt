-- Laws for the calls by a tariff: what a call gives on the sheet that `hauls_by` tells is what it gives by the tariff.
use Prim.Native.Nat.{ℕ, ◌≤◌, ◌<◌}
use mathlib.Core.Path.{◌≡◌, refl, sym, ap, subst, ◌∙◌}
use native.Mathlib.Omega.{arith}
use mathlib.Core.Bool.{Bool, true, false}
use mathlib.Core.List.{List}
use borrow.Author.Tests.{le-leb, lt-leb}
use lib.ListN.{length, take}
use lib.Seq.{length-take-le}
use Rattle.std.specs.Prelude.{Result, Ok, Err}
use Rattle.model.specs.Answers.{Answer, accepted, refused, ask, after}
use Rattle.model.proofs.AnswerLaws.{same_result, not_both, passed_first}
use Rattle.refusal.specs.declared.Refusal.{Refusal}
use Rattle.refusal.specs.Numbers.{number_of}
use Rattle.questions.specs.Bounds.{most_bytes}
use Rattle.questions.specs.declared.Counts.{Counts}
use Rattle.questions.specs.Reading.{form_and_loads, reading}
use Rattle.questions.proofs.ReadingLaws.{reading_loads, refused_by}
use Rattle.tariff.specs.declared.TariffChoice.{TariffChoice}
use Rattle.tariff.specs.declared.TariffChoice.TheVariants.{NoTariff, HouseTariff, GivenTariff}
use Rattle.tariff.specs.Bands.{haul_by, last_end}
use Rattle.tariff.specs.Questions.{question11, question12}
use Rattle.tariff.specs.Reading.{bands_of, tariff_reading}
use Rattle.tariff.specs.House.{house}
use Rattle.distances.specs.Priced.{priced_sheet, question13, priced_by, under_tariff, under_given, sheet_by, reading_by, OnHauls}
use Rattle.distances.specs.Lent.{formed, sheet_within, sheet_told, hauls_within, FitsIn}
use Rattle.distances.specs.declared.priced.HaulSheet.{HaulSheet}
use Rattle.distances.specs.declared.priced.HaulSheet.TheVariants.{AsWritten, Priced}

-- the call asks questions 1 to 4 and 10 first
abbrev pub FormFirst : {A : Type 0} → (List ℕ → Answer A) → Type 0
FormFirst call = (h : List ℕ) (k : ℕ) → form_and_loads h ≡ refused k → call h ≡ refused k

formed_call : {A : Type 0} (call : List ℕ → Answer A) → FormFirst call → (h : List ℕ) → call h ≡ after (formed h) call
unfolding formed
formed_call call first h = go (form_and_loads h) refl
  where
    go : (a : Answer Counts) → form_and_loads h ≡ a → call h ≡ after (after a (λ c. accepted h)) call
    go (accepted c) e = refl
    go (refused k) e = first h k e

formed_same : (h g : List ℕ) → formed h ≡ accepted g → h ≡ g
unfolding formed
formed_same h g e = let p = passed_first (form_and_loads h) (λ c. accepted h) g e in same_result p.2

-- the bytes lent are enough, or not
module _ (choice : TariffChoice) (tariff s : List ℕ) (room : ℕ) where
  pub enough_room : most_bytes ≤ room → hauls_within room choice tariff s ≡ sheet_by choice tariff s
  unfolding hauls_within
  enough_room enough = ap (λ b. ask b 0 (sheet_by choice tariff s)) (le-leb most_bytes room enough)

  pub short_room : room < most_bytes → hauls_within room choice tariff s ≡ refused 0
  unfolding hauls_within
  short_room short = ap (λ b. ask b 0 (sheet_by choice tariff s)) (lt-leb most_bytes room short)

-- the part of the bytes lent that a priced sheet is: it lies within them, of which there are `size`, and is as long as told
module _ (room size : ℕ) (long : size ≡ room) (bytes : ℕ) (r : Result HaulSheet Refusal) (e : r ≡ Ok (Priced bytes)) (fits : FitsIn room r) where
  pub part_within : bytes ≤ size
  part_within = omega (arith, subst (FitsIn room) e fits)

  pub part_length : (lent : List ℕ) → length lent ≡ size → bytes ≡ length (take bytes lent)
  part_length lent all = sym (length-take-le bytes lent (omega (arith, part_within)))

-- of the sheet that the answer r tells, in bytes lent that hold every sheet
module _ (choice : TariffChoice) (tariff s : List ℕ) (room : ℕ) (enough : most_bytes ≤ room) (r : Result HaulSheet Refusal) (lent : List ℕ)
    (told : sheet_told r s lent ≡ hauls_within room choice tariff s) where
  sheet_is : (q : Result HaulSheet Refusal) → r ≡ q → sheet_told q s lent ≡ sheet_by choice tariff s
  sheet_is q e = sym (ap (λ q. sheet_told q s lent) e) ∙ told ∙ enough_room choice tariff s room enough

  module _ {A : Type 0} (call : List ℕ → Answer A) where
    -- on the sheet as written any call, whatever it asks first
    pub as_written : r ≡ Ok AsWritten → call s ≡ after (sheet_by choice tariff s) call
    as_written e = ap (λ a. after a call) (sheet_is (Ok AsWritten) e)

    pub as_told : FormFirst call → (h : HaulSheet) → r ≡ Ok h → call (sheet_within h s lent) ≡ after (sheet_by choice tariff s) call
    as_told first AsWritten e = as_written e
    as_told first (Priced bytes) e = formed_call call first (take bytes lent) ∙ ap (λ a. after a call) (sheet_is (Ok (Priced bytes)) e)

    pub as_refused : (refusal : Refusal) → r ≡ Err refusal → refused (number_of refusal) ≡ after (sheet_by choice tariff s) call
    as_refused refusal e = ap (λ a. after a call) (sheet_is (Err refusal) e)

  -- what holds of that sheet holds of the sheet of hauls
  module _ (P : List ℕ → Type 0) where
    pub on_told : (h : HaulSheet) → r ≡ Ok h → P (sheet_within h s lent) → OnHauls (sheet_by choice tariff s) P
    on_told AsWritten e p h is = subst P (same_result (sheet_is (Ok AsWritten) e ∙ is)) p
    on_told (Priced bytes) e p h is = subst P (formed_same (take bytes lent) h (sheet_is (Ok (Priced bytes)) e ∙ is)) p

    pub on_refused : (refusal : Refusal) → r ≡ Err refusal → OnHauls (sheet_by choice tariff s) P
    on_refused refusal e h is = absurd (not_both (sym is ∙ sym (sheet_is (Err refusal) e)))

-- ---- reading

pub reading_first : FormFirst reading
reading_first h k e = reading_loads h k e

-- an accepted reading by a tariff is that of the sheet of hauls
pub read_on_hauls : (choice : TariffChoice) (tariff s : List ℕ) (c : Counts) → reading_by choice tariff s ≡ accepted c
    → (h : List ℕ) × (sheet_by choice tariff s ≡ accepted h) × (reading h ≡ accepted c)
unfolding reading_by
read_on_hauls choice tariff s c e = passed_first (sheet_by choice tariff s) reading c e

-- ---- the numbers by which a tariff and distances are refused: 1 to 4, 10, and paper 3's

abbrev Numbered : Answer (List ℕ) → Type 0
Numbered a = (k : ℕ) → a ≡ refused k → (1 ≤ k) × (k ≤ 13)

priced_numbered : (f : ℕ → ℕ) (end : ℕ) (s : List ℕ) → Numbered (priced_by f end s)
unfolding priced_by
priced_numbered f end s = go (form_and_loads s) refl (question13 end s)
  where
    go : (a : Answer Counts) → form_and_loads s ≡ a → (q : Bool) → Numbered (after a (λ c. ask q 13 (accepted (priced_sheet f s))))
    go (accepted c) e true k h = absurd (not_both h)
    go (accepted c) e false k h = let same : 13 ≡ k = cc in (omega arith, omega arith)
    go (refused j) e q k h =
        let same : j ≡ k = cc in
        let l = refused_by s j (reading_loads s j e) in
        (omega (arith, l.0), omega (arith, l.1))

pub sheet_numbered : (choice : TariffChoice) (tariff s : List ℕ) (k : ℕ) → sheet_by choice tariff s ≡ refused k → (1 ≤ k) × (k ≤ 13)
unfolding sheet_by under_given tariff_reading
sheet_numbered NoTariff tariff s k h = absurd (not_both h)
sheet_numbered HouseTariff tariff s k h = priced_numbered (haul_by house) (last_end house) s k h
sheet_numbered GivenTariff tariff s k h = go (question11 tariff) (question12 tariff) k h
  where
    go : (p q : Bool) → Numbered (after (ask p 11 (ask q 12 (accepted (bands_of tariff)))) (λ b. under_tariff b s))
    go true true j e = priced_numbered (haul_by (bands_of tariff)) (last_end (bands_of tariff)) s j e
    go true false j e = let same : 12 ≡ j = cc in (omega arith, omega arith)
    go false q j e = let same : 11 ≡ j = cc in (omega arith, omega arith)
