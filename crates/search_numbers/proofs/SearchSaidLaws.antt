-- What the number says is what the call answered, where the answer keeps to its bits; and what is promised of a set is promised by the number.
use Prim.Native.Nat.{ℕ, ◌/◌, ◌%◌, ◌^◌, ◌≤◌}
use native.Mathlib.Omega.{arith}
use mathlib.Core.Path.{◌≡◌, refl, sym, ap, subst, ◌∙◌}
use mathlib.Core.Bool.{Bool, true, false}
use mathlib.Core.List.{List}
use borrow.Author.Tests.{eq-eqb, ne_eqb}
use Rattle.model.specs.Answers.{Answer, accepted, refused}
use Rattle.model.proofs.Bools.{clash}
use Rattle.plan_area.specs.Plan.{plan_set}
use Rattle.plan_search.specs.Planning.{Told, told, searched_by, OfSettled, OfStopped}
use Rattle.std.specs.Prelude.{Result, Ok, Err}
use Rattle.plan_search.specs.declared.Searched.{Searched}
use Rattle.plan_search.specs.declared.Searched.TheVariants.{Settled, Stopped}
use Rattle.numbers.specs.Numbers.{refusal, moves_made}
use Rattle.search_numbers.specs.SearchNumbers.{searched_number, was_stopped, bytes_told, WhereSettled, WhereStopped, SearchKeepsBits}

-- no refusal, whether it was stopped, the bytes and the moves, or the refusal number, which is not 0
abbrev pub SearchSaid : Answer Told → Type 0
SearchSaid (accepted t) =
    (refusal (searched_number (accepted t)) ≡ 0) × (was_stopped (searched_number (accepted t)) ≡ t.stopped)
    × (bytes_told (searched_number (accepted t)) ≡ t.bytes) × (moves_made (searched_number (accepted t)) ≡ t.moves)
SearchSaid (refused k) = (refusal (searched_number (refused k)) ≡ k) × (1 ≤ k)

parts : (stopped : Bool) (set bytes moves : ℕ) → SearchKeepsBits (accepted (told stopped set bytes moves)) → SearchSaid (accepted (told stopped set bytes moves))
unfolding refusal was_stopped bytes_told moves_made
parts true set bytes moves (few, small) =
    let r = searched_number (accepted (told true set bytes moves)) in
    let bit : r / 2 ^ 31 % 2 ≡ 1 = omega arith in
    (omega arith, eq-eqb (r / 2 ^ 31 % 2) 1 bit, omega arith, omega arith)
parts false set bytes moves (few, small) =
    let r = searched_number (accepted (told false set bytes moves)) in
    let bit : r / 2 ^ 31 % 2 ≡ 0 = omega arith in
    (omega arith, ne_eqb (r / 2 ^ 31 % 2) 1 (λ e. omega (arith, bit, e)), omega arith, omega arith)

pub search_said : (a : Answer Told) → SearchKeepsBits a → SearchSaid a
unfolding refusal
search_said (accepted t) h = parts t.stopped t.set t.bytes t.moves h
search_said (refused k) (some, small) = (omega arith, some)

-- ---- what is promised of a settled search, and of a stopped one, is promised by the number

module _ (r : ℕ) (area : List ℕ) (P : ℕ → Type 0) where
  pub where_settled : {E : Type 0} (number : E → ℕ) (x : Result Searched E) → SearchKeepsBits (searched_by number x) → r ≡ searched_number (searched_by number x)
      → OfSettled x area P → WhereSettled r area P
  where_settled number (Ok (Settled set bytes moves)) within e h accepts stays =
      let says = search_said (accepted (told false set bytes moves)) within in
      subst (λ b. P (plan_set area b)) (sym (ap bytes_told e ∙ says.2)) (h set bytes moves refl)
  where_settled number (Ok (Stopped set bytes moves)) within e h accepts stays =
      let says = search_said (accepted (told true set bytes moves)) within in
      clash (ap was_stopped e ∙ says.1) stays
  where_settled number (Err unsearched) within e h accepts stays =
      absurd (omega (arith, sym (search_said (refused (number unsearched)) within).0 ∙ sym (ap refusal e) ∙ accepts, within.0))

  pub where_stopped : {E : Type 0} (number : E → ℕ) (x : Result Searched E) → SearchKeepsBits (searched_by number x) → r ≡ searched_number (searched_by number x)
      → OfStopped x area P → WhereStopped r area P
  where_stopped number (Ok (Settled set bytes moves)) within e h accepts stops =
      let says = search_said (accepted (told false set bytes moves)) within in
      clash stops (ap was_stopped e ∙ says.1)
  where_stopped number (Ok (Stopped set bytes moves)) within e h accepts stops =
      let says = search_said (accepted (told true set bytes moves)) within in
      subst (λ b. P (plan_set area b)) (sym (ap bytes_told e ∙ says.2)) (h set bytes moves refl)
  where_stopped number (Err unsearched) within e h accepts stops =
      absurd (omega (arith, sym (search_said (refused (number unsearched)) within).0 ∙ sym (ap refusal e) ∙ accepts, within.0))
