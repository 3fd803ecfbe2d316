-- What holds of every refusal number of eight bits that is not 0 holds of a call's answer, where it holds of its result: the questions that are asked
-- before it give no other numbers.
use Prim.Native.Nat.{ℕ, ◌^◌, ◌≤◌, ◌<◌}
use native.Mathlib.Omega.{arith}
use mathlib.Core.Path.{◌≡◌, refl}
use mathlib.Core.Bool.{Bool, true, false}
use mathlib.Core.List.{List}
use Rattle.model.specs.Answers.{Answer, accepted, refused, ask, after}
use Rattle.questions.specs.declared.Counts.{Counts}
use Rattle.questions.specs.Reading.{counts, reading}
use Rattle.questions.proofs.ReadingLaws.{refused_by}
use Rattle.tariff.specs.declared.TariffChoice.{TariffChoice}
use Rattle.distances.specs.Priced.{sheet_by}
use Rattle.distances.proofs.CallLaws.{sheet_numbered}

module _ {A : Type 0} (Keeps : Answer A → Type 0) (numbered : (k : ℕ) → 1 ≤ k → k < 2 ^ 8 → Keeps (refused k)) where
  -- after a question
  pub asked_within : (b : Bool) (k : ℕ) (rest : Answer A) → 1 ≤ k → k < 2 ^ 8 → (b ≡ true → Keeps rest) → Keeps (ask b k rest)
  asked_within true k rest some few h = h refl
  asked_within false k rest some few h = numbered k some few

  -- after reading
  pub after_within : (s : List ℕ) (f : Counts → Answer A) → ((m n : ℕ) → reading s ≡ accepted (counts m n) → Keeps (f (counts m n)))
      → Keeps (after (reading s) f)
  after_within s f h = go (reading s) refl
    where
      go : (r : Answer Counts) → reading s ≡ r → Keeps (after r f)
      go (accepted c) e = h c.yards c.farms e
      go (refused k) e = let l = refused_by s k e in numbered k l.0 (omega (arith, l.1))

  -- by a tariff
  pub by_within : (choice : TariffChoice) (tariff s : List ℕ) (call : List ℕ → Answer A) → ((h : List ℕ) → Keeps (call h)) → Keeps (after (sheet_by choice tariff s) call)
  by_within choice tariff s call within = go (sheet_by choice tariff s) refl
    where
      go : (a : Answer (List ℕ)) → sheet_by choice tariff s ≡ a → Keeps (after a call)
      go (accepted h) e = within h
      go (refused k) e = let l = sheet_numbered choice tariff s k e in numbered k l.0 (omega (arith, l.1))
