-- What a call of document 01 answers: "its whole result or one refusal number".
use Rattle.std.specs.Prelude.{ℕ, Bool, true, false}

pub data Answer (A : Type 0) : Type 0 where
  accepted : A → Answer A
  refused : ℕ → Answer A

-- "The first no gives the number and nothing else is looked at": number k where the question is answered no, else what comes after it
abbrev pub ask : {A : Type 0} → Bool → ℕ → Answer A → Answer A
ask true k rest = rest
ask false k rest = refused k

-- what is asked once the questions before it are passed
abbrev pub after : {A B : Type 0} → Answer A → (A → Answer B) → Answer B
after (accepted x) rest = rest x
after (refused k) rest = refused k
