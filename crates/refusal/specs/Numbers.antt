-- The numbers by which documents 01 and 02 name their questions, and what a call answers by them.
use Rattle.std.specs.Prelude.{ℕ, Result, Ok, Err}
use Rattle.model.specs.Answers.{Answer, accepted, refused}
use Rattle.refusal.specs.declared.Refusal.{Refusal}
use Rattle.refusal.specs.declared.Refusal.TheVariants.{Room, Length, Kind, Yards, Hauls, Amount, FourPoints, YardCount, Set, Area, Loads, Tariff, Rate, Distance, ShutYard, Offers, Excess}

-- 1 to 9: document 01. 10: paper 2. 11 to 13: paper 3. 14: paper 5. 15 and 16: paper 10. No question has the number 0.
abbrev pub number_of : Refusal → ℕ
number_of Room = 0
number_of Length = 1
number_of Kind = 2
number_of Yards = 3
number_of Hauls = 4
number_of Amount = 5
number_of FourPoints = 6
number_of YardCount = 7
number_of Set = 8
number_of Area = 9
number_of Loads = 10
number_of Tariff = 11
number_of Rate = 12
number_of Distance = 13
number_of ShutYard = 14
number_of Offers = 15
number_of Excess = 16

-- document 01's answer in each case of a result, where each error has a number
abbrev pub answer_by : {A E : Type 0} → (E → ℕ) → Result A E → Answer A
answer_by number (Ok x) = accepted x
answer_by number (Err e) = refused (number e)

-- that of a call, which refuses by a question
abbrev pub answer_of : {A : Type 0} → Result A Refusal → Answer A
answer_of r = answer_by number_of r
