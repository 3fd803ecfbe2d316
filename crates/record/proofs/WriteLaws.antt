-- Laws for writers: one record or two, and a loop that writes the parts f 0, f 1, .. of at most eight bytes each from an offset on.
use Prim.Native.Nat.{ℕ, ◌+◌, ◌*◌, ◌≤◌}
use native.Mathlib.Omega.{arith}
use mathlib.Core.Path.{◌≡◌, sym, ap, ◌∙◌}
use mathlib.Core.List.{List, ◌++◌}
use lib.ListN.{length, length-append}
use Rattle.model.specs.Loops.{join}
use Rattle.model.proofs.LoopLaws.{join_none, join_more}
use Rattle.record.specs.Records.{bytes_of, splice, put_at}
use Rattle.record.specs.declared.Record.{Record}
use Rattle.record.proofs.RecordLaws.{put_fits}
use Rattle.record.proofs.SpliceLaws.{length_bytes, splice_none, splice_turn, length_splice}

-- a record r put at an offset is q's bytes there, where r is q
pub put_one : (area next : List ℕ) (at : ℕ) (r q : Record) → at + 8 ≤ length area → r ≡ q → next ≡ put_at area at r
    → next ≡ splice area at (bytes_of q)
put_one area next at r q room e put = put ∙ put_fits area at r room ∙ ap (λ (x : Record). splice area at (bytes_of x)) e

-- the same of two, one behind the other
pub put_two : (area next last : List ℕ) (at : ℕ) (r q t u : Record) → at + 16 ≤ length area → r ≡ q → next ≡ put_at area at r
    → t ≡ u → last ≡ put_at next (at + 8) t → last ≡ splice area at (bytes_of q ++ bytes_of u)
put_two area next last at r q t u room e put e' put' =
    let first : next ≡ splice area at (bytes_of q) = put_one area next at r q (omega arith) e put in
    let fits : at + length (bytes_of q) ≤ length area = omega (arith, length_bytes q) in
    let long : length next ≡ length area = ap length first ∙ length_splice area at (bytes_of q) fits in
    put_one next last (at + 8) t u (omega arith) e' put'
    ∙ splice_turn area next at (at + 8) (bytes_of q) (bytes_of u) first (omega (arith, length_bytes q)) fits

module _ (f : ℕ → List ℕ) (area₀ : List ℕ) (start : ℕ) where
  -- the area with the first i parts behind the start, and the offset behind them
  pub record PutSoFar (area : List ℕ) (at i : ℕ) : Type 0 where
    pub at_is : at ≡ start + length (join i f)
    pub few : at ≤ start + 8 * i
    pub long : length area ≡ length area₀
    pub parts : area ≡ splice area₀ start (join i f)

  pub filled_none : PutSoFar area₀ start 0
  filled_none =
      record {
        at_is = rw join_none (omega arith);
        few = omega arith;
        long = omega arith;
        parts = rw join_none (sym (splice_none area₀ start));
      }

  pub filled_more : (area next : List ℕ) (at end i : ℕ) → PutSoFar area at i → length (f i) ≤ 8 → start + 8 * i + 8 ≤ length area₀
      → end ≡ at + length (f i) → next ≡ splice area at (f i) → PutSoFar next end (i + 1)
  filled_more area next at end i h short room e put =
      let more : length (join (i + 1) f) ≡ length (join i f) + length (f i) = rw (join_more, length-append) in
      record {
        at_is = omega (arith, h.at_is);
        few = omega (arith, h.few);
        long = ap length put ∙ length_splice area at (f i) (omega (arith, h.few, h.long)) ∙ h.long;
        parts =
            put ∙ splice_turn area₀ area start at (join i f) (f i) h.parts h.at_is (omega (arith, h.few, h.at_is))
            ∙ ap (splice area₀ start) (sym (join_more f i));
      }

  -- parts that are empty need no turn
  pub filled_same : (area : List ℕ) (at i k : ℕ) → i ≤ k → join k f ≡ join i f → PutSoFar area at i → PutSoFar area at k
  filled_same area at i k up same h =
      record { at_is = rw same h.at_is; few = omega (arith, h.few); long = h.long; parts = rw same h.parts }
