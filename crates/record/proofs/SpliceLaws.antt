-- Laws of areas that are written from an offset on: bytes written behind bytes are one splice of both.
use Prim.Native.Nat.{ℕ, ◌+◌, ◌≤◌}
use native.Mathlib.Nat.{add_assoc, zero-add, add-zero}
use native.Mathlib.Omega.{arith}
use mathlib.Core.Path.{◌≡◌, refl, sym, ap, ◌∙◌}
use mathlib.Core.List.{List, [], ◌++◌, append_assoc, append-nil}
use lib.ListN.{length, take, drop, length-append, length-drop, take-append-drop}
use lib.Seq.{length-take-le, take_at, drop-append-add, drop-drop}
use Rattle.record.specs.Records.{bytes_of, splice}
use Rattle.record.specs.declared.Record.{Record}

pub length_bytes : (r : Record) → length (bytes_of r) ≡ 8
unfolding bytes_of
length_bytes r = refl

pub splice_is : (area : List ℕ) (at : ℕ) (bytes : List ℕ) → splice area at bytes ≡ take at area ++ bytes ++ drop (at + length bytes) area
unfolding splice
splice_is area at bytes = refl

-- from the start of the area: the bytes, and then what stood behind them
pub splice_front : (area bytes : List ℕ) → splice area 0 bytes ≡ bytes ++ drop (length bytes) area
unfolding splice
splice_front area bytes = ap (λ (k : ℕ). bytes ++ drop k area) (zero-add (length bytes))

pub splice_none : (area : List ℕ) (at : ℕ) → splice area at [] ≡ area
unfolding splice
splice_none area at = rw (add-zero, append-nil) (take-append-drop at area)

module _ (area : List ℕ) (at : ℕ) (bytes : List ℕ) (room : at + length bytes ≤ length area) where
  head_length : length (take at area ++ bytes) ≡ at + length bytes
  head_length = simp (length-append, length-take-le at area (omega arith))

  pub length_splice : length (splice area at bytes) ≡ length area
  unfolding splice
  length_splice = simp (length-append, length-take-le at area (omega arith), length-drop) (omega arith)

  -- what stands before the end of the spliced bytes, and what behind it
  splice_take : take (at + length bytes) (splice area at bytes) ≡ take at area ++ bytes
  unfolding splice
  splice_take = take_at (take at area ++ bytes) (drop (at + length bytes) area) (at + length bytes) head_length

  splice_drop : (k : ℕ) → drop (at + length bytes + k) (splice area at bytes) ≡ drop (at + length bytes + k) area
  unfolding splice
  splice_drop k =
      ap (λ (j : ℕ). drop (j + k) (take at area ++ bytes ++ drop (at + length bytes) area)) (sym head_length)
      ∙ drop-append-add (take at area ++ bytes) (drop (at + length bytes) area) k ∙ drop-drop k (at + length bytes) area

  pub splice_more : (more : List ℕ) → splice (splice area at bytes) (at + length bytes) more ≡ splice area at (bytes ++ more)
  splice_more more =
      splice_is (splice area at bytes) (at + length bytes) more
      ∙ ap (λ (h : List ℕ). h ++ more ++ drop (at + length bytes + length more) (splice area at bytes)) splice_take
      ∙ ap (λ (t : List ℕ). take at area ++ bytes ++ more ++ t) (splice_drop (length more))
      ∙ rw (splice_is area at (bytes ++ more), length-append bytes more, ← append_assoc (take at area) bytes more, add_assoc at (length bytes) (length more))

-- the same, as a writer goes on: the area after the bytes, and the offset behind them
pub splice_turn : (area next : List ℕ) (at end : ℕ) (bytes more : List ℕ) → next ≡ splice area at bytes → end ≡ at + length bytes
    → at + length bytes ≤ length area → splice next end more ≡ splice area at (bytes ++ more)
splice_turn area next at end bytes more e h room = rw (e, h) (splice_more area at bytes room more)
