-- The code of a part: the state is read, the part is taken, and the state is written again.
use Prim.Native.Nat.{ℕ, ◌-◌, ◌≤◌}
use mathlib.Core.Path.{◌≡◌, sym, ◌∙◌, ap, ap₂, subst}
use mathlib.Core.Bool.{Bool, true}
use mathlib.Core.List.{List, ◌++◌}
use native.Mathlib.Omega.{arith}
use lib.ListN.{length, take, drop, replicate, length-drop, length-replicate}
use lib.Seq.{drop_at, length-take-le}
use Rattle.words.proofs.Bytes.{Bytes}
use Rattle.stream.specs.declared.Reader.{Reader}
use Rattle.stream.specs.declared.Taken.{Taken}
use Rattle.stream.specs.Stream.{Standing, printed}
use Rattle.stream.specs.Calls.{state_of, standing, ready}
use Rattle.stream.specs.Terms.{standing_by, reader_of, Ready, Clean, room_for, Fed, Taking, numbers}
use Rattle.stream.proofs.State.{ready-standing, seen_few}
use Rattle.stream.proofs.FromState.{zeros_behind}
use Rattle.stream.proofs.Kept.{state_made}

-- e are the bytes behind the four words
module _ (s t : List ℕ) (l : length t ≡ 32) (d : ready t ≡ true) {r : Reader} (h : r ≡ reader_of t) {e : List ℕ} (m : e ≡ drop 16 t) where
  seen_is : r.seen ≡ (reader_of t).seen
  seen_is = ap (λ (r : Reader). r.seen) h

  pub seen_most : r.seen ≤ 15
  seen_most = omega (arith, seen_is, seen_few t d)

  pub event-clean : Clean r.seen e
  event-clean = ap₂ drop seen_is m ∙ zeros_behind t l d ∙ ap (λ (n : ℕ). replicate (16 - n) 0) (sym seen_is)

  stood : standing_by r e s ≡ standing s t
  unfolding standing
  stood = ap₂ (λ (r : Reader) (e : List ℕ). standing_by r e s) h m

  pub stands : Bytes t → Ready (standing_by r e s)
  stands b = subst Ready (sym stood) (ready-standing s t l b d)

  pub same_room : (keeps : Bool) (part : List ℕ) {n : ℕ} → room_for keeps (length (printed (standing s t) part)) ≤ n → room_for keeps (length (printed (standing_by r e s) part)) ≤ n
  same_room keeps part {n} = subst (λ (σ : Standing). room_for keeps (length (printed σ part)) ≤ n) (sym stood)

  -- these bytes, put back into the state
  back : {n : ℕ} (f : List ℕ) → n ≡ 16 → drop 16 (take n t ++ f) ≡ f
  back {n} f k = drop_at (take n t) f 16 (length-take-le n t (omega arith) ∙ k)

  pub part-taken : {keeps : Bool} {part o f u x y : List ℕ} {q : Taken} {n : ℕ} → n ≡ 16 → Fed keeps (standing_by r e s) part o f u x q
      → y ≡ numbers q.reader (drop 16 (take n t ++ f)) → Taking keeps (standing s t) part o u y x q
  part-taken {keeps} {part} {o} {f} {u} {x} {y} {q} i w k =
      let g : Fed keeps (standing s t) part o f u x q = subst (λ (σ : Standing). Fed keeps σ part o f u x q) stood w in
      let n : length f ≡ 16 = omega (arith, g.few, ap length g.clean, length-drop q.reader.seen f, length-replicate {A = ℕ} (16 - q.reader.seen) 0) in
      record {
        image_is = ap (λ (σ : Standing). σ.image) g.next;
        state_is = k ∙ ap (numbers q.reader) (back f i) ∙ state_made q.reader f u n g.few g.clean ∙ ap state_of g.next;
        section_is = ap (λ (σ : Standing). σ.section) g.next;
        counted = g.counted;
        text = g.text;
      }
