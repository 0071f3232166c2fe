use Prim.Native.Nat.{ℕ, ◌+◌, ◌-◌, ◌*◌, ◌≤◌}
use mathlib.Core.Path.{◌≡◌, refl, sym, ◌∙◌, ap}
use mathlib.Core.List.{List}
use native.Mathlib.Omega.{arith}
use lib.ListN.{length, length-append}
use Rattle.texts.specs.Text.{written, Put}
use Rattle.texts.proofs.Writing.{as_text, both_put, kept}
use Rattle.compare.specs.Compare.{image_words, differences_below, differences, list_bytes}
use Rattle.compare.specs.Terms.{bytes_from}
use Rattle.compare.proofs.Below.{below_most, pass_four, more, list_none, length_list}
use Rattle.compare.proofs.put_list.Goals.{then-not-same_four, else-not-same_four}
use Rattle.compare.proofs.put_list.Goals as goal

module _ (first second : List ℕ) where
  abbrev text : ℕ → List ℕ
  text k = list_bytes (differences_below first second k)

  -- what is written below word k leaves room for the n words from there on
  room_for : {o x : List ℕ} {p : ℕ} (k n : ℕ) → Put o 0 (text k) x p → k + n ≤ image_words
      → 12 * length (differences first second) ≤ length o → p + length (bytes_from first second k n) ≤ length x
  unfolding differences
  room_for {o} {x} {p} k n w l f =
      let e = ap length (more first second k n) ∙ length-append (text k) (bytes_from first second k n) in
      omega (arith, w.behind, kept w, length_list (differences_below first second (k + n)), below_most first second (k + n) image_words l)

  -- the words of four more
  next_four : (k : ℕ) → text (4 * (k + 1)) ≡ text (4 * k + 4)
  next_four k = let e : 4 * (k + 1) ≡ 4 * k + 4 = omega arith in ap text e

pub loop-four-init : goal.loop-four-init
unfolding differences_below written
loop-four-init c = as_text (sym list_none) (record { bytes = refl; behind = refl })

pub put_differences-at-requires : goal.put_differences-at-requires
put_differences-at-requires c =
    let k : 4 * c.loop-four.four + 4 ≤ image_words = omega arith in
    (k, room_for c.args.first.now c.args.second.now (4 * c.loop-four.four) 4 c.loop-four.invariant k c.requires)

pub loop-four-preserved : goal.loop-four-preserved
loop-four-preserved c =
    let a = c.args.first.now in
    let b = c.args.second.now in
    let l = c.loop-four in
    let k = 4 * l.four in
    elim c.if-not-same_four.branch [
      | then-not-same_four w ↦
          let p = as_text (sym (next_four a b l.four ∙ more a b k 4)) (both_put l.invariant w.put_differences-at.ensures) in
          record { bytes = w.list-is ∙ p.bytes; behind = w.at-is ∙ p.behind }
      | else-not-same_four w ↦
          let e = pass_four a b k (sym c.same_four.ensures ∙ w.if-not-same_four.false) in
          let p = as_text (sym (next_four a b l.four ∙ ap list_bytes e)) l.invariant in
          record { bytes = w.list-is ∙ p.bytes; behind = w.at-is ∙ p.behind }
    ]

pub put_differences-requires : goal.put_differences-requires
put_differences-requires c =
    let a = c.args.first.now in
    let b = c.args.second.now in
    let e : 4 * c.loop-four.four ≡ image_words - 2 = omega arith in
    (omega arith, room_for a b (image_words - 2) 2 (as_text (ap (text a b) e) c.loop-four.invariant) (omega arith) c.requires)

pub returns : goal.returns
unfolding differences
returns c =
    let a = c.args.first.now in
    let b = c.args.second.now in
    let e : 4 * c.loop-four.four ≡ image_words - 2 = omega arith in
    as_text (sym (more a b (image_words - 2) 2)) (both_put (as_text (ap (text a b) e) c.loop-four.invariant) c.put_differences.ensures)
