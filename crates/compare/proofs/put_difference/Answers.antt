use Prim.Native.Nat.{◌+◌, ◌*◌, ◌≤◌}
use mathlib.Core.Path.{refl, sym, ◌∙◌, ap}
use mathlib.Core.List.{List}
use native.Mathlib.Omega.{arith}
use native.Mathlib.Nat.{add-zero}
use lib.ListN.{length}
use Rattle.texts.specs.Text.{written}
use Rattle.texts.proofs.Writing.{as_text}
use Rattle.compare.specs.declared.Entry.{Entry}
use Rattle.compare.specs.Compare.{difference, list_bytes}
use Rattle.compare.proofs.Below.{word_same, word-other, list_none, list_one, length_list}
use Rattle.compare.proofs.put_difference.Goals as goal

pub returns-then-x-y : goal.returns-then-x-y
unfolding written
returns-then-x-y c =
    let a = c.args in
    let e = word_same a.first.now a.second.now a.k c.word_at-x.ensures c.word_at-y.ensures (omega arith) in
    as_text (sym (ap list_bytes e ∙ list_none)) (record { bytes = refl; behind = sym (add-zero a.at) })

pub put_entry-requires : goal.put_entry-requires
put_entry-requires c =
    let a = c.args in
    let e = word-other a.first.now a.second.now a.k c.word_at-x.ensures c.word_at-y.ensures (λ q. omega arith) in
    let f : a.at + length (list_bytes (difference a.first.now a.second.now a.k)) ≤ length a.list.now = c.requires.1 in
    let n = length_list (difference a.first.now a.second.now a.k) ∙ ap (λ (l : List Entry). 12 * length l) e in
    let g : a.at + 12 ≤ length a.list.now = omega arith in
    g

pub returns : goal.returns
returns c =
    let a = c.args in
    let e = word-other a.first.now a.second.now a.k c.word_at-x.ensures c.word_at-y.ensures (λ q. omega arith) in
    as_text (sym (ap list_bytes e ∙ list_one _)) c.put_entry.ensures
