-- Fresh is what the rulebook asks, and the rulebook asks nothing else.
use Prim.Native.Nat.{ℕ, ◌+◌, ◌*◌, ◌<◌, ◌≤◌}
use mathlib.Core.Path.{◌≡◌, refl, sym, ◌∙◌, ap, subst}
use mathlib.Core.List.{List}
use native.Mathlib.Decide.{dec_lt, ℕ_discrete}
use native.Mathlib.Omega.{arith}
use lib.ListN.{length}
use borrow.Author.Tests.{eq-eqb, ne_eqb, le-leb, lt-leb}
use Rattle.registers.specs.Modes.{risen}
use Rattle.registers.proofs.Laws.{byte-stays}
use Rattle.good.proofs.Image.{small}
use Rattle.answers.specs.Answer.{Outcome as Result, accepted}
use Rattle.fresh.specs.Fresh.{fresh_block, zero_image, fresh_image, fresh}
use Rattle.fresh.proofs.Good.{zero-length, zero_word, fresh_block_lem, fresh_facts}
use Rattle.model.proofs.Meets.{calm}
use Rattle.rules.specs.Words.{words, byte}
use Rattle.rules.specs.Fresh.{FreshWords}
use Rattle.rules.specs.Step.{Fresh}
use Rattle.rules.proofs.Outcomes.{outcome_by, refused_is, refused-one}
use Rattle.rules.proofs.Blocks.{of_block, put-words, image_by}
use Rattle.rules.proofs.Sending.{zeros, fresh-rule}
use Rattle.rules.proofs.Unique.{reset-one}

module _ (p : ℕ) (known : p ≤ 1) where
  fresh-words : words (fresh_image p) ≡ of_block (words zero_image) (fresh_block p)
  unfolding fresh_image
  fresh-words =
      let f = fresh_block_lem p known in
      put-words zero_image (fresh_block p) zero-length (small (fresh_block p) f.core f.waits.most)

  -- the counters of a fresh block are 0, so that no flag rises
  fresh_calm : risen (fresh_block p) (fresh_block p) ≡ fresh_block p
  fresh_calm = calm (fresh_block p) (fresh_block p) refl (omega arith)

  fresh-registers : FreshWords p (words (fresh_image p))
  fresh-registers =
      subst (FreshWords p)
      (ap (of_block (words zero_image)) fresh_calm ∙ sym fresh-words)
      (fresh-rule (words zero_image) (λ k h q r. zero_word (512 + 4 * k)) p (fresh_block p))

  fresh-byte : (i : ℕ) → i < 512 → byte (fresh_image p) i ≡ 0
  unfolding fresh_image zero_image
  fresh-byte i l = byte-stays zero_image (fresh_block p) i l ∙ zeros 776 i

  pub filled : (s : List ℕ) → length s ≡ 776 → fresh s p ≡ accepted (fresh_image p)
  unfolding fresh
  filled s h = rw (eq-eqb (length s) 776 h, le-leb p 1 known)

pub fresh_meets : (s : List ℕ) (p : ℕ) → Fresh s p (fresh s p)
unfolding fresh
fresh_meets s p =
    record {
      other = λ h. refused_is s 1 (fresh s p) (rw (ne_eqb (length s) 776 h));
      unknown = λ h l. refused_is s 4 (fresh s p) (rw (eq-eqb (length s) 776 h, lt-leb p 1 l));
      registers = λ h k. subst (λ (o : Result). FreshWords p (words o.image)) (sym (filled p k s h)) (fresh-registers p k);
      boxes = λ h k i l. ap (λ (o : Result). byte o.image i) (filled p k s h) ∙ fresh-byte p k i l;
      answers = λ h k. rw (filled p k s h) (refl, (refl, refl));
      size =
          λ h k.
          let f = fresh_facts p k in
          subst (λ (o : Result). (length o.image ≡ 776) × ((i : ℕ) → byte o.image i < 256)) (sym (filled p k s h)) (f.size, f.bytes.small);
    }

pub fresh-one : (s : List ℕ) (n : ℕ) (o u : Result) → Fresh s n o → Fresh s n u → o ≡ u
fresh-one s n o u p q = at (ℕ_discrete (length s) 776) (dec_lt 1 n)
  where
    at : Dec (length s ≡ 776) → Dec (1 < n) → o ≡ u
    at (no d) e = refused-one s 1 o u (p.other d) (q.other d)
    at (yes h) (yes l) = refused-one s 4 o u (p.unknown h l) (q.unknown h l)
    at (yes h) (no l) =
        let k : n ≤ 1 = omega arith in
        let x = p.answers h k in
        let y = q.answers h k in
        let image =
        image_by o.image u.image (p.size h k).0 (q.size h k).0 (record { small = (p.size h k).1 }) (record { small = (q.size h k).1 })
        (λ i l. p.boxes h k i l ∙ sym (q.boxes h k i l)) (reset-one n (words o.image) (words u.image) (p.registers h k) (q.registers h k)) in
        outcome_by o u image (x.0 ∙ sym y.0) (x.1.0 ∙ sym y.1.0) (x.1.1 ∙ sym y.1.1)
