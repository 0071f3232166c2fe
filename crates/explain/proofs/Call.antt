-- The call, case by case; and that it has one outcome.
use Prim.Native.Nat.{ℕ, ◌^◌, ◌<◌}
use mathlib.Core.Path.{◌≡◌, refl, sym, ◌∙◌, ap, subst}
use mathlib.Core.Bool.{Bool, true, false, cond, not, ◌&&◌, false≢true}
use mathlib.Core.List.{List}
use mathlib.Core.Logic.{◌≢◌}
use native.Mathlib.Decide.{ℕ_discrete}
use native.Mathlib.Nat.{mod-lt}
use native.Mathlib.Omega.{arith}
use lib.Pow.{pow_pos}
use lib.ListN.{length}
use borrow.Author.Tests.{eqb-true}
use Rattle.bits.proofs.Sets.{and_l}
use Rattle.words.specs.Word.{words_of}
use Rattle.words.specs.Bytes.{Bytes}
use Rattle.registers.specs.Block.{block_of}
use Rattle.answers.specs.Answer.{Refuses, Fitted}
use Rattle.answers.proofs.Lists.{same_end, fitted_unique}
use Rattle.good.specs.Good.{good_image}
use Rattle.events.specs.Parts.{event_bytes, operation, value, frame_of}
use Rattle.events.specs.Decode.{frame_refusal}
use Rattle.rules.specs.Words.{words, ◌is◌, MODE}
use Rattle.rules.specs.Image.{Good, bus_off, on_bus}
use Rattle.rules.proofs.Good.{good-rule, rule-good}
use Rattle.rules.proofs.Refusals.{frame_refused}
use Rattle.explain.specs.Explain.{lines, unheard, explained, list_bytes, refusal, ExplainCall}
use Rattle.explain.specs.Terms.{explained_by}
use Rattle.explain.proofs.Reasons.{same-order, same-reasons}
use Rattle.explain.proofs.Lines.{same-fitted}

-- the code's lines are the rule's
same_lines : (s e : List ℕ) → explained_by s (frame_of e) ≡ explained s e
unfolding explained block_of words_of
same_lines s e =
    λ i. cond (on_bus (words s)) (lines (same-order s i) (same-reasons s e i)) (unheard (words s MODE) (bus_off (words s)))

-- ---- the event

pub same-refusal : (s e : List ℕ) → Bytes e → frame_refusal e ≡ refusal s e
unfolding frame_refusal
same-refusal s e b = ap (λ (t : Bool). cond (not (length e is 16 && operation e is 2)) 2 (cond t 4 0)) (frame_refused e b (words s))

-- what is not refused is 16 bytes
pub a_frame_long : (e : List ℕ) → frame_refusal e ≡ 0 → length e ≡ event_bytes
unfolding frame_refusal
a_frame_long e h = at _ (length e is 16 && operation e is 2) refl h
  where
    at : (k : ℕ) (t : Bool) → (length e is 16 && operation e is 2) ≡ t → cond (not t) 2 k ≡ 0 → length e ≡ event_bytes
    at k true q z = eqb-true (length e) 16 (and_l (length e is 16) (operation e is 2) q)
    at k false q z = absurd (omega arith)

-- and its identifier has 29 bits
pub identifier-fits : (e : List ℕ) → (frame_of e).id.0 < 2 ^ 29
unfolding frame_of
identifier-fits e = mod-lt (value e) (pow_pos 29)

-- ---- by what is refused

module _ (s e o x : List ℕ) (r : ℕ) (bytes : Bytes s) where
  pub image-refused : good_image s ≡ false → Refuses 1 o x r → ExplainCall s e o x r
  image-refused h t =
      let n : Good s → ⊥ = λ g. false≢true (sym h ∙ rule-good s bytes g) in
      record { bad_image = λ z. t; bad_event = λ g. absurd (n g); told = λ g. absurd (n g) }

  module _ (small : Bytes e) (h : good_image s ≡ true) where
    pub event-refused : frame_refusal e ≢ 0 → Refuses (frame_refusal e) o x r → ExplainCall s e o x r
    event-refused d t =
        let q = same-refusal s e small in
        record {
          bad_image = λ n. absurd (n (good-rule s bytes h));
          bad_event = λ g z. subst (λ (k : ℕ). Refuses k o x r) q t;
          told = λ g z. absurd (d (q ∙ z));
        }

    pub lines-told : frame_refusal e ≡ 0 → Fitted (length (explained_by s (frame_of e))) (list_bytes (explained_by s (frame_of e))) o x r → ExplainCall s e o x r
    lines-told z t =
        record {
          bad_image = λ n. absurd (n (good-rule s bytes h));
          bad_event = λ g d. absurd (d (sym (same-refusal s e small) ∙ z));
          told = λ g q. same-fitted (same_lines s e) t;
        }

-- Why did it land there: two outcomes that meet the promise are the same
pub explain_unique : (s e : List ℕ) → Bytes s → (o x y : List ℕ) (r q : ℕ) → ExplainCall s e o x r → ExplainCall s e o y q → (x ≡ y) × (r ≡ q)
explain_unique s e bytes o x y r q c d = at (good_image s) refl (ℕ_discrete (refusal s e) 0)
  where
    at : (t : Bool) → good_image s ≡ t → Dec (refusal s e ≡ 0) → (x ≡ y) × (r ≡ q)
    at false h k =
        let n : Good s → ⊥ = λ g. false≢true (sym h ∙ rule-good s bytes g) in
        same_end (c.bad_image n) (d.bad_image n)
    at true h (no n) = let g = good-rule s bytes h in same_end (c.bad_event g n) (d.bad_event g n)
    at true h (yes z) = let g = good-rule s bytes h in fitted_unique (c.told g z) (d.told g z)
