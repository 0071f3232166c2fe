-- What a C caller sees: the promises of fresh, step, read, listing and compare are the rulebook's, which leave no choice.
use Prim.Native.Nat.{ℕ, ◌+◌, ◌*◌, ◌^◌}
use mathlib.Core.Path.{◌≡◌, refl, sym, ◌∙◌, ap}
use mathlib.Core.Bool.{Bool, true, false, false≢true}
use mathlib.Core.List.{List}
use mathlib.Core.Logic.{◌⊎◌, inl, inr, ◌↔◌}
use Rattle.bits.proofs.Sets.{and_l, and_r}
use Rattle.words.proofs.Bytes.{Bytes}
use Rattle.answers.specs.Answer.{Outcome, Reading, Promise, ReadPromise}
use Rattle.fresh.specs.Fresh.{fresh}
use Rattle.reading.specs.Read.{read}
use Rattle.model.specs.Step.{step}
use Rattle.good.specs.Good.{good_image}
use Rattle.compare.specs.Compare.{Compares}
use Rattle.compare.specs.Terms.{both_good}
use Rattle.compare.proofs.Call.{call_as, call_unique}
use Rattle.trace.specs.Trace.{Listed}
use Rattle.trace.proofs.Unique.{same_bytes, same_answer}
use Rattle.rules.proofs.Call.{call}
use Rattle.rules.specs.Calls.{Call, FreshCall, StepCall, ReadCall, ListingCall, CompareCall}
use Rattle.rules.specs.Image.{Good}
use Rattle.rules.proofs.Good.{good-rule, rule-good}
use Rattle.rules.proofs.Fresh.{fresh_meets, fresh-one}
use Rattle.rules.proofs.Reading.{reads, read_one}
use Rattle.rules.proofs.Listing.{lists, listed}
use Rattle.rules.proofs.Step.{step_meets, rules_one}

-- ---- a promise about an outcome that keeps the rules

pub fresh_call : (s x : List ℕ) (p a : ℕ) → Promise (fresh s p) x a → FreshCall s p x a
fresh_call s x p a = call _ (fresh s p) x a (fresh_meets s p)

pub step_call : (s e x : List ℕ) (a : ℕ) → Bytes s → Bytes e → Promise (step s e) x a → StepCall s e x a
step_call s e x a b y = call _ (step s e) x a (step_meets s e b y)

pub read_call : (s : List ℕ) (k a : ℕ) → Bytes s → ReadPromise (read s k) a → ReadCall s k a
read_call s k a b p = record { reading = read s k; keeps = reads s b k; packs = p.answered }

pub listing_call : (f o x : List ℕ) (a : ℕ) → Bytes f → Listed f o x a → ListingCall f o x a
listing_call f o x a b = lists f b o x a

-- both images are good by the test exactly where they are by the rules
both : (a b : List ℕ) → Bytes a → Bytes b → (both_good a b ≡ true) ↔ (Good a × Good b)
both a b p q = (
  λ h. (good-rule a p (and_l (good_image a) (good_image b) h), good-rule b q (and_r (good_image a) (good_image b) h)),
  λ g. rw (rule-good a p g.0, rule-good b q g.1),
)

pub compare_call : (a b o x : List ℕ) (r : ℕ) → Bytes a → Bytes b → Compares (both_good a b ≡ true) a b o x r → CompareCall a b o x r
compare_call a b o x r p q = call_as a b _ _ (both a b p q) o x r

-- ---- two results that keep the rules coincide

one : (P : Outcome → Type 0) → ((o u : Outcome) → P o → P u → o ≡ u) → (x y : List ℕ) (a b : ℕ) → Call P x a → Call P y b → (x ≡ y) × (a ≡ b)
one P h x y a b p q =
    let e = h p.outcome q.outcome p.keeps q.keeps in (
      p.image ∙ ap (λ (o : Outcome). o.image) e ∙ sym q.image,
      p.packs ∙ ap (λ (o : Outcome). o.refusal + 256 * o.mailbox + 65536 * o.count) e ∙ sym q.packs,
    )

pub fresh_unique : (s : List ℕ) (p : ℕ) (x y : List ℕ) (a b : ℕ) → FreshCall s p x a → FreshCall s p y b → (x ≡ y) × (a ≡ b)
fresh_unique s p = one _ (fresh-one s p)

pub step_unique : (s e : List ℕ) → Bytes s → Bytes e → (x y : List ℕ) (a b : ℕ) → StepCall s e x a → StepCall s e y b → (x ≡ y) × (a ≡ b)
step_unique s e h k = one _ (rules_one s e h k)

pub read_unique : (s : List ℕ) → Bytes s → (k a b : ℕ) → ReadCall s k a → ReadCall s k b → a ≡ b
read_unique s h k a b p q =
    p.packs
    ∙ ap (λ (r : Reading). r.value + 2 ^ 32 * r.refusal) (read_one s h k p.reading q.reading p.keeps q.keeps)
    ∙ sym q.packs

pub listing_unique : (f o : List ℕ) → Bytes f → (x y : List ℕ) (a b : ℕ) → ListingCall f o x a → ListingCall f o y b → (x ≡ y) × (a ≡ b)
listing_unique f o h x y a b p q =
    let k = listed f h o x a p in
    let l = listed f h o y b q in
    (same_bytes k l, same_answer k l)

pub compare_unique : (a b : List ℕ) → Bytes a → Bytes b → (o x y : List ℕ) (r s : ℕ) → CompareCall a b o x r → CompareCall a b o y s → (x ≡ y) × (r ≡ s)
compare_unique a b p q = call_unique a b (Good a × Good b) (judged (both_good a b) refl)
  where
    judged : (t : Bool) → both_good a b ≡ t → (Good a × Good b) ⊎ ((Good a × Good b) → ⊥)
    judged true h = inl ((both a b p q).0 h)
    judged false h = inr (λ g. false≢true (sym h ∙ (both a b p q).1 g))
