-- A run without the test whether the image is good: from a good image, with events of bytes, it stays good. So the checker need not
-- compute that test at every step.
use Prim.Native.Nat.{ℕ, zero, suc, ◌+◌, ◌/◌, ◌%◌}
use mathlib.Core.Path.{◌≡◌, refl, ◌∙◌, ap, ap₂}
use mathlib.Core.Bool.{Bool, true, false, cond, ◌&&◌}
use mathlib.Core.List.{List, [], ◌∷◌, ◌++◌}
use native.Mathlib.Omega.{arith}
use lib.Dec.{eqb, ltb}
use lib.ListN.{set}
use borrow.Author.Tests.{ltb-true}
use Rattle.bits.proofs.Sets.{and_l, and_r}
use Rattle.words.specs.Word.{put_word, put_words}
use Rattle.words.proofs.Bytes.{Bytes, bytes-nil, bytes-cons}
use Rattle.registers.specs.Block.{registers_at, protection_at, block_of, put_block, first_words, last_words}
use Rattle.registers.specs.Status.{ecan, asleep}
use Rattle.events.specs.declared.Event.{Event}
use Rattle.events.specs.declared.Frame.{Frame}
use Rattle.events.specs.Decode.{event, decoded}
use Rattle.good.proofs.Image.{GoodImage, image-good}
use Rattle.refusals.specs.Refusal.{refusal, remaining}
use Rattle.refusals.proofs.Order.{refusal-good}
use Rattle.answers.specs.Answer.{Outcome, no_mailbox, refused}
use Rattle.model.specs.Step.{goes, block_after, beside_after, count_of, named, accepted, step}
use Rattle.model.proofs.Kept.{step-good}
use Rattle.books.specs.Ledger.{Happening, one}
use Rattle.books.specs.Happen.{happens, happenings, history}
use Rattle.books.specs.Frames.{is_frame, brings, frames_in}
use Rattle.sample.specs.Overload.{Seen, seen, seen_of, watch}

-- ---- words put into a list in one walk, where put_words walks it for every byte

unfoldable pub in_row : List ℕ → List ℕ → List ℕ
in_row s [] = s
in_row [] (w ∷ ws) = put_words [] 0 (w ∷ ws)
in_row (a ∷ []) (w ∷ ws) = put_words (a ∷ []) 0 (w ∷ ws)
in_row (a ∷ b ∷ []) (w ∷ ws) = put_words (a ∷ b ∷ []) 0 (w ∷ ws)
in_row (a ∷ b ∷ c ∷ []) (w ∷ ws) = put_words (a ∷ b ∷ c ∷ []) 0 (w ∷ ws)
in_row (a ∷ b ∷ c ∷ d ∷ s) (w ∷ ws) = w % 256 ∷ w / 256 % 256 ∷ w / 65536 % 256 ∷ w / 16777216 % 256 ∷ in_row s ws

unfoldable pub walked : List ℕ → ℕ → List ℕ → List ℕ
walked s zero ws = in_row s ws
walked [] (suc at) ws = put_words [] (suc at) ws
walked (a ∷ s) (suc at) ws = a ∷ walked s at ws

put-behind : (a : ℕ) (s : List ℕ) (at v : ℕ) → put_word (a ∷ s) (suc at) v ≡ a ∷ put_word s at v
unfolding put_word
put-behind a s at v =
    let e1 : suc at + 1 ≡ suc (at + 1) = omega arith in
    let e2 : suc at + 2 ≡ suc (at + 2) = omega arith in
    let e3 : suc at + 3 ≡ suc (at + 3) = omega arith in
    λ i. set (set (set (set (a ∷ s) (suc at) (v % 256)) (e1 i) (v / 256 % 256)) (e2 i) (v / 65536 % 256)) (e3 i) (v / 16777216 % 256)

puts_behind : (a : ℕ) (s : List ℕ) (at : ℕ) (ws : List ℕ) → put_words (a ∷ s) (suc at) ws ≡ a ∷ put_words s at ws
unfolding put_words
puts_behind a s at [] = refl
puts_behind a s at (w ∷ ws) =
    let e : suc at + 4 ≡ suc (at + 4) = omega arith in
    ap (λ (x : List ℕ). put_words x (suc at + 4) ws) (put-behind a s at w)
    ∙ ap (λ (k : ℕ). put_words (a ∷ put_word s at w) k ws) e
    ∙ puts_behind a (put_word s at w) (at + 4) ws

in_row_lem : (s ws : List ℕ) → put_words s 0 ws ≡ in_row s ws
unfolding in_row put_words put_word
in_row_lem s [] = refl
in_row_lem [] (w ∷ ws) = refl
in_row_lem (a ∷ []) (w ∷ ws) = refl
in_row_lem (a ∷ b ∷ []) (w ∷ ws) = refl
in_row_lem (a ∷ b ∷ c ∷ []) (w ∷ ws) = refl
in_row_lem (a ∷ b ∷ c ∷ d ∷ s) (w ∷ ws) =
    let x = w % 256 in
    let y = w / 256 % 256 in
    let z = w / 65536 % 256 in
    let u = w / 16777216 % 256 in
    puts_behind x (y ∷ z ∷ u ∷ s) 3 ws
    ∙ ap (λ (l : List ℕ). x ∷ l) (puts_behind y (z ∷ u ∷ s) 2 ws)
    ∙ ap (λ (l : List ℕ). x ∷ y ∷ l) (puts_behind z (u ∷ s) 1 ws)
    ∙ ap (λ (l : List ℕ). x ∷ y ∷ z ∷ l) (puts_behind u s 0 ws ∙ ap (λ (l : List ℕ). u ∷ l) (in_row_lem s ws))

in_one_walk : (s : List ℕ) (at : ℕ) (ws : List ℕ) → put_words s at ws ≡ walked s at ws
unfolding walked
in_one_walk s zero ws = in_row_lem s ws
in_one_walk [] (suc at) ws = refl
in_one_walk (a ∷ s) (suc at) ws = puts_behind a s at ws ∙ ap (λ (l : List ℕ). a ∷ l) (in_one_walk s at ws)

-- ---- the run

abbrev pub onward : List ℕ → Event → List ℕ
onward s e = walked (walked (beside_after s e) registers_at (first_words (block_after s e))) protection_at (last_words (block_after s e))

goes-onward : (s : List ℕ) (e : Event) → (accepted s e).image ≡ onward s e
unfolding accepted put_block
goes-onward s e =
    let b = block_after s e in
    in_one_walk (put_words (beside_after s e) registers_at (first_words b)) protection_at (last_words b)
    ∙ ap (λ (x : List ℕ). walked x protection_at (last_words b)) (in_one_walk (beside_after s e) registers_at (first_words b))

abbrev pub taken : List ℕ → List ℕ → Bool
taken s e = eqb (remaining s (decoded (asleep (block_of s)) (ecan (block_of s)) e)) 0

abbrev pub quick : List ℕ → List ℕ → List ℕ
quick s e = cond (taken s e) (onward s (event e)) s

-- the happenings at a mailbox, the frames that pass a test, and what is seen, by such steps
unfoldable pub pass : ℕ → List ℕ → List (List ℕ) → List Happening
pass m s [] = []
pass m s (e ∷ l) = cond (taken s e) (happens s (event e) m) [] ++ pass m (quick s e) l

unfoldable pub tally : (List ℕ → Frame → Bool) → List ℕ → List (List ℕ) → ℕ
tally test s [] = 0
tally test s (e ∷ l) = one (taken s e && is_frame (test s) (event e)) + tally test (quick s e) l

abbrev pub glance : List ℕ → List ℕ → Seen
glance s e =
    seen (cond (taken s e) (named s (event e)) no_mailbox) (cond (taken s e) (count_of (goes s (event e))) 0) (block_of (quick s e)).rmp (block_of (quick s e)).rml

unfoldable pub glances : List ℕ → List (List ℕ) → List Seen
glances s [] = []
glances s (e ∷ l) = glance s e ∷ glances (quick s e) l

abbrev pub AllBytes : List (List ℕ) → Type 0
AllBytes [] = Unit
AllBytes (e ∷ l) = Bytes e × AllBytes l

-- the same by a test
abbrev is_bytes : List ℕ → Bool
is_bytes [] = true
is_bytes (a ∷ e) = ltb a 256 && is_bytes e

abbrev pub are_bytes : List (List ℕ) → Bool
are_bytes [] = true
are_bytes (e ∷ l) = is_bytes e && are_bytes l

is_bytes_lem : (e : List ℕ) → is_bytes e ≡ true → Bytes e
is_bytes_lem [] h = bytes-nil
is_bytes_lem (a ∷ e) h = bytes-cons (ltb-true a 256 (and_l (ltb a 256) (is_bytes e) h)) (is_bytes_lem e (and_r (ltb a 256) (is_bytes e) h))

pub are_bytes_lem : (l : List (List ℕ)) → are_bytes l ≡ true → AllBytes l
are_bytes_lem [] h = tt
are_bytes_lem (e ∷ l) h = (is_bytes_lem e (and_l (is_bytes e) (are_bytes l) h), are_bytes_lem l (and_r (is_bytes e) (are_bytes l) h))

-- a good image is taken one step further
module _ (s e : List ℕ) (g : GoodImage s) where
  as_taken : eqb (refusal s e) 0 ≡ taken s e
  as_taken = ap (λ (r : ℕ). eqb r 0) (refusal-good s e (image-good s g))

  by_taken : step s e ≡ cond (taken s e) (accepted s (event e)) (refused s (refusal s e))
  unfolding step
  by_taken = ap (λ (t : Bool). cond t (accepted s (event e)) (refused s (refusal s e))) as_taken

  goes_quick : (step s e).image ≡ quick s e
  goes_quick = ap (λ (o : Outcome). o.image) by_taken ∙ at (taken s e)
    where
      at : (t : Bool) → (cond t (accepted s (event e)) (refused s (refusal s e))).image ≡ cond t (onward s (event e)) s
      at true = goes-onward s (event e)
      at false = refl

  at_a_glance : seen_of (step s e) ≡ glance s e
  unfolding accepted
  at_a_glance = ap seen_of by_taken ∙ at (taken s e)
    where
      v : Event
      v = event e

      at : (t : Bool) → seen_of (cond t (accepted s v) (refused s (refusal s e)))
          ≡ seen (cond t (named s v) no_mailbox) (cond t (count_of (goes s v)) 0) (block_of (cond t (onward s v) s)).rmp (block_of (cond t (onward s v) s)).rml
      at true = ap (λ (x : List ℕ). seen (named s v) (count_of (goes s v)) (block_of x).rmp (block_of x).rml) (goes-onward s v)
      at false = refl

  goes_on : Bytes e → GoodImage (step s e).image
  goes_on b = step-good s e g.bytes b (image-good s g)

pub in_one_pass : (m : ℕ) (s : List ℕ) (l : List (List ℕ)) → GoodImage s → AllBytes l → history m s l ≡ pass m s l
unfolding history happenings pass
in_one_pass m s [] g b = refl
in_one_pass m s (e ∷ l) g b =
    ap (λ (t : Bool). cond t (happens s (event e) m) [] ++ history m (step s e).image l) (as_taken s e g)
    ∙ ap (λ (r : List Happening). cond (taken s e) (happens s (event e) m) [] ++ r)
    (in_one_pass m (step s e).image l (goes_on s e g b.0) b.1 ∙ ap (λ (x : List ℕ). pass m x l) (goes_quick s e g))

pub in_one_tally : (test : List ℕ → Frame → Bool) (s : List ℕ) (l : List (List ℕ)) → GoodImage s → AllBytes l → frames_in test s l ≡ tally test s l
unfolding frames_in brings tally
in_one_tally test s [] g b = refl
in_one_tally test s (e ∷ l) g b =
    ap₂ (λ (t : Bool) (n : ℕ). one (t && is_frame (test s) (event e)) + n) (as_taken s e g)
    (in_one_tally test (step s e).image l (goes_on s e g b.0) b.1 ∙ ap (λ (x : List ℕ). tally test x l) (goes_quick s e g))

pub in_one-watch : (s : List ℕ) (l : List (List ℕ)) → GoodImage s → AllBytes l → watch s l ≡ glances s l
unfolding watch glances
in_one-watch s [] g b = refl
in_one-watch s (e ∷ l) g b =
    ap₂ (λ (x : Seen) (r : List Seen). x ∷ r) (at_a_glance s e g)
    (in_one-watch (step s e).image l (goes_on s e g b.0) b.1 ∙ ap (λ (x : List ℕ). glances x l) (goes_quick s e g))
