-- Laws of the events of a file and of their lines.
use Prim.Native.Nat.{ℕ, zero, suc, ◌+◌, ◌-◌, ◌*◌, ◌<◌, ◌≤◌}
use mathlib.Core.Path.{◌≡◌, refl, sym, ◌∙◌, ap, ap₂}
use mathlib.Core.Bool.{true, ◌&&◌}
use mathlib.Core.List.{List, [], ◌∷◌, ◌++◌, append_assoc}
use native.Mathlib.Omega.{arith}
use lib.Dec.{eqb, leb}
use lib.ListN.{length, take, drop, get_or, length-append}
use borrow.Author.Tests.{eqb-true, leb-true}
use Rattle.std.specs.Simd.{first_chunks}
use Rattle.std.proofs.lemmas.List.{drop_more, drop_all, drop-drop, drop-take, take-take}
use Rattle.bits.proofs.Sets.{and_l, and_r}
use Rattle.model.specs.Step.{step}
use Rattle.events.specs.Parts.{event_bytes}
use Rattle.texts.specs.Text.{written, Put}
use Rattle.trace.specs.Trace.{count_at, end_of, second, third, placed, sound, well_formed, events_from, section, events, line, lines, image_after}
use Rattle.texts.proofs.Writing.{as_text, onward, behind_both, both_put, room, front}

-- ---- the events of a section

-- the events, cut out of the bytes of the file that have them
pub events-cut : (f : List ℕ) (at n m : ℕ) → m ≡ 16 * n → first_chunks 16 n (take m (drop at f)) ≡ events_from f at n
unfolding events_from
events-cut f at zero m h = refl
events-cut f at (suc n) m h =
    let e : m ≡ 16 + (m - 16) = omega arith in
    let d : drop 16 (take m (drop at f)) ≡ take (m - 16) (drop (at + 16) f) =
    ap (λ (k : ℕ). drop 16 (take k (drop at f))) e ∙ drop-take 16 (m - 16) (drop at f) ∙ ap (take (m - 16)) (drop-drop 16 at f) in
    ap₂ (λ (x : List ℕ) (y : List (List ℕ)). x ∷ y) (take-take 16 m (drop at f) (omega arith))
    (ap (first_chunks 16 n) d ∙ events-cut f (at + 16) n (m - 16) (omega arith))

-- ---- how many

pub length-events : (f : List ℕ) (at n : ℕ) → length (events_from f at n) ≡ n
unfolding events_from
length-events f at zero = refl
length-events f at (suc n) = ap suc (length-events f (at + event_bytes) n)

pub event-count : (f : List ℕ) → length (events f) ≡ count_at f 0 + (count_at f (second f) + count_at f (third f))
unfolding events
event-count f =
    length-append (section f 0) (section f (second f) ++ section f (third f))
    ∙ ap (λ (k : ℕ). length (section f 0) + k) (length-append (section f (second f)) (section f (third f)))
    ∙ omega (arith, length-events f 2 (count_at f 0), length-events f (second f + 2) (count_at f (second f)), length-events f (third f + 2) (count_at f (third f)))

-- ---- one run behind another

pub lines-append : (n : ℕ) (s : List ℕ) (a b : List (List ℕ)) → lines n s (a ++ b) ≡ lines n s a ++ lines (n + length a) (image_after s a) b
unfolding lines image_after
lines-append n s [] b =
    let z : n ≡ n + 0 = omega arith in
    ap (λ (k : ℕ). lines k s b) z
lines-append n s (e ∷ a) b =
    let t = (step s e).image in
    let z : n + 1 + length a ≡ n + length (e ∷ a) = omega arith in
    ap (λ (x : List ℕ). line n (step s e) ++ x)
    (lines-append (n + 1) t a b ∙ ap (λ (k : ℕ). lines (n + 1) t a ++ lines k (image_after t a) b) z)
    ∙ sym (append_assoc (line n (step s e)) (lines (n + 1) t a) (lines (n + length (e ∷ a)) (image_after t a) b))

pub lines_cons : (n : ℕ) (s e : List ℕ) (es : List (List ℕ)) → lines n s (e ∷ es) ≡ line n (step s e) ++ lines (n + 1) (step s e).image es
unfolding lines
lines_cons n s e es = refl

pub after-cons : (s e : List ℕ) (es : List (List ℕ)) → image_after s (e ∷ es) ≡ image_after (step s e).image es
unfolding image_after
after-cons s e es = refl

-- ---- what a well-formed file has

pub record Formed (f : List ℕ) : Type 0 where
  pub first-most : count_at f 0 ≤ 1000
  pub second-most : count_at f (second f) ≤ 1000
  pub third-most : count_at f (third f) ≤ 1000
  pub ends : end_of f (third f) ≡ length f

sound-most : (k : ℕ) (f : List ℕ) (at : ℕ) → sound k f at ≡ true → count_at f at ≤ 1000
unfolding sound
sound-most k f at h = leb-true _ _ (and_l (leb (count_at f at) 1000) (placed k f (at + 2) (count_at f at)) h)

pub formed : (f : List ℕ) → well_formed f ≡ true → Formed f
unfolding well_formed
formed f h =
    let a = sound 1 f 0 in
    let b = sound 2 f (second f) in
    let d = sound 3 f (third f) in
    let e = eqb (end_of f (third f)) (length f) in
    let abd = and_l ((a && b) && d) e h in
    let ab = and_l (a && b) d abd in
    record {
      first-most = sound-most 1 f 0 (and_l a b ab);
      second-most = sound-most 2 f (second f) (and_r a b ab);
      third-most = sound-most 3 f (third f) (and_r (a && b) d abd);
      ends = eqb-true _ _ (and_r ((a && b) && d) e h);
    }

-- ---- the three sections, one behind the other

module _ (a b d : List (List ℕ)) (s : List ℕ) where
  abbrev lines_one : List ℕ
  lines_one = lines 1 s a

  abbrev lines_two : List ℕ
  lines_two = lines (1 + length a) (image_after s a) b

  abbrev lines_three : List ℕ
  lines_three = lines (1 + length a + length b) (image_after (image_after s a) b) d

  pub three_runs : lines 1 s (a ++ (b ++ d)) ≡ lines_one ++ (lines_two ++ lines_three)
  three_runs = lines-append 1 s a (b ++ d) ∙ ap (λ (x : List ℕ). lines_one ++ x) (lines-append (1 + length a) (image_after s a) b d)

-- one section's text and image behind another's
module _ (a b d : List (List ℕ)) (s o : List ℕ) (at : ℕ) (all : at + length (lines 1 s (a ++ (b ++ d))) ≤ length o) where
  in_three : at + length (lines_one a b d s ++ (lines_two a b d s ++ lines_three a b d s)) ≤ length o
  in_three = rw (three_runs a b d s) at all

  pub room_one : at + length (lines 1 s a) ≤ length o
  room_one = front (lines_one a b d s) (lines_two a b d s ++ lines_three a b d s) at (length o) in_three

  module _ {o₁ s₁ : List ℕ} {at₁ : ℕ} (p : Put o at (lines 1 s a) o₁ at₁) (i : s₁ ≡ image_after s a) where
    in_two : at₁ + length (lines_two a b d s ++ lines_three a b d s) ≤ length o₁
    in_two = room p (lines_two a b d s ++ lines_three a b d s) in_three

    pub room_two : at₁ + length (lines (1 + length a) s₁ b) ≤ length o₁
    room_two = rw i (front (lines_two a b d s) (lines_three a b d s) at₁ (length o₁) in_two)

    module _ {o₂ s₂ : List ℕ} {at₂ : ℕ} (q : Put o₁ at₁ (lines (1 + length a) s₁ b) o₂ at₂) (j : s₂ ≡ image_after s₁ b) where
      put_two : Put o₁ at₁ (lines_two a b d s) o₂ at₂
      put_two = rw i at q

      image_two : s₂ ≡ image_after (image_after s a) b
      image_two = j ∙ ap (λ (x : List ℕ). image_after x b) i

      pub room_three : at₂ + length (lines (1 + length a + length b) s₂ d) ≤ length o₂
      room_three = rw image_two (room put_two (lines_three a b d s) in_two)

      pub put_three : {o₃ : List ℕ} {at₃ : ℕ} → Put o₂ at₂ (lines (1 + length a + length b) s₂ d) o₃ at₃ → Put o at (lines 1 s (a ++ (b ++ d))) o₃ at₃
      put_three r = as_text (sym (three_runs a b d s)) (both_put p (both_put put_two (rw image_two at r)))

-- ---- the state of a section that is being run: i of its events have their lines

pub record Going (es : List (List ℕ)) (first : ℕ) (s₀ o₀ : List ℕ) (at : ℕ) (s o : List ℕ) (i place : ℕ) : Type 0 where
  pub text : written o place (lines (first + i) s (drop i es)) ≡ written o₀ at (lines first s₀ es)
  pub behind : place + length (lines (first + i) s (drop i es)) ≡ at + length (lines first s₀ es)
  pub image : image_after s (drop i es) ≡ image_after s₀ es

module _ {es : List (List ℕ)} {first : ℕ} {s₀ o₀ : List ℕ} {at : ℕ} {s o : List ℕ} {i place : ℕ} (g : Going es first s₀ o₀ at s o i place) where
  -- behind the last
  pub ended : length es ≤ i → Put o₀ at (lines first s₀ es) o place × (s ≡ image_after s₀ es)
  unfolding written lines image_after
  ended z =
      let n : drop i es ≡ [] = drop_all i es z in (
        record {
          bytes = sym (ap (λ (l : List (List ℕ)). written o place (lines (first + i) s l)) n) ∙ g.text;
          behind = omega (arith, ap (λ (l : List (List ℕ)). length (lines (first + i) s l)) n, g.behind);
        },
        sym (ap (image_after s) n) ∙ g.image,
      )

  -- one event more
  module _ (h : i < length es) where
    abbrev event : List ℕ
    event = get_or es i []

    abbrev rest_lines : List ℕ
    rest_lines = lines (first + (i + 1)) (step s event).image (drop (i + 1) es)

    one_more : drop i es ≡ event ∷ drop (i + 1) es
    one_more = drop_more es i [] h

    its_lines : lines (first + i) s (drop i es) ≡ line (first + i) (step s event) ++ rest_lines
    its_lines =
        let e : first + i + 1 ≡ first + (i + 1) = omega arith in
        ap (lines (first + i) s) one_more
        ∙ lines_cons (first + i) s event (drop (i + 1) es)
        ∙ ap (λ (k : ℕ). line (first + i) (step s event) ++ lines k (step s event).image (drop (i + 1) es)) e

    -- the room for its line
    pub its_room : length o ≡ length o₀ → at + length (lines first s₀ es) ≤ length o₀ → place + length (line (first + i) (step s event)) ≤ length o
    its_room e l = omega (arith, ap length its_lines, length-append (line (first + i) (step s event)) rest_lines, g.behind)

    -- and what is then left
    pub turned : {s' o' : List ℕ} {place' : ℕ} → Put o place (line (first + i) (step s event)) o' place' → s' ≡ (step s event).image → Going es first s₀ o₀ at s' o' (i + 1) place'
    turned {s'} {o'} {place'} p k =
        let j : lines (first + (i + 1)) s' (drop (i + 1) es) ≡ rest_lines = ap (λ (x : List ℕ). lines (first + (i + 1)) x (drop (i + 1) es)) k in
        record {
          text = ap (written o' place') j ∙ onward p rest_lines ∙ sym (ap (written o place) its_lines) ∙ g.text;
          behind = omega (arith, ap length j, behind_both p rest_lines, ap length its_lines, g.behind);
          image =
              ap (λ (x : List ℕ). image_after x (drop (i + 1) es)) k
              ∙ sym (ap (image_after s) one_more ∙ after-cons s event (drop (i + 1) es))
              ∙ g.image;
        }

-- ---- where the sections of a well-formed file end

module _ (f : List ℕ) (h : well_formed f ≡ true) where
  grows : (at : ℕ) → at ≤ end_of f at
  unfolding end_of
  grows at = omega arith

  pub third_in : end_of f (third f) ≤ length f
  third_in = omega (arith, (formed f h).ends)

  pub second_in : end_of f (second f) ≤ length f
  second_in = omega (arith, grows (third f), third_in)

  pub first_in : end_of f 0 ≤ length f
  first_in = omega (arith, grows (second f), second_in)
