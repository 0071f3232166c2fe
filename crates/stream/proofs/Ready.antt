-- A stream stands where it can stand, byte for byte; and how long its text can be.
use Prim.Native.Nat.{ℕ, ◌+◌, ◌-◌, ◌*◌, ◌<◌, ◌≤◌}
use mathlib.Core.Path.{◌≡◌, refl, ap}
use mathlib.Core.Bool.{Bool, true, false, cond}
use mathlib.Core.List.{List, [], ◌∷◌, ◌++◌}
use mathlib.Core.Logic.{◌≢◌}
use native.Mathlib.Omega.{arith}
use lib.Dec.{eqb}
use lib.ListN.{length, length-append}
use borrow.Author.Tests.{eqb-true, eqb-false, eq-eqb, ne_eqb}
use Rattle.words.proofs.Bytes.{Bytes, bytes-nil, bytes-cons, bytes_tail, bytes-append}
use Rattle.model.specs.Step.{step}
use Rattle.trace.specs.Trace.{count_at, line, refused_line, ending}
use Rattle.trace.proofs.Answers.{step_small}
use Rattle.trace.proofs.Bound.{line-most, ending-most}
use Rattle.stream.specs.Stream.{Standing, Turn, at, behind, over, opened, ended, fault, onward, runs, turn, fed, printed, last_line}
use Rattle.stream.specs.Calls.{whole}
use Rattle.stream.specs.Terms.{Ready}
use Rattle.stream.proofs.Cuts.{printed-over}
use Rattle.stream.proofs.Cases.{Kind, still, surplus, low, many, counted, misplaced, more, last, with}
use Rattle.stream.proofs.Turns.{kind}

-- ---- how many bytes complete what is read

pub whole-some : (k l : ℕ) → 0 < whole k l
whole-some k l = to (eqb k behind) (eqb l 0)
  where
    to : (a b : Bool) → 0 < cond a 1 (cond b 2 16)
    to true b = omega arith
    to false true = omega arith
    to false false = omega arith

pub whole-most : (k l : ℕ) → whole k l ≤ 16
whole-most k l = to (eqb k behind) (eqb l 0)
  where
    to : (a b : Bool) → cond a 1 (cond b 2 16) ≤ 16
    to true b = omega arith
    to false true = omega arith
    to false false = omega arith

pub whole-count : (k l : ℕ) → k ≢ behind → l ≡ 0 → whole k l ≡ 2
whole-count k l h z = rw (ne_eqb k behind h, eq-eqb l 0 z)

pub whole-event : (k l : ℕ) → k ≤ 3 → 0 < l → whole k l ≡ 16
whole-event k l h z = rw (ne_eqb k behind (λ e. omega arith), ne_eqb l 0 (λ e. omega arith))

pub whole-behind : (k l : ℕ) → k ≡ behind → whole k l ≡ 1
whole-behind k l h = rw (eq-eqb k behind h)

pub length-with : (σ : Standing) (x : ℕ) → length (with σ x) ≡ length σ.gathered + 1
length-with σ x = length-append σ.gathered (x ∷ [])

bytes-with : (σ : Standing) (x : ℕ) → x < 256 → Bytes σ.gathered → Bytes (with σ x)
bytes-with σ x l b = bytes-append σ.gathered (x ∷ []) b (bytes-cons l bytes-nil)

-- ---- it stays where it can stand

pub ended-ready : (s : List ℕ) → Ready (ended s)
ended-ready s =
    record {
      first = omega arith;
      last = omega arith;
      few = omega arith;
      counting = λ z h. absurd (omega arith);
      running = λ h. absurd (omega arith);
      done = λ h. refl;
      short = omega arith;
      placed = λ h. absurd (omega arith);
      bytes = bytes-nil;
    }

pub opened-ready : Ready opened
opened-ready =
    record {
      first = omega arith;
      last = omega arith;
      few = omega arith;
      counting = λ z h. omega arith;
      running = λ h. absurd (omega arith);
      done = λ h. refl;
      short = omega arith;
      placed = λ h. absurd (omega arith);
      bytes = bytes-nil;
    }

onward-ready : (k l n : ℕ) (s : List ℕ) → 1 ≤ k → k ≤ 3 → l ≤ 1000 → n + l ≤ 1000 * k → Ready (onward k l n s)
onward-ready k l n s h i f t = to (eqb l 0) refl
  where
    to : (a : Bool) → eqb l 0 ≡ a → Ready (at (cond a (k + 1) k) l n [] s)
    to true e =
        let z = eqb-true l 0 e in
        record {
          first = omega arith;
          last = omega arith;
          few = f;
          counting = λ q m. omega arith;
          running = λ m. absurd (omega arith);
          done = λ m. absurd (omega arith);
          short = whole-some (k + 1) l;
          placed = λ m. absurd (omega arith);
          bytes = bytes-nil;
        }
    to false e =
        let z = eqb-false l 0 e in
        record {
          first = h;
          last = omega arith;
          few = f;
          counting = λ q m. absurd (z q);
          running = λ m. (i, t);
          done = λ m. absurd (omega arith);
          short = whole-some k l;
          placed = λ m r. absurd (omega arith);
          bytes = bytes-nil;
        }

module _ (σ : Standing) (d : Ready σ) (x : ℕ) (small : x < 256) where
  pub next-ready : {t : Turn} → Kind σ x t → Ready t.next
  unfolding runs
  next-ready (still h) = d
  next-ready (surplus h) = ended-ready σ.image
  next-ready (low h z l) =
      record {
        first = d.first;
        last = d.last;
        few = d.few;
        counting = d.counting;
        running = d.running;
        done = d.done;
        short = rw (whole-count σ.section σ.left (λ e. omega arith) z) l;
        placed = λ m. absurd (omega arith);
        bytes = bytes-with σ x small d.bytes;
      }
  next-ready (many h z l m) = ended-ready σ.image
  next-ready (counted h z l m) =
      onward-ready σ.section (count_at (with σ x) 0) σ.steps σ.image d.first h m
      (let c = d.counting z (omega arith) in let f = d.first in omega arith)
  next-ready (misplaced h z p) = ended-ready σ.image
  next-ready (more h z p l) =
      record {
        first = d.first;
        last = d.last;
        few = d.few;
        counting = d.counting;
        running = d.running;
        done = d.done;
        short = rw (whole-event σ.section σ.left h z) l;
        placed = λ m r. p;
        bytes = bytes-with σ x small d.bytes;
      }
  next-ready (last h z p l) =
      let r = d.running z in
      onward-ready σ.section (σ.left - 1) (σ.steps + 1) (step σ.image (with σ x)).image d.first h
      (let f = d.few in omega arith) (omega (arith, r.1))

  pub turn-ready : Ready (turn σ x).next
  turn-ready = next-ready (kind σ x d.last)

pub fed-ready : (σ : Standing) → Ready σ → (l : List ℕ) → Bytes l → Ready (fed σ l)
unfolding fed
fed-ready σ d [] b = d
fed-ready σ d (x ∷ l) b = fed-ready (turn σ x).next (turn-ready σ d x (b.small 0)) l (bytes_tail b)

-- ---- how long a text can be

-- fewer than 16 bytes are gathered
pub gathered-few : (σ : Standing) → Ready σ → length σ.gathered ≤ 15
gathered-few σ d = omega (arith, d.short, whole-most σ.section σ.left)

pub steps-few : (σ : Standing) → Ready σ → σ.steps ≤ 3000
steps-few σ d = to (eqb σ.left 0) refl (eqb σ.section over) refl
  where
    to : (a : Bool) → eqb σ.left 0 ≡ a → (b : Bool) → eqb σ.section over ≡ b → σ.steps ≤ 3000
    to a e true f = let z = d.done (eqb-true _ _ f) in omega arith
    to true e false f =
        let n = eqb-false σ.section over f in
        let h = d.counting (eqb-true _ _ e) (let l = d.last in omega arith) in
        let l = d.last in
        omega arith
    to false e false f =
        let n = eqb-false σ.left 0 e in
        let h = d.running (omega arith) in
        omega (arith, h.0, h.1)

module _ (σ : Standing) (d : Ready σ) where
  pub line-short : 0 < σ.left → (e : List ℕ) → length (line (σ.steps + 1) (step σ.image e)) ≤ 13
  line-short z e = line-most (σ.steps + 1) (step σ.image e) (let r = d.running z in omega (arith, r.0, r.1)) (step_small σ.image e)

-- the line of a closing
pub last-short : (σ : Standing) → σ.steps ≤ 3000 → length (last_line σ) ≤ 16
unfolding last_line
last-short σ h = to (eqb σ.section behind)
  where
    to : (a : Bool) → length (cond a (ending σ.steps) refused_line) ≤ 16
    to true = omega (arith, ending-most σ.steps (omega arith))
    to false = omega (arith, h)

-- in all: the lines of the events that can still come, and the refusal line
abbrev Room : Standing → ℕ → Type 0
Room σ n = n + 13 * σ.steps ≤ 39016

-- for a part: as many bytes as it has, and as are gathered, and the refusal line
abbrev Fits : Standing → List ℕ → ℕ → Type 0
Fits σ l n = n ≤ length l + length σ.gathered + 16

-- once it is over there is no text
silent : (s l : List ℕ) → length (printed (ended s) l) ≡ 0
silent s l = ap length (printed-over (ended s) refl l)

module _ (σ : Standing) (d : Ready σ) (x : ℕ) (l : List ℕ) where
  abbrev Both : Turn → Type 0
  Both t = Room σ (length (t.text ++ printed t.next l)) × Fits σ (x ∷ l) (length (t.text ++ printed t.next l))

  faulty : Both (fault σ)
  faulty =
      let p = printed (ended σ.image) l in
      let n = length-append refused_line p in
      let z = silent σ.image l in
      (omega (arith, n, z, steps-few σ d), omega (arith, n, z))

  both : {t : Turn} → Kind σ x t → Room t.next (length (printed t.next l)) → Fits t.next l (length (printed t.next l)) → Both t
  unfolding runs
  both (still h) r f = (r, omega arith)
  both (surplus h) r f = faulty
  both (low h z m) r f = (r, omega (arith, length-with σ x))
  both (many h z m n) r f = faulty
  both (counted h z m n) r f = (r, omega arith)
  both (misplaced h z p) r f = faulty
  both (more h z p m) r f = (r, omega (arith, length-with σ x))
  both (last h z p m) r f =
      let e = with σ x in
      let n = length-append (line (σ.steps + 1) (step σ.image e)) (printed (runs σ e).next l) in
      let k = line-short σ d z e in
      (omega (arith, n, k), omega (arith, n, k, length-with σ x))

text_room : (σ : Standing) → Ready σ → (l : List ℕ) → Bytes l → Room σ (length (printed σ l)) × Fits σ l (length (printed σ l))
unfolding printed
text_room σ d [] b = (let n = steps-few σ d in omega arith, omega arith)
text_room σ d (x ∷ l) b =
    let t = text_room (turn σ x).next (turn-ready σ d x (b.small 0)) l (bytes_tail b) in
    both σ d x l (kind σ x d.last) t.0 t.1

pub printed-most : (σ : Standing) → Ready σ → (l : List ℕ) → Bytes l → length (printed σ l) ≤ 39016
printed-most σ d l b = let r = (text_room σ d l b).0 in omega arith

pub printed-fits : (σ : Standing) → Ready σ → (l : List ℕ) → Bytes l → length (printed σ l) ≤ length l + 31
printed-fits σ d l b = omega (arith, (text_room σ d l b).1, gathered-few σ d)
