-- Events that a section takes, as many as one likes.
use Prim.Native.Nat.{ℕ, zero, suc, ◌+◌, ◌≤◌}
use mathlib.Core.Path.{refl}
use mathlib.Core.Bool.{Bool, true, false, cond}
use mathlib.Core.List.{List, [], ◌∷◌, flatten}
use native.Mathlib.Omega.{arith}
use lib.Dec.{eqb, lit<}
use lib.ListN.{replicate, length-replicate, get_or-replicate}
use Rattle.words.proofs.Bytes.{Bytes, bytes-nil, bytes-cons, bytes-append}
use Rattle.trace.specs.Trace.{image_after}
use Rattle.stream.specs.Stream.{onward}
use Rattle.stream.proofs.Walk.{Leads, Fits, AllFit, run_of}

pub zeros_bytes : (n : ℕ) → Bytes (replicate n 0)
zeros_bytes zero = bytes-nil
zeros_bytes (suc n) = bytes-cons (lit< tt) (zeros_bytes n)

-- an event of section k: a mailbox write in the first
pub fitting : ℕ → List ℕ
fitting k = cond (eqb k 1) 1 0 ∷ replicate 15 0

pub fitting_bytes : (k : ℕ) → Bytes (fitting k)
unfolding fitting
fitting_bytes k = to (eqb k 1)
  where
    to : (a : Bool) → Bytes (cond a 1 0 ∷ replicate 15 0)
    to true = bytes-cons (lit< tt) (zeros_bytes 15)
    to false = bytes-cons (lit< tt) (zeros_bytes 15)

pub fitting_fits : (k : ℕ) → 1 ≤ k → k ≤ 3 → Fits k (fitting k)
unfolding fitting
fitting_fits zero h i = absurd (omega arith)
fitting_fits (suc zero) h i = (refl, refl)
fitting_fits (suc (suc zero)) h i = (refl, refl)
fitting_fits (suc (suc (suc zero))) h i = (refl, refl)
fitting_fits (suc (suc (suc (suc k)))) h i = absurd (omega arith)

-- c of them
abbrev pub several : ℕ → ℕ → List (List ℕ)
several k c = replicate c (fitting k)

pub several_bytes : (k c : ℕ) → Bytes (flatten (several k c))
unfolding flatten
several_bytes k zero = bytes-nil
several_bytes k (suc c) = bytes-append (fitting k) (flatten (several k c)) (fitting_bytes k) (several_bytes k c)

several_fit : (k c : ℕ) → 1 ≤ k → k ≤ 3 → AllFit k (several k c)
several_fit k c h i j l = rw (get_or-replicate c j (fitting k) [] (omega (arith, length-replicate c (fitting k)))) (fitting_fits k h i)

pub run_several : (k : ℕ) → 1 ≤ k → k ≤ 3 → (c l n : ℕ) (s : List ℕ)
    → Leads (onward k (c + l) n s) (flatten (several k c)) (onward k l (n + c) (image_after s (several k c))) (several k c)
run_several k h i c l n s = rw (length-replicate c (fitting k)) at (run_of k i l n s (several k c) (several_fit k c h i))
