-- The code of the calls: what each leaves and answers.
use Prim.Native.Nat.{ℕ, ◌<◌, ◌≤◌}
use mathlib.Core.Path.{◌≡◌, refl, sym, ◌∙◌, ap, ap₂, subst}
use mathlib.Core.Bool.{Bool, true, false, cond, ◌&&◌}
use mathlib.Core.List.{List, [], ◌++◌}
use mathlib.Core.Logic.{◌≢◌}
use native.Mathlib.Omega.{arith}
use lib.Dec.{eqb}
use lib.ListN.{length, take, drop}
use borrow.Author.Tests.{eqb-true, eq-eqb, ne_eqb, lt-ltb, le-ltb}
use Rattle.words.proofs.Bytes.{Bytes}
use Rattle.answers.specs.Answer.{no_mailbox, packed, Promise}
use Rattle.registers.specs.Block.{can_b}
use Rattle.fresh.specs.Fresh.{fresh}
use Rattle.texts.specs.Text.{Put}
use Rattle.texts.proofs.Writing.{at_front, front_of}
use Rattle.trace.specs.Trace.{header}
use Rattle.stream.specs.declared.Reader.{Reader}
use Rattle.stream.specs.declared.Taken.{Taken as Tally}
use Rattle.stream.specs.Stream.{Standing, at, over, opened, ended, fed, printed, last_line}
use Rattle.stream.specs.Calls.{state_of, standing, seen, Call, refused, prints, unless, opening, fed_call, last_call, Leaves}
use Rattle.stream.specs.Terms.{reader_of, Ready, Taking}
use Rattle.stream.proofs.Ready.{steps-few, last-short, printed-most}
use Rattle.stream.proofs.State.{ready-standing, seen_few}
use Rattle.stream.proofs.Judging.{Taken}

-- the same call by another name
leaves_as : {c d : Call} {x y z : List ℕ} {a : ℕ} → c ≡ d → Leaves d x y z a → Leaves c x y z a
leaves_as {x = x} {y = y} {z = z} {a = a} h l = subst (λ (c : Call). Leaves c x y z a) (sym h) l

-- refused, with nothing changed
refused_leaves : {s t o : List ℕ} {r a : ℕ} → a ≡ packed r no_mailbox 0 → Leaves (refused s t o r) s t o a
refused_leaves h = record { image = refl; state = refl; text = refl; answered = h }

module _ (s t o : List ℕ) (σ : Standing) (u : List ℕ) (r : ℕ) where
  abbrev pub there : Call
  there = record { image = σ.image; state = state_of σ; text = u ++ drop (length u) o; refusal = r; bytes = length u }

  -- a text that fits, and one that does not
  pub prints-fits : length u ≤ length o → prints s t o σ u r ≡ there
  unfolding prints
  prints-fits h = rw (le-ltb (length o) (length u) h)

  pub prints-short : length o < length u → prints s t o σ u r ≡ refused s t o 9
  unfolding prints
  prints-short h = rw (lt-ltb (length o) (length u) h)

  pub no_room : {a : ℕ} → length o < length u → a ≡ packed 9 no_mailbox 0 → Leaves (prints s t o σ u r) s t o a
  no_room h p = leaves_as (prints-short h) (refused_leaves p)

  pub printed-there : {x y z : List ℕ} {n a : ℕ} → length u ≤ length o → x ≡ σ.image → y ≡ state_of σ → Put o 0 u z n → a ≡ packed r no_mailbox (length u)
      → Leaves (prints s t o σ u r) x y z a
  printed-there h i j k p = leaves_as (prints-fits h) (record { image = i; state = j; text = at_front h k; answered = p })

-- ---- what stands against a call

module _ (r : ℕ) (s t o : List ℕ) (c : Call) where
  pub unless-none : r ≡ 0 → unless r s t o c ≡ c
  unfolding unless
  unless-none h = rw (eq-eqb r 0 h)

  pub unless-some : r ≢ 0 → unless r s t o c ≡ refused s t o r
  unfolding unless
  unless-some h = rw (ne_eqb r 0 h)

module _ (s t o : List ℕ) (c : Call) (r : ℕ) where
  pub stopped : {n a : ℕ} → n ≡ r → n ≢ 0 → a ≡ packed n no_mailbox 0 → Leaves (unless r s t o c) s t o a
  stopped h z p = leaves_as (unless-some r s t o c (λ e. z (h ∙ e))) (refused_leaves (p ∙ ap (λ (k : ℕ). packed k no_mailbox 0) h))

  pub goes_on : {x y z : List ℕ} {a : ℕ} → r ≡ 0 → Leaves c x y z a → Leaves (unless r s t o c) x y z a
  goes_on h l = leaves_as (unless-none r s t o c h) l

-- ---- the opening

module _ (s t o : List ℕ) where
  -- an image or a state of another length
  pub other_length : {a : ℕ} → (length s ≡ 776 → length t ≡ 32 → ⊥) → a ≡ packed 1 no_mailbox 0 → Leaves (opening s t o) s t o a
  unfolding opening
  other_length {a} h p = to (eqb (length s) 776) refl (eqb (length t) 32) refl
    where
      to : (b : Bool) → eqb (length s) 776 ≡ b → (d : Bool) → eqb (length t) 32 ≡ d → Leaves (unless (cond (b && d) 0 1) s t o (prints s t o opened header 0)) s t o a
      to true e true f = absurd (h (eqb-true _ _ e) (eqb-true _ _ f))
      to true e false f = stopped s t o (prints s t o opened header 0) 1 refl (λ z. omega arith) p
      to false e d f = stopped s t o (prints s t o opened header 0) 1 refl (λ z. omega arith) p

  pub opens : length s ≡ 776 → length t ≡ 32 → {x y z : List ℕ} {a : ℕ} → Leaves (prints s t o opened header 0) x y z a → Leaves (opening s t o) x y z a
  unfolding opening
  opens h k l = rw (eq-eqb (length s) 776 h, eq-eqb (length t) 32 k) (goes_on s t o (prints s t o opened header 0) 0 refl l)

  pub fresh-there : length s ≡ 776 → {x : List ℕ} {a : ℕ} → Promise (fresh s can_b) x a → x ≡ opened.image
  unfolding fresh
  fresh-there h p = rw (eq-eqb (length s) 776 h) at p.image

-- the state of a reader that has gathered nothing hangs on no image
pub nothing-gathered : (k : ℕ) (s : List ℕ) → state_of (at k 0 0 [] []) ≡ state_of (at k 0 0 [] s)
unfolding state_of
nothing-gathered k s = refl

-- ---- a stream that nothing stands against

module _ {s t : List ℕ} (k : Taken s t) (b : Bytes t) where
  pub can_stand : Ready (standing s t)
  can_stand = ready-standing s t k.state b k.left

  pub seen_most : seen t ≤ 15
  seen_most = seen_few t k.left

  module _ (r : Reader) (h : r ≡ reader_of t) where
    pub steps-most : r.steps ≤ 3000
    unfolding standing
    steps-most = omega (arith, ap (λ (r : Reader). r.steps) h, steps-few (standing s t) can_stand)

    line_is : last_line (at r.section r.left r.steps [] []) ≡ last_line (standing s t)
    unfolding last_line standing
    line_is = ap (λ (r : Reader). last_line (at r.section r.left r.steps [] [])) h

    line-short : length (last_line (at r.section r.left r.steps [] [])) ≤ 16
    line-short = last-short (at r.section r.left r.steps [] []) steps-most

    module _ {l m : List ℕ} {n : ℕ} (p : Put l 0 (last_line (at r.section r.left r.steps [] [])) m n) where
      pub last-most : n ≤ 16
      last-most = omega (arith, p.behind, line-short)

      long : n ≡ length (last_line (standing s t))
      long = omega (arith, p.behind, ap length line_is)

      pub last_no_room : {o : List ℕ} {a : ℕ} → length o < n → a ≡ packed 9 no_mailbox 0 → Leaves (last_call s t o) s t o a
      unfolding last_call
      last_no_room {o} h e = no_room s t o (ended s) (last_line (standing s t)) _ (omega (arith, long)) e

      pub last-there : {o y z : List ℕ} {i c a : ℕ} → n ≤ length o → length l ≡ 16 → y ≡ state_of (at over 0 0 [] [])
          → Put o 0 (take n m) z i → c ≡ cond (eqb r.section 4) 0 8 → a ≡ packed c no_mailbox n → Leaves (last_call s t o) s y z a
      unfolding last_call
      last-there {o} {z = z} {i = i} f q y w c a =
          let text : take n m ≡ last_line (standing s t) = front_of (omega (arith, line-short)) p ∙ line_is in
          printed-there s t o (ended s) (last_line (standing s t)) _ (omega (arith, long)) refl (y ∙ nothing-gathered over s) (subst (λ (u : List ℕ). Put o 0 u z i) text w)
          (a ∙ ap₂ (λ (x y : ℕ). packed x no_mailbox y) (c ∙ ap (λ (r : Reader). cond (eqb r.section 4) 0 8) h) long)

  -- ---- a part

  module _ (p o : List ℕ) where
    abbrev σ : Standing
    σ = standing s t

    -- its text does not fit, and image and state are what they were
    pub part_undone : {x y : List ℕ} {a : ℕ} → length o < length (printed σ p) → x ≡ s → y ≡ t → a ≡ packed 9 no_mailbox 0 → Leaves (fed_call s t p o) x y o a
    unfolding fed_call
    part_undone h x y q = leaves_as (prints-short s t o (fed σ p) (printed σ p) _ h) (record { image = x; state = y; text = refl; answered = q })

    module _ (small : Bytes p) {keeps : Bool} {m x y z : List ℕ} {q : Tally} (w : Taking keeps σ p m x y z q) where
      pub counts_fit : q.length ≤ 39016
      counts_fit = omega (arith, w.counted, printed-most σ can_stand p small)

      pub part-there : {u : List ℕ} {n a : ℕ} → length (printed σ p) ≤ length o → Put o 0 (printed σ p) u n
          → a ≡ packed (cond (eqb q.reader.section over) 8 0) no_mailbox q.length → Leaves (fed_call s t p o) x y u a
      unfolding fed_call
      part-there f k a =
          printed-there s t o (fed σ p) (printed σ p) _ f w.image_is w.state_is k
          (a ∙ ap₂ (λ (x y : ℕ). packed (cond (eqb x over) 8 0) no_mailbox y) w.section_is w.counted)

      -- the same with a text that was made apart
      pub part_copied : {u : List ℕ} {n a : ℕ} → keeps ≡ true → length (printed σ p) ≤ length m → length (printed σ p) ≤ length o → Put o 0 (take q.length z) u n
          → a ≡ packed (cond (eqb q.reader.section over) 8 0) no_mailbox q.length → Leaves (fed_call s t p o) x y u a
      part_copied {u} {n} h l f k a =
          let c : Put m 0 (printed σ p) z q.length = record { bytes = w.text h; behind = omega (arith, w.counted) } in
          part-there f (subst (λ (t : List ℕ). Put o 0 t u n) (front_of l c) k) a
