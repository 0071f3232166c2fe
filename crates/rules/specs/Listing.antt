-- "The trace program": the trace file and its listing. A file and a text are lists of bytes.
use Rattle.std.specs.Prelude.{ℕ, zero, suc, ◌+◌, ◌-◌, ◌*◌, ◌/◌, ◌%◌, ◌<◌, ◌≤◌, ◌≡◌, Bool, true, ◌||◌, ◌≢◌, length, get_or}
use Prim.Native.Char.{code}
use Prim.Native.String.{String, [] as empty, ◌∷◌ as ◌then◌}
use mathlib.Core.List.{List, [], ◌∷◌, ◌++◌, flatten, foldl}
use Rattle.answers.specs.Answer.{Outcome}
use Rattle.rules.specs.Words.{◌is◌, byte}
use Rattle.rules.specs.Events.{operation}
use Rattle.rules.specs.Step.{Fresh, Rules}

-- ---- the file

-- A section: two bytes that count its events, the low one first, and then the events, one behind the other.
abbrev pub counted : List (List ℕ) → List ℕ
counted es = (length es % 256) ∷ (length es / 256) ∷ flatten es

-- Its events: no more than 1,000, of 16 bytes each, with the operations that the section takes.
pub record Section (takes : ℕ → Bool) (es : List (List ℕ)) : Type 0 where
  pub most : length es ≤ 1000
  pub sizes : (n : ℕ) → n < length es → length (get_or es n []) ≡ 16
  pub placed : (n : ℕ) → n < length es → takes (operation (get_or es n [])) ≡ true

-- The file is a trace of the events a, b and c: mailbox writes, then register writes and options, then any. It ends with them.
pub record Trace (f : List ℕ) (a b c : List (List ℕ)) : Type 0 where
  pub whole : f ≡ counted a ++ (counted b ++ counted c)
  pub first : Section (λ op. op is 1) a
  pub second : Section (λ op. op is 0 || op is 9) b
  pub third : Section (λ op. true) c

-- ---- the text

-- The bytes of a text in quotes.
abbrev pub ascii : String → List ℕ
ascii empty = []
ascii (c then t) = code c ∷ ascii t

-- The number n in decimal: the digits 48 to 57, the first of several not 48; each adds itself to ten times what stands before it.
pub record Numeral (n : ℕ) (t : List ℕ) : Type 0 where
  pub digits : (i : ℕ) → i < length t → (48 ≤ byte t i) × (byte t i ≤ 57)
  pub some : 0 < length t
  pub front : 1 < length t → byte t 0 ≢ 48
  pub value : foldl (λ v d. 10 * v + (d - 48)) 0 t ≡ n

-- The line of step n, where d writes numbers in decimal.
abbrev pub line : (ℕ → List ℕ) → ℕ → Outcome → List ℕ
line d n o = d n ++ ascii " " ++ d o.refusal ++ ascii " " ++ d o.mailbox ++ ascii " " ++ d o.count ++ ascii "\n"

-- The texts t 1 to t n, one behind the other.
abbrev pub up_to : ℕ → (ℕ → List ℕ) → List ℕ
up_to zero t = []
up_to (suc n) t = up_to n t ++ t (suc n)

-- The text of n steps with the outcomes o: the header, their lines, and the line that says how many they were.
abbrev pub whole_text : (ℕ → List ℕ) → (ℕ → Outcome) → ℕ → List ℕ
whole_text d o n = ascii "step code mailbox count\n" ++ up_to n (λ k. line d k (o k)) ++ ascii "end " ++ d n ++ ascii "\n"

-- ---- the listing

-- The run of the events es: a fresh CAN-B (document 02, g), then a step for each event, from the image that stood before it. Refused steps
-- count too.
pub record Run (es : List (List ℕ)) (text : List ℕ) : Type 0 where
  pub outcome : ℕ → Outcome
  pub starts : (lent : List ℕ) → length lent ≡ 776 → Fresh lent 0 (outcome 0)
  pub steps : (n : ℕ) → n < length es → Rules (outcome n).image (get_or es n []) (outcome (n + 1))
  pub decimal : ℕ → List ℕ
  pub numerals : (n : ℕ) → Numeral n (decimal n)
  pub whole : text ≡ whole_text decimal outcome (length es)

-- A file that is no trace gets one line, any other the text of its run.
pub record Listing (f text : List ℕ) : Type 0 where
  pub refused : ((a b c : List (List ℕ)) → Trace f a b c → ⊥) → text ≡ ascii "trace refused 8\n"
  pub run : (a b c : List (List ℕ)) → Trace f a b c → Run (a ++ (b ++ c)) text
