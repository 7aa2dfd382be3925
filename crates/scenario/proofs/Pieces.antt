-- The first line of a text and the first field of a line, by the bytes before the first stop.
use Rattle.std.proofs.Common.{◌≡◌, ◌≢◌, ℕ, zero, suc, ◌+◌, ◌<◌, ◌≤◌, Bool, true, false, cond, eqb, ltb, List, [], ◌∷◌, length, get_or, take, drop, Option, Some, None, Bor, MatchOption, sym, refl, ap, ◌∙◌, inl, inr, add-one, arith}
use Rattle.std.specs.Slice.{IsGetRangeResult}
use lib.Dec.{leb-suc-suc}
use Rattle.std.proofs.lemmas.List.{take_rest, drop_more, drop_all}
use Rattle.std.proofs.lemmas.Bool.{le-leb, lt-ltb, le-ltb, eq-eqb, ne_eqb}
use Rattle.output.specs.Lines.{before, lines, fields, onto_first}
use Rattle.scenario.specs.Left.{left}

pub before_part : (s : ℕ) (bs : List ℕ) → take (length (before s bs)) bs ≡ before s bs
before_part s [] = refl
before_part s (b ∷ bs) = go (eqb b s) (before_part s bs)
  where
    go : (t : Bool) → take (length (before s bs)) bs ≡ before s bs → take (length (cond t [] (b ∷ before s bs))) (b ∷ bs) ≡ cond t [] (b ∷ before s bs)
    go true ih = refl
    go false ih = ap (λ xs. b ∷ xs) ih

pub before_length : (s : ℕ) (bs : List ℕ) → length (before s bs) ≤ length bs
before_length s [] = omega arith
before_length s (b ∷ bs) = go (eqb b s) (before_length s bs)
  where
    go : (t : Bool) → length (before s bs) ≤ length bs → length (cond t [] (b ∷ before s bs)) ≤ suc (length bs)
    go true ih = omega arith
    go false ih = omega arith

-- a text up to its first stop
before_at : (s : ℕ) (bs : List ℕ) (n : ℕ) → n < length bs → get_or bs n 0 ≡ s → ((k : ℕ) → k < n → get_or bs k 0 ≢ s) → take n bs ≡ before s bs
before_at s [] n inside stop front = absurd (omega arith)
before_at s (b ∷ bs) zero inside stop front = rw (eq-eqb b s stop)
before_at s (b ∷ bs) (suc n) inside stop front =
    rw (ne_eqb b s (front 0 (omega arith))) (ap (λ xs. b ∷ xs) (before_at s bs n (omega arith) stop (λ k h. front (suc k) (omega arith))))

-- a text without a stop
before_all : (s : ℕ) (bs : List ℕ) → ((k : ℕ) → k < length bs → get_or bs k 0 ≢ s) → bs ≡ before s bs
before_all s [] none = refl
before_all s (b ∷ bs) none =
    rw (ne_eqb b s (none 0 (omega arith))) (ap (λ xs. b ∷ xs) (before_all s bs (λ k h. none (suc k) (omega arith))))

-- the front that a search for the stop tells
pub before_found : (s : ℕ) (bs front : List ℕ) (place : Option ℕ)
    → MatchOption place ((k : ℕ) → k < length bs → get_or bs k 0 ≢ s) (λ n. (n < length bs) × (get_or bs n 0 ≡ s) × ((k : ℕ) → k < n → get_or bs k 0 ≢ s))
    → MatchOption place (front ≡ bs) (λ n. front ≡ take n bs) → front ≡ before s bs
before_found s bs front None none is = is ∙ before_all s bs none
before_found s bs front (Some n) found is = is ∙ before_at s bs n found.0 found.1 found.2

pub lines_first : (bs : List ℕ) → 0 < length bs → lines bs ≡ before 10 bs ∷ lines (drop (length (before 10 bs) + 1) bs)
lines_first [] h = absurd (omega arith)
lines_first (b ∷ []) h = go (eqb b 10)
  where
    go : (t : Bool) → cond t ([] ∷ []) ((b ∷ []) ∷ []) ≡ cond t [] (b ∷ []) ∷ lines (drop (length (cond t [] (b ∷ [])) + 1) (b ∷ []))
    go true = refl
    go false = refl
lines_first (b ∷ c ∷ bs) h = go (eqb b 10) (lines_first (c ∷ bs) (omega arith))
  where
    go : (t : Bool) → lines (c ∷ bs) ≡ before 10 (c ∷ bs) ∷ lines (drop (length (before 10 (c ∷ bs)) + 1) (c ∷ bs))
        → cond t ([] ∷ lines (c ∷ bs)) (onto_first b (lines (c ∷ bs))) ≡ cond t [] (b ∷ before 10 (c ∷ bs)) ∷ lines (drop (length (cond t [] (b ∷ before 10 (c ∷ bs))) + 1) (b ∷ c ∷ bs))
    go true ih = refl
    go false ih = rw (ih, add-one (suc (length (before 10 (c ∷ bs)))), add-one (length (before 10 (c ∷ bs))))

-- the first field, and those behind it
pub fields_first : (bs : List ℕ) → fields bs ≡ before 32 bs ∷ cond (ltb (length (before 32 bs)) (length bs)) (fields (drop (length (before 32 bs) + 1) bs)) []
fields_first [] = refl
fields_first (b ∷ bs) = go (eqb b 32) (fields_first bs)
  where
    go : (t : Bool) → fields bs ≡ before 32 bs ∷ cond (ltb (length (before 32 bs)) (length bs)) (fields (drop (length (before 32 bs) + 1) bs)) []
        → cond t ([] ∷ fields bs) (onto_first b (fields bs))
        ≡ cond t [] (b ∷ before 32 bs) ∷ cond (ltb (length (cond t [] (b ∷ before 32 bs))) (suc (length bs))) (fields (drop (length (cond t [] (b ∷ before 32 bs)) + 1) (b ∷ bs))) []
    go true ih = rw (le-leb 1 (suc (length bs)) (omega arith))
    go false ih = rw (ih, add-one (suc (length (before 32 bs))), add-one (length (before 32 bs)), leb-suc-suc (suc (length (before 32 bs))) (length bs))

pub fields_more : (bs : List ℕ) → length (before 32 bs) < length bs → fields bs ≡ before 32 bs ∷ fields (drop (length (before 32 bs) + 1) bs)
fields_more bs h = fields_first bs ∙ rw (lt-ltb (length (before 32 bs)) (length bs) h)

pub fields_last : (bs : List ℕ) → length bs ≤ length (before 32 bs) → fields bs ≡ before 32 bs ∷ []
fields_last bs h = fields_first bs ∙ rw (le-ltb (length (before 32 bs)) (length bs) h)

-- those behind it are the fields of the rest behind its space
pub fields_behind : (bs field : List ℕ) (r : Option (Bor (List ℕ))) → field ≡ before 32 bs → IsGetRangeResult bs (length field + 1) (length bs) r → fields bs ≡ field ∷ left r
fields_behind bs field None e h = fields_first bs ∙ elim h.0 [
  | inl short ↦ rw (e, le-ltb (length (before 32 bs)) (length bs) (omega (arith, ap length e)))
  | inr never ↦ absurd (omega arith)
]
fields_behind bs field (Some rest) e h =
    fields_first bs
    ∙ rw (lt-ltb (length (before 32 bs)) (length bs) (omega (arith, ap length e)), ← ap length e, ← e) (ap (λ xs. field ∷ fields xs) (sym (h.0.2 ∙ take_rest bs (length field + 1))))

module _ (s : ℕ) (xs : List ℕ) (i : ℕ) where
  pub before_more : i < length xs → (get_or xs i 0 ≡ s → ⊥) → length (before s (drop i xs)) ≡ suc (length (before s (drop (i + 1) xs)))
  before_more h ne = rw (drop_more xs i 0 h, ne_eqb (get_or xs i 0) s ne)

  pub before_stop : i < length xs → get_or xs i 0 ≡ s → length (before s (drop i xs)) ≡ 0
  before_stop h e = rw (drop_more xs i 0 h, eq-eqb (get_or xs i 0) s e)

  pub before_end : length xs ≤ i → length (before s (drop i xs)) ≡ 0
  before_end h = rw (drop_all i xs h)
