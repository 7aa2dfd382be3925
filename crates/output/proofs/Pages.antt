-- Bytes written one behind another.
use Rattle.std.proofs.Common.{◌≡◌, ℕ, ◌+◌, ◌<◌, List, [], ◌∷◌, ◌++◌, length, get_or, take, drop, set, sym, refl, ap, ◌∙◌, append_assoc, zero-add, add-one, arith, length-append}
use Rattle.std.proofs.lemmas.List.{take_at, drop_at, drop-drop, drop_more, set_at, set_split, length-take-le}
use Rattle.output.specs.Written.{over}
use Rattle.output.specs.Output.{page, closed}

pub over_first : (w xs : List ℕ) → over 0 w xs ≡ page w xs
over_first w xs = rw (zero-add (length w))

-- w behind W
pub over_page : (W w xs : List ℕ) → over (length W) w (page W xs) ≡ page (W ++ w) xs
over_page W w xs =
    let Y : List ℕ = drop (length W) xs in
    let back : drop (length W + length w) (W ++ Y) ≡ drop (length W + length w) xs =
    sym (drop-drop (length w) (length W) (W ++ Y)) ∙ ap (drop (length w)) (drop_at W Y (length W) refl) ∙ drop-drop (length w) (length W) xs in
    rw (take_at W Y (length W) refl, back, length-append W w) (sym (append_assoc W w (drop (length W + length w) xs)))

-- `out` begins with W and is xs behind it, and `at` is the place behind W
pub record Stands (xs out : List ℕ) (at : ℕ) (W : List ℕ) : Type 0 where
  pub bytes : out ≡ page W xs
  pub place : at ≡ length W

pub stands_first : {xs out : List ℕ} {at : ℕ} (w : List ℕ) → out ≡ over 0 w xs → at ≡ 0 + length w → Stands xs out at w
stands_first {xs} w o e = record { bytes = o ∙ over_first w xs; place = omega arith }

pub stands_nothing : {xs : List ℕ} {at : ℕ} → at ≡ 0 → Stands xs xs at []
stands_nothing e = record { bytes = refl; place = e }

pub stands_more : {xs out : List ℕ} {at : ℕ} {W : List ℕ} {out' : List ℕ} {at' : ℕ} (w : List ℕ) → Stands xs out at W → out' ≡ over at w out → at' ≡ at + length w → Stands xs out' at' (W ++ w)
stands_more {xs} {out} {at} {W} w s o e = record { bytes = o ∙ rw (s.place, s.bytes) (over_page W w xs); place = omega (arith, length-append W w, s.place) }

-- all of it, in other words
pub page_of : {xs out : List ℕ} {at : ℕ} {W : List ℕ} {w : List ℕ} → Stands xs out at W → W ≡ w → out ≡ page w xs
page_of {xs} s e = s.bytes ∙ ap (λ w. page w xs) e

-- one more byte behind w
pub set_behind : (at b : ℕ) (w xs : List ℕ) → at + length w < length xs → set (over at w xs) (at + length w) b ≡ over at (w ++ (b ∷ [])) xs
set_behind at b w xs h =
    let n : ℕ = at + length w in
    let P : List ℕ = take at xs ++ w in
    let Z : List ℕ = drop (n + 1) xs in
    let long : length P ≡ n = length-append (take at xs) w ∙ ap (λ k. k + length w) (length-take-le at xs (omega arith)) in
    let front : over at w xs ≡ P ++ (get_or xs n 0 ∷ Z) = rw (drop_more xs n 0 h) (sym (append_assoc (take at xs) w (get_or xs n 0 ∷ Z))) in
    let k : at + length (w ++ (b ∷ [])) ≡ n + 1 = omega (arith, length-append w (b ∷ [])) in
    ap (λ o. set o n b) front ∙ set_at P (get_or xs n 0) Z b n long ∙ append_assoc (take at xs) w (b ∷ Z)
    ∙ rw k (ap (λ ys. take at xs ++ ys) (sym (append_assoc w (b ∷ []) Z)))

pub set_one : (at b : ℕ) (xs : List ℕ) → at < length xs → set xs at b ≡ over at (b ∷ []) xs
set_one at b xs h = rw (add-one at) (set_split xs at b h)

-- a number, a letter and a number as they are put, and as one list
pub three_fields : (A N : List ℕ) (l : ℕ) → ((A ++ (32 ∷ [])) ++ (l ∷ 32 ∷ [])) ++ (N ++ (10 ∷ [])) ≡ closed (A ∷ (l ∷ []) ∷ N ∷ [])
three_fields A N l = simp append_assoc
