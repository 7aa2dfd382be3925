-- The chosen job is ahead of every other pending one, and there is one wherever a job is pending.
use Rattle.std.proofs.Common.{◌≡◌, ℕ, zero, suc, ◌≤◌, Bool, true, false, cond, not, ◌≢◌, Some, None, Option, sym, refl, ap, ◌∙◌, arith}
use native.Mathlib.Decide.{ℕ_discrete}
use Rattle.std.proofs.lemmas.Bool.{both_ways}
use Rattle.table.specs.Firsts.{or_else, first_below}
use Rattle.table.specs.Verdict.{Draft}
use Rattle.table.proofs.Firsts.{first_below_at, first_below_all}
use Rattle.order.specs.declared.candidate.Candidate.{Candidate}
use Rattle.order.specs.Orders.{Ahead, TieLaws}
use Rattle.runs.specs.declared.answer.Mode.{Mode}
use Rattle.runs.specs.declared.answer.Job.{Job}
use Rattle.runs.specs.States.{State, is_none}
use Rattle.runs.specs.Choices.{contender, contending_by, contending, better, first_choice, chosen, Turn, turn_by, turn_of, turn}
use Rattle.runs.specs.Ticking.{none_pending}
use Rattle.runs.specs.Laws.{First}
use Rattle.runs.proofs.Keeps.{none≢some}

-- c is a candidate with a number from 1 to n, and ahead of every other
pub record Best (ahead : Ahead) (who : ℕ → Option Candidate) (n : ℕ) (c : Candidate) : Type 0 where
  pub low : 1 ≤ c.number
  pub high : c.number ≤ n
  pub one : who c.number ≡ Some c
  pub first : (k : ℕ) (b : Candidate) → 1 ≤ k → k ≤ n → k ≢ c.number → who k ≡ Some b → ahead c b ≡ true

abbrev pub Picked : Ahead → (ℕ → Option Candidate) → ℕ → Option Candidate → Type 0
Picked ahead who n None = (k : ℕ) → 1 ≤ k → k ≤ n → who k ≡ None
Picked ahead who n (Some c) = Best ahead who n c

module _ (ahead : Ahead) (laws : TieLaws ahead) (who : ℕ → Option Candidate) (own : (k : ℕ) (b : Candidate) → who k ≡ Some b → b.number ≡ k) where
  -- one number more

  none_more : (n : ℕ) → Picked ahead who n None → who (suc n) ≡ None → Picked ahead who (suc n) None
  none_more n p e k lo hi =
      elim (ℕ_discrete k (suc n)) [
        | yes q ↦ rw q e
        | no ne ↦ p k lo (omega arith)
      ]

  first_one : (n : ℕ) (b : Candidate) → Picked ahead who n None → who (suc n) ≡ Some b → Best ahead who (suc n) b
  first_one n b p e =
      let is = own (suc n) b e in
      record {
        low = omega arith;
        high = omega arith;
        one = ap who is ∙ e;
        first = λ k x lo hi ne q. absurd (none≢some x (p k lo (omega arith)) q);
      }

  same_one : (n : ℕ) (a : Candidate) → Best ahead who n a → who (suc n) ≡ None → Best ahead who (suc n) a
  same_one n a p e = record {
    low = p.low;
    high = omega (arith, p.high);
    one = p.one;
    first = λ k x lo hi ne q.
        elim (ℕ_discrete k (suc n)) [
          | yes z ↦ absurd (none≢some x e (rw z at q))
          | no nz ↦ p.first k x lo (omega arith) ne q
        ];
  }

  old_wins : (n : ℕ) (a b : Candidate) → Best ahead who n a → who (suc n) ≡ Some b → ahead a b ≡ true → Best ahead who (suc n) a
  old_wins n a b p e win = record {
    low = p.low;
    high = omega (arith, p.high);
    one = p.one;
    first = λ k x lo hi ne q.
        elim (ℕ_discrete k (suc n)) [
          | yes z ↦ let q' : who (suc n) ≡ Some x = rw z at q in let same : b ≡ x = cc in rw (← same) win
          | no nz ↦ p.first k x lo (omega arith) ne q
        ];
  }

  new_wins : (n : ℕ) (a b : Candidate) → Best ahead who n a → who (suc n) ≡ Some b → ahead a b ≡ false → Best ahead who (suc n) b
  new_wins n a b p e lose = record {
    low = omega (arith, own (suc n) b e);
    high = omega (arith, own (suc n) b e);
    one = ap who (own (suc n) b e) ∙ e;
    first = λ k x lo hi ne q. over k x lo (omega (arith, own (suc n) b e)) q;
  }
    where
      apart : a.number ≢ b.number
      apart q = omega (arith, p.high, own (suc n) b e)

      back : ahead b a ≡ true
      back = laws.one_way a b apart ∙ ap not lose

      over : (k : ℕ) (x : Candidate) → 1 ≤ k → k ≤ n → who k ≡ Some x → ahead b x ≡ true
      over k x lo hi q =
          elim (ℕ_discrete k a.number) [
            | yes z ↦
                let q' : who a.number ≡ Some x = rw z at q in
                let one = p.one in
                let same : a ≡ x = cc in
                rw (← same) back
            | no nz ↦
                let kx = own k x q in
                laws.transitive b a x (λ z. apart (sym z)) (λ z. nz (omega arith)) (λ z. omega (arith, own (suc n) b e)) back (p.first k x lo hi nz q)
          ]

  pub first_is : (n : ℕ) → Picked ahead who n (first_choice ahead n who)
  unfolding first_choice
  first_is zero = λ k lo hi. absurd (omega arith)
  first_is (suc n) = more (first_choice ahead n who) (first_is n) (who (suc n)) refl
    where
      duel : (a b : Candidate) → Best ahead who n a → who (suc n) ≡ Some b → (w : Bool) → ahead a b ≡ w → Best ahead who (suc n) (cond w a b)
      duel a b p e true w = old_wins n a b p e w
      duel a b p e false w = new_wins n a b p e w

      more : (x : Option Candidate) → Picked ahead who n x → (y : Option Candidate) → who (suc n) ≡ y → Picked ahead who (suc n) (better ahead x y)
      more None p None e = none_more n p e
      more None p (Some b) e = first_one n b p e
      more (Some a) p None e = same_one n a p e
      more (Some a) p (Some b) e = duel a b p e (ahead a b) refl

-- two that are first are the same
pub best_same : (ahead : Ahead) → TieLaws ahead → (who : ℕ → Option Candidate) → (n : ℕ) (a b : Candidate) → Best ahead who n a → Best ahead who n b → a ≡ b
best_same ahead laws who n a b p q =
    elim (ℕ_discrete a.number b.number) [
      | yes e ↦
          let x : who a.number ≡ Some a = p.one in
          let y : who a.number ≡ Some b = rw e q.one in
          cc
      | no ne ↦
          let win = p.first b.number b q.low q.high (λ z. ne (sym z)) q.one in
          let lose = q.first a.number a p.low p.high ne p.one in
          absurd (both_ways (ahead b a) (laws.one_way a b ne ∙ ap not win) lose)
    ]

-- jobs are pending only at the numbers 1 to 32
abbrev pub Seated : (ℕ → Option Job) → Type 0
Seated jobs = (i : ℕ) (j : Job) → jobs i ≡ Some j → (1 ≤ i) × (i ≤ 32)

pub unseated : (jobs : ℕ → Option Job) → Seated jobs → ((k : ℕ) → 1 ≤ k → k ≤ 32 → jobs k ≡ None) → (i : ℕ) → jobs i ≡ None
unseated jobs seated none i = go (jobs i) refl
  where
    go : (o : Option Job) → jobs i ≡ o → jobs i ≡ None
    go None e = e
    go (Some j) e = let at = seated i j e in none i at.0 at.1

-- what a turn is
abbrev pub Turned : Draft → Ahead → Mode → State → Option Turn → Type 0
Turned d ahead mode s None = (i : ℕ) → s.job i ≡ None
Turned d ahead mode s (Some t) = First d ahead mode s t.number t.job

module _ (d : Draft) (ahead : Ahead) (laws : TieLaws ahead) (mode : Mode) (s : State) (seated : Seated s.job) where
  behind_by : (i : ℕ) (o : Option Job) (c : Candidate) → contending_by mode d i o ≡ Some c → (j : Job) × (o ≡ Some j) × (c ≡ contender mode d i j)
  behind_by i None c e = let z : ◌≡◌ {A = ℕ} 0 1 = cc in absurd (omega arith)
  behind_by i (Some j) c e = let same : c ≡ contender mode d i j = cc in (j, refl, same)

  number_own : (i : ℕ) (c : Candidate) → contending mode d s.job i ≡ Some c → c.number ≡ i
  number_own i c e = let b = behind_by i (s.job i) c e in ap (λ (x : Candidate). x.number) b.2

  none_by : (i : ℕ) (o : Option Job) → contending_by mode d i o ≡ None → o ≡ None
  none_by i None e = refl
  none_by i (Some j) e = let z : ◌≡◌ {A = ℕ} 0 1 = cc in absurd (omega arith)

  first_of : (c : Candidate) → Best ahead (contending mode d s.job) 32 c → (j : Job) → s.job c.number ≡ Some j → c ≡ contender mode d c.number j → First d ahead mode s c.number j
  first_of c p j e same = record {
    pending = e;
    first = λ k b ne q.
        let at = seated k b q in
        let win = p.first k (contender mode d k b) at.0 at.1 ne (ap (contending_by mode d k) q) in
        sym (ap (λ (x : Candidate). ahead x (contender mode d k b)) same) ∙ win;
  }

  turned : (c : Option Candidate) → Picked ahead (contending mode d s.job) 32 c → Turned d ahead mode s (turn_of s.job c)
  turned None p = unseated s.job seated (λ k lo hi. none_by k (s.job k) (p k lo hi))
  turned (Some c) p = go (s.job c.number) refl
    where
      b : (j : Job) × (s.job c.number ≡ Some j) × (c ≡ contender mode d c.number j)
      b = behind_by c.number (s.job c.number) c p.one

      go : (o : Option Job) → s.job c.number ≡ o → Turned d ahead mode s (turn_by c.number o)
      go None e = absurd (none≢some b.0 e b.1)
      go (Some j) e = let same : j ≡ b.0 = again e b.1 in first_of c p j e (b.2 ∙ ap (contender mode d c.number) (sym same))
        where
          again : {o : Option Job} {x y : Job} → o ≡ Some x → o ≡ Some y → x ≡ y
          again {o} {x} {y} p q = cc

  pub turn_is : Turned d ahead mode s (turn ahead mode d s.job)
  turn_is = turned (chosen ahead mode d s.job) (first_is ahead laws (contending mode d s.job) number_own 32)

-- nothing pending, as a test

first_some : {A : Type 0} (n : ℕ) (f : ℕ → Option A) (a : A) → first_below n f ≡ Some a → (k : ℕ) × (f k ≡ Some a)
unfolding first_below
first_some zero f a e = let z : ◌≡◌ {A = ℕ} 0 1 = cc in absurd (omega arith)
first_some {A = A} (suc n) f a e = go (first_below n f) (first_some n f a) e
  where
    go : (o : Option A) → (o ≡ Some a → (k : ℕ) × (f k ≡ Some a)) → or_else o (f n) ≡ Some a → (k : ℕ) × (f k ≡ Some a)
    go None before e = (n, e)
    go (Some x) before e = before e

pub pending_none : (jobs : ℕ → Option Job) → Seated jobs → none_pending jobs ≡ true → (i : ℕ) → jobs i ≡ None
pending_none jobs seated e = unseated jobs seated (λ k lo hi. at k lo hi)
  where
    empty : (o : Option Job) → is_none o ≡ true → o ≡ None
    empty None q = refl
    empty (Some j) q = absurd (both_ways false refl q)

    at : (k : ℕ) → 1 ≤ k → k ≤ 32 → jobs k ≡ None
    at zero lo hi = absurd (omega arith)
    at (suc k) lo hi = first_below_at 32 (λ k. jobs (suc k)) (empty (first_below 32 (λ k. jobs (suc k))) e) k hi

pub pending_some : (jobs : ℕ → Option Job) → none_pending jobs ≡ false → (i : ℕ) × (j : Job) × (jobs i ≡ Some j)
pending_some jobs e = go (first_below 32 (λ k. jobs (suc k))) refl e
  where
    go : (o : Option Job) → first_below 32 (λ k. jobs (suc k)) ≡ o → is_none o ≡ false → (i : ℕ) × (j : Job) × (jobs i ≡ Some j)
    go None q x = absurd (both_ways true x refl)
    go (Some j) q x = let b = first_some 32 (λ k. jobs (suc k)) j q in (suc b.0, j, b.1)

pub none_pending_true : (jobs : ℕ → Option Job) → ((k : ℕ) → 1 ≤ k → k ≤ 32 → jobs k ≡ None) → none_pending jobs ≡ true
none_pending_true jobs none = ap is_none (first_below_all 32 (λ k. jobs (suc k)) (λ k l. none (suc k) (omega arith) l))

pub none_pending_false : (jobs : ℕ → Option Job) (i : ℕ) (j : Job) → 1 ≤ i → i ≤ 32 → jobs i ≡ Some j → none_pending jobs ≡ false
none_pending_false jobs i j lo hi e = go i lo hi e (none_pending jobs) refl
  where
    empty : (o : Option Job) → is_none o ≡ true → o ≡ None
    empty None q = refl
    empty (Some x) q = absurd (both_ways false refl q)

    go : (i : ℕ) → 1 ≤ i → i ≤ 32 → jobs i ≡ Some j → (b : Bool) → none_pending jobs ≡ b → none_pending jobs ≡ false
    go i lo hi e false q = q
    go zero lo hi e true q = absurd (omega arith)
    go (suc k) lo hi e true q = absurd (none≢some j (first_below_at 32 (λ k. jobs (suc k)) (empty (first_below 32 (λ k. jobs (suc k))) q) k hi) e)

-- whatever is first is the chosen one

numbered : (d : Draft) (mode : Mode) (jobs : ℕ → Option Job) (k : ℕ) (o : Option Job) (c : Candidate) → contending_by mode d k o ≡ Some c → c.number ≡ k
numbered d mode jobs k None c e = let z : ◌≡◌ {A = ℕ} 0 1 = cc in absurd (omega arith)
numbered d mode jobs k (Some j) c e = let same : c ≡ contender mode d k j = cc in ap (λ (x : Candidate). x.number) same

pub chosen_some : (d : Draft) (ahead : Ahead) → TieLaws ahead → (mode : Mode) (jobs : ℕ → Option Job) (c : Candidate) → Best ahead (contending mode d jobs) 32 c → chosen ahead mode d jobs ≡ Some c
chosen_some d ahead laws mode jobs c best = go (chosen ahead mode d jobs) (first_is ahead laws (contending mode d jobs) (λ k b e. numbered d mode jobs k (jobs k) b e) 32)
  where
    go : (o : Option Candidate) → Picked ahead (contending mode d jobs) 32 o → o ≡ Some c
    go None p = absurd (none≢some c (p c.number best.low best.high) best.one)
    go (Some x) p = ap Some (best_same ahead laws (contending mode d jobs) 32 x c p best)

pub chosen_none : (d : Draft) (ahead : Ahead) → TieLaws ahead → (mode : Mode) (jobs : ℕ → Option Job) → ((k : ℕ) → 1 ≤ k → k ≤ 32 → jobs k ≡ None) → chosen ahead mode d jobs ≡ None
chosen_none d ahead laws mode jobs none = go (chosen ahead mode d jobs) (first_is ahead laws (contending mode d jobs) (λ k b e. numbered d mode jobs k (jobs k) b e) 32)
  where
    go : (o : Option Candidate) → Picked ahead (contending mode d jobs) 32 o → o ≡ None
    go None p = refl
    go (Some x) p = absurd (none≢some x (ap (contending_by mode d x.number) (none x.number p.low p.high)) p.one)

-- the same for a turn: a job that is ahead of every other pending one has it
pub turn_some : (d : Draft) (ahead : Ahead) → TieLaws ahead → (mode : Mode) (s : State) → Seated s.job → (i : ℕ) (j : Job) → First d ahead mode s i j → turn ahead mode d s.job ≡ Some (record { number = i; job = j })
turn_some d ahead laws mode s seated i j f =
    let at = seated i j f.pending in
    let best : Best ahead (contending mode d s.job) 32 (contender mode d i j) = record {
      low = at.0;
      high = at.1;
      one = ap (contending_by mode d i) f.pending;
      first = λ k b lo hi ne e. over k b ne (s.job k) refl e;
    } in
    ap (turn_of s.job) (chosen_some d ahead laws mode s.job (contender mode d i j) best) ∙ ap (turn_by i) f.pending
  where
    over : (k : ℕ) (b : Candidate) → k ≢ i → (o : Option Job) → s.job k ≡ o → contending_by mode d k o ≡ Some b → ahead (contender mode d i j) b ≡ true
    over k b ne None q e = let z : ◌≡◌ {A = ℕ} 0 1 = cc in absurd (omega arith)
    over k b ne (Some x) q e = let same : contender mode d k x ≡ b = cc in ap (ahead (contender mode d i j)) (sym same) ∙ f.first k x ne q

pub turn_none : (d : Draft) (ahead : Ahead) → TieLaws ahead → (mode : Mode) (jobs : ℕ → Option Job) → ((k : ℕ) → 1 ≤ k → k ≤ 32 → jobs k ≡ None) → turn ahead mode d jobs ≡ None
turn_none d ahead laws mode jobs none = ap (turn_of jobs) (chosen_none d ahead laws mode jobs none)
